use Rattle.flow_machine.proofs.GoingOn.{first_turn_reaches, standing_is_reached, turn_reaches}
use Rattle.flow_machine.proofs.reached.turns_reach.Goals as goal

pub returns-clause-standing : goal.returns-clause-standing
returns-clause-standing c = standing_is_reached

pub returns-clause-turn : goal.returns-clause-turn
returns-clause-turn c = turn_reaches

pub returns-clause-first : goal.returns-clause-first
returns-clause-first c = first_turn_reaches
