use Rattle.flow_model.proofs.Positions.{turn_computed, turned_is, position_computed}
use Rattle.flow_model.proofs.laws.turns_are_computed.Goals as goal

pub returns-clause-computed : goal.returns-clause-computed
returns-clause-computed c = turn_computed

pub returns-clause-made : goal.returns-clause-made
returns-clause-made c = turned_is

pub returns-clause-position : goal.returns-clause-position
returns-clause-position c = position_computed
