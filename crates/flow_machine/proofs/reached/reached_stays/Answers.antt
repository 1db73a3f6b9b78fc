use Rattle.flow_machine.proofs.GoingOn.{reached_stands, reached_stays, reached_stays_after}
use Rattle.flow_machine.proofs.reached.reached_stays.Goals as goal

pub returns-clause-changes : goal.returns-clause-changes
returns-clause-changes c = reached_stays

pub returns-clause-commands : goal.returns-clause-commands
returns-clause-commands c = reached_stays_after

pub returns-clause-stands : goal.returns-clause-stands
returns-clause-stands c = reached_stands
