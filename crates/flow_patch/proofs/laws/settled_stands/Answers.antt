use Rattle.flow_patch.proofs.Refuted.{no_is_refused}
use Rattle.flow_patch.proofs.Settled.{settled_stands}
use Rattle.flow_patch.proofs.laws.settled_stands.Goals as goal

pub returns-clause-stands : goal.returns-clause-stands
returns-clause-stands c = settled_stands

pub returns-clause-no_is_refused : goal.returns-clause-no_is_refused
returns-clause-no_is_refused c = no_is_refused
