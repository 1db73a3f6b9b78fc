use Rattle.flow_machine.proofs.Limited.{changes_within}
use Rattle.flow_machine.proofs.laws.changes_fit.Goals as goal

pub returns : goal.returns
returns c = changes_within
