use Rattle.flow_machine.proofs.Orderly.{nothing_orderly, orderly_after}
use Rattle.flow_machine.proofs.laws.orderly_after.Goals as goal

pub returns-clause-nothing : goal.returns-clause-nothing
returns-clause-nothing c = nothing_orderly

pub returns-clause-after : goal.returns-clause-after
returns-clause-after c = orderly_after
