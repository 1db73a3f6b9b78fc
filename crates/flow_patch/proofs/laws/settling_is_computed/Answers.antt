use Rattle.flow_patch.proofs.Settles.{unsettled_decides}
use Rattle.flow_patch.proofs.laws.settling_is_computed.Goals as goal

pub returns : goal.returns
returns c = unsettled_decides
