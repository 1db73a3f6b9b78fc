use Rattle.flow_plain.proofs.Stores.{set_store}
use Rattle.flow_plain.proofs.step.set.Goals as goal

pub returns : goal.returns
returns c = set_store _ _ _ _ _ _ _ c.in_ok-set.ensures.ok
