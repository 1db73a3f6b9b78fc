use Rattle.std.proofs.Common.{rules, true}
use Rattle.flow_hub.proofs.Sound.{rung_still}
use Rattle.flow_hub.proofs.state.State.ring.Goals as goal

pub invariant_of-self : goal.invariant_of-self
invariant_of-self g c = (
  rung_still _ true c.self.invariant.0,
  search rules,
  search rules,
  search rules,
  search rules,
  search rules,
  search rules,
  search rules,
  search rules,
  search rules,
  search rules,
  search rules,
  search rules,
  search rules,
  search rules,
)
