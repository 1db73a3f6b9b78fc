use Rattle.std.proofs.Common.{rules, false}
use Rattle.flow_hub.proofs.Sound.{rung_still}
use Rattle.flow_hub.proofs.state.State.was_rung.Goals as goal

pub invariant_of-self : goal.invariant_of-self
invariant_of-self g c = (
  rung_still _ false c.self.invariant.0,
  search rules,
  search rules,
  search rules,
  search rules,
  search rules,
  search rules,
  search rules,
  search rules,
  search rules,
  search rules,
  search rules,
  search rules,
  search rules,
  search rules,
)
