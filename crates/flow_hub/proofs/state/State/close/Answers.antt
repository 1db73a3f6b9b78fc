use Rattle.std.proofs.Common.{rules, inr, refl}
use Rattle.flow_hub.proofs.Growing.{closes_on, closes_part, grows_by, part_by}
use Rattle.flow_hub.proofs.Sound.{closes}
use Rattle.flow_hub.proofs.state.State.close.Goals as goal

pub invariant_of-self : goal.invariant_of-self
invariant_of-self g c = (
  closes _ c.self.invariant.0,
  search rules,
  search rules,
  search rules,
  search rules,
  search rules,
  search rules,
  search rules,
  search rules,
  search rules,
  search rules,
  search rules,
  search rules,
  search rules,
  search rules,
)

pub tell-seat-requires-clause-may : goal.tell-seat-requires-clause-may
tell-seat-requires-clause-may g c = inr (part_by c.self.inside.keeper.all c.self.inside.known _ _ c.self.invariant.13 refl (closes_part c.self.inside.known))

pub tell-seat-requires-clause-grows : goal.tell-seat-requires-clause-grows
tell-seat-requires-clause-grows g c = grows_by c.self.inside.keeper.all c.self.inside.known _ _ c.self.invariant.13 refl (closes_on c.self.inside.known)
