use Rattle.std.proofs.Common.{rules, inr, refl, sym, ap}
use Rattle.flow_hub.specs.Knowing.{with_member}
use Rattle.flow_hub.proofs.Growing.{before_self, same_part, grows_by, part_by}
use Rattle.flow_hub.proofs.Sound.{enrolls}
use Rattle.flow_hub.proofs.state.State.enroll.Goals as goal

pub invariant_of-self : goal.invariant_of-self
invariant_of-self g c = (
  enrolls _ c.self.invariant.0,
  search rules,
  search rules,
  search rules,
  search rules,
  search rules,
  search rules,
  search rules,
  search rules,
  search rules,
  search rules,
  search rules,
  search rules,
  search rules,
  search rules,
)

pub admit-badge-requires-clause-one_more : goal.admit-badge-requires-clause-one_more
admit-badge-requires-clause-one_more g c = ap with_member (sym c.self.invariant.13)

pub tell-seat-requires-clause-may : goal.tell-seat-requires-clause-may
tell-seat-requires-clause-may g c = let now = with_member c.self.inside.known in inr (part_by c.admit-badge.new.keeper.all now now now c.admit-badge.ensures.keeper.1 refl (same_part now))

pub tell-seat-requires-clause-grows : goal.tell-seat-requires-clause-grows
tell-seat-requires-clause-grows g c = let now = with_member c.self.inside.known in grows_by c.admit-badge.new.keeper.all now now now c.admit-badge.ensures.keeper.1 refl (before_self now)
