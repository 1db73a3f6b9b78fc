use Rattle.std.specs.Prelude.{◌+◌}
use Rattle.flow_maps.proofs.Names.{subst, IsKeyRangeOf, Included, Unbounded, slot_cmp}
use Rattle.flow_maps.proofs.Sooner.{next_none, next_some}
use Rattle.flow_maps.proofs.outlook.next_slot.Goals as goal

pub returns-in_default : goal.returns-in_default
returns-in_default c = let s = c.args.ready.now in let r = c.range-later.result in
    next_none s r c.args.at (subst (λ n. IsKeyRangeOf slot_cmp (Included (n + 1, 0, 0)) Unbounded s r) c.get.ensures.value (c.range-later.ensures.in_range tt)) c.in_default.ensures.steps.0

pub returns-in-Some-new : goal.returns-in-Some-new
returns-in-Some-new c = let s = c.args.ready.now in let r = c.range-later.result in
    next_some s r c.args.at (subst (λ n. IsKeyRangeOf slot_cmp (Included (n + 1, 0, 0)) Unbounded s r) c.get.ensures.value (c.range-later.ensures.in_range tt)) c.in-Some.slot.now _ c.in-Some.ensures.steps c.in-Some-new.moment c.in-Some-new.ensures.value
