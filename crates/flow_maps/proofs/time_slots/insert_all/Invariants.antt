use Rattle.std.specs.Prelude.{◌≡◌, ◌||◌}
use Rattle.flow_maps.proofs.Names.{drop, contains, Slot, slot_cmp, has_slot}
use Rattle.flow_maps.proofs.time_slots.insert_all.Given as goal

abbrev pub invariant-loop-thing : goal.invariant-loop-thing
invariant-loop-thing g l = (q : Slot) → (contains slot_cmp l.slots q || has_slot g.T.Dated.date l.run (drop l.thing-index l.things) q) ≡ (contains slot_cmp l.fn.slots q || has_slot g.T.Dated.date l.run l.things q)
