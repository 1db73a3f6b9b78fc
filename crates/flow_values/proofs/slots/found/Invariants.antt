use Rattle.std.proofs.Common.{◌≡◌, drop}
use Rattle.flow_values.specs.Held.{held}
use Rattle.flow_values.specs.Slots.{slot_of, slots}
use Rattle.flow_values.proofs.slots.found.Given as goal

abbrev pub invariant-loop-i : goal.invariant-loop-i
invariant-loop-i l =
    slot_of (slots l.names (held l.values (λ a. a.value.items))) l.name ≡ slot_of (slots (drop l.i l.names) (drop l.i (held l.values (λ a. a.value.items)))) l.name
