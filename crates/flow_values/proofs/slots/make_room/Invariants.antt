use Rattle.std.proofs.Common.{◌≡◌, ◌+◌, ◌-◌, length}
use Rattle.flow_base.specs.declared.value.Value.{Value}
use Rattle.flow_values.specs.Slots.{written}
use Rattle.flow_values.proofs.slots.make_room.Given as goal

abbrev pub invariant-loop-values : goal.invariant-loop-values
invariant-loop-values l = (v : Value) → written l.values.items l.i v ≡ written l.initial.values.items l.i v

abbrev pub decreases-loop-values : goal.decreases-loop-values
decreases-loop-values l = l.i + 1 - length l.values.items
