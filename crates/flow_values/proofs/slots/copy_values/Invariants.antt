use Rattle.std.proofs.Common.{◌≡◌, take}
use Rattle.flow_values.proofs.slots.copy_values.Given as goal

abbrev pub invariant-loop-v : goal.invariant-loop-v
invariant-loop-v l = l.list.items ≡ take l.v-index l.values
