use Rattle.std.proofs.Common.{◌≡◌, take}
use Rattle.flow_values.proofs.slots.with_name.Given as goal

abbrev pub invariant-loop-n : goal.invariant-loop-n
invariant-loop-n l = l.list.items ≡ take l.n-index l.names
