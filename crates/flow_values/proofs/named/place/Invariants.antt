use Rattle.std.proofs.Common.{◌≡◌, ◌++◌, drop, take}
use Rattle.flow_base.specs.declared.value.Value.{Value}
use Rattle.flow_values.specs.Named.{put}
use Rattle.flow_values.proofs.named.place.Given as goal

abbrev pub invariant-loop-i : goal.invariant-loop-i
invariant-loop-i l = (v : Value) → put l.name v l.entries ≡ take l.i l.entries ++ put l.name v (drop l.i l.entries)
