use Rattle.std.proofs.Common.{◌≡◌, drop}
use Rattle.flow_values.specs.Named.{look_up}
use Rattle.flow_values.proofs.named.NamedValues.find.Given as goal

abbrev pub invariant-loop-e : goal.invariant-loop-e
invariant-loop-e l = look_up l.self l.name ≡ look_up (drop l.e-index l.self) l.name
