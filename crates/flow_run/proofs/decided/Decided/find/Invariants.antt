use Rattle.std.proofs.Common.{◌≡◌, drop}
use Rattle.flow_values.specs.Named.{look_up}
use Rattle.flow_run.proofs.decided.Decided.find.Given as goal

-- what is still to be read answers for the whole
abbrev pub invariant-loop-e : goal.invariant-loop-e
invariant-loop-e l = look_up l.self l.id ≡ look_up (drop l.e-index l.self) l.id
