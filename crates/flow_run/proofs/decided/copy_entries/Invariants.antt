use Rattle.std.proofs.Common.{◌≡◌, take}
use Rattle.flow_run.proofs.decided.copy_entries.Given as goal

abbrev pub invariant-loop-e : goal.invariant-loop-e
invariant-loop-e l = l.list.items ≡ take l.e-index l.entries
