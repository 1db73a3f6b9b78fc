use Rattle.std.proofs.Common.{take}
use Rattle.flow_run.specs.Waiting.{NoneOf, on_activity}
use Rattle.flow_run.proofs.deliver.activity_at.Given as goal

abbrev pub invariant-loop-i : goal.invariant-loop-i
invariant-loop-i l = NoneOf (on_activity l.n) (take l.i l.cells)
