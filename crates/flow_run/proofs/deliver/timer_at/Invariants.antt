use Rattle.std.proofs.Common.{take}
use Rattle.flow_run.specs.Waiting.{NoneOf, on_timer}
use Rattle.flow_run.proofs.deliver.timer_at.Given as goal

abbrev pub invariant-loop-i : goal.invariant-loop-i
invariant-loop-i l = NoneOf (on_timer l.n) (take l.i l.cells)
