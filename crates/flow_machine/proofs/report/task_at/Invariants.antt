use Rattle.std.proofs.Common.{◌≡◌, drop}
use Rattle.flow_model.specs.Apply.{task_at}
use Rattle.flow_machine.proofs.report.task_at.Given as goal

abbrev pub invariant-loop-i : goal.invariant-loop-i
invariant-loop-i l = task_at l.tasks l.event ≡ task_at (drop l.i l.tasks) l.event
