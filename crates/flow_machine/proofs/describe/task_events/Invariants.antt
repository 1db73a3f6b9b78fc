use Rattle.std.proofs.Common.{◌≡◌, take, map}
use Rattle.flow_base.specs.declared.book.OpenActivity.{OpenActivity}
use Rattle.flow_machine.proofs.describe.task_events.Given as goal

abbrev pub invariant-loop-task : goal.invariant-loop-task
invariant-loop-task l = l.list.items ≡ map (λ (t : OpenActivity). t.event) (take l.task-index l.tasks)
