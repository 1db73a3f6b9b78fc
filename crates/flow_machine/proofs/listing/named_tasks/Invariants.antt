use Rattle.std.proofs.Common.{◌≡◌, ◌++◌, drop}
use Rattle.flow_model.specs.Apply.{named_tasks}
use Rattle.flow_machine.proofs.listing.named_tasks.Given as goal

abbrev pub invariant-loop-task : goal.invariant-loop-task
invariant-loop-task l = named_tasks l.events l.tasks ≡ l.list.items ++ named_tasks l.events (drop l.task-index l.tasks)
