use Rattle.std.proofs.Common.{◌+◌, drop}
use Rattle.flow_model.specs.Apply.{named_tasks}
use Rattle.flow_machine.proofs.OpenRuns.{cut_at, one_named}
use Rattle.flow_machine.proofs.listing.named_tasks.Goals as goal

pub loop-task-preserved : goal.loop-task-preserved
loop-task-preserved c =
    let events = c.args.events.now in
    let tasks = c.args.tasks.now in
    let i = c.loop-task.task-index in
    let task = c.task-item.result in
    one_named events (named_tasks events tasks) (drop i tasks) task (drop (i + 1) tasks) c.loop-task.list.items c.list_named.new.list.items (cut_at tasks i task c.loop-task-test.true c.task-item.is) c.loop-task.invariant c.in_ok-list_named.ensures
