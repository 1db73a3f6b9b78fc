use Rattle.std.specs.Prelude.{◌≡◌, ◌++◌}
use Rattle.flow_maps.proofs.Names.{drop, filter, is_within, waiting_in}
use Rattle.flow_maps.proofs.outlook.add_tasks.Given as goal

abbrev pub invariant-loop-task : goal.invariant-loop-task
invariant-loop-task l = l.list.items ++ filter (is_within l.since l.at) (waiting_in l.run (drop l.task-index l.tasks)) ≡ l.fn.list.items ++ filter (is_within l.since l.at) (waiting_in l.run l.tasks)
