use Rattle.std.specs.Prelude.{◌≡◌}
use Rattle.flow_maps.proofs.Names.{drop, soonest, waiting_in}
use Rattle.flow_maps.proofs.outlook.soonest.Given as goal

abbrev pub invariant-loop-task : goal.invariant-loop-task
invariant-loop-task l = soonest l.at l.least (waiting_in l.run (drop l.task-index l.tasks)) ≡ soonest l.at l.fn.best (waiting_in l.run l.tasks)
