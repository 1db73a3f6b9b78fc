use Rattle.std.proofs.Common.{◌≡◌, drop, pos}
use Rattle.std.specs.List.{list_any}
use Rattle.flow_tables.specs.Puts.{is_task_at}
use Rattle.flow_tables.proofs.run_changes.has_task.Given as goal

abbrev pub invariant-loop-row : goal.invariant-loop-row
invariant-loop-row l = list_any (is_task_at (pos l.event)) l.rows ≡ list_any (is_task_at (pos l.event)) (drop l.row-index l.rows)
