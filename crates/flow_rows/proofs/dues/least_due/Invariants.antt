use Rattle.std.proofs.Common.{◌≡◌, drop, None}
use Rattle.flow_rows.specs.Dues.{least_of_rows}
use Rattle.flow_rows.proofs.dues.least_due.Given as goal

abbrev pub invariant-loop-row : goal.invariant-loop-row
invariant-loop-row l = least_of_rows l.by None l.rows ≡ least_of_rows l.by l.least (drop l.row-index l.rows)
