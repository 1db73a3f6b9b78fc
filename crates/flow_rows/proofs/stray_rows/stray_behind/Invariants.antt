use Rattle.std.proofs.Common.{◌≡◌, map, drop}
use Rattle.flow_rows.specs.Damages.{first_of, strays, is_behind}
use Rattle.flow_rows.proofs.stray_rows.stray_behind.Given as goal

abbrev pub invariant-loop-row : goal.invariant-loop-row
invariant-loop-row g l =
    first_of (strays l.table (is_behind l.runs) (map g.R.OfRun.place l.rows))
    ≡ first_of (strays l.table (is_behind l.runs) (map g.R.OfRun.place (drop l.row-index l.rows)))
