use Rattle.std.proofs.Common.{◌≡◌, map, take}
use Rattle.flow_tables.proofs.rows.read_all.Given as goal

-- what the rows read so far say
abbrev pub invariant-loop-row : goal.invariant-loop-row
invariant-loop-row g l = l.list.items ≡ map g.T.Said.said (take l.row-index l.rows)
