use Rattle.std.proofs.Common.{take}
use Rattle.flow_tables.proofs.Names.{AllByRecursion}
use Rattle.flow_tables.proofs.utf8.all_are_utf8.Given as goal

-- the rows read so far
abbrev pub invariant-loop-row : goal.invariant-loop-row
invariant-loop-row g l = AllByRecursion g.R.HasTexts.utf8 (take l.row-index l.rows)
