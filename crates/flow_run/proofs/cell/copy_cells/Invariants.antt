use Rattle.std.proofs.Common.{◌≡◌, take}
use Rattle.flow_run.specs.Flat.{contents_of}
use Rattle.flow_run.proofs.cell.copy_cells.Given as goal

abbrev pub invariant-loop-c : goal.invariant-loop-c
invariant-loop-c l = contents_of l.list.items ≡ contents_of (take l.c-index l.cells)
