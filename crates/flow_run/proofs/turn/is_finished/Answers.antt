use Rattle.flow_run.proofs.Turning.{first_full, finished_first, finished_none}
use Rattle.flow_run.proofs.turn.is_finished.Goals as goal

pub is_over-requires : goal.is_over-requires
is_over-requires c = first_full c.args.table.now.lists.items c.args.cells.now c.in-Some.cell.now c.in-Some.ensures.value c.requires

pub returns-in-Some : goal.returns-in-Some
returns-in-Some c = finished_first c.args.table.now.lists.items c.args.cells.now c.in-Some.cell.now c.is_over.result c.in-Some.ensures.value c.requires c.is_over.ensures

pub returns-in-None : goal.returns-in-None
returns-in-None c = finished_none c.args.table.now.lists.items c.args.cells.now c.in-None.ensures.value
