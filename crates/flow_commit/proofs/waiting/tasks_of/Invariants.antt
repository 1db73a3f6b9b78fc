use Rattle.std.proofs.Common.{◌≡◌, ◌++◌, drop}
use Rattle.flow_commit.specs.Boards.{tasks_of}
use Rattle.flow_commit.proofs.waiting.tasks_of.Given as goal

abbrev pub invariant-loop-entry : goal.invariant-loop-entry
invariant-loop-entry g l = record {
  still : g.V.View.is_sure l.view → g.V.View.book l.view ≡ g.V.View.book l.fn.view;
  later : g.V.View.is_sure l.view → l.list.items ++ tasks_of (g.V.View.book l.fn.view) (drop l.entry-index l.wanted) ≡ tasks_of (g.V.View.book l.fn.view) l.wanted;
  goes_on : g.V.View.is_true l.view → g.V.View.is_sure l.fn.view → g.V.View.is_sure l.view;
  sure : g.V.View.is_sure l.view → g.V.View.is_sure l.fn.view;
  was_true : g.V.View.is_true l.view → g.V.View.is_true l.fn.view;
  follows : (a : g.row.V.Denot) → g.V.View.follows a l.fn.view → g.V.View.follows a l.view;
}
