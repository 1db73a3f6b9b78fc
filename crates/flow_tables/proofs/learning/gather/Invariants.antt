use Rattle.std.proofs.Common.{◌≡◌, ◌+◌, drop, length}
use Rattle.flow_tables.specs.Calls.{LooksOn}
use Rattle.flow_tables.proofs.learning.gather.Given as goal

abbrev pub invariant-loop-count : goal.invariant-loop-count
invariant-loop-count g l = record {
  looked : LooksOn g.V.Runs.shows l.fn.view l.view;
  numbered : length l.numbers.items ≡ l.count;
  gathers : g.V.Runs.shows.is_sure l.view → g.G.Gathers.comes_to l.gathered (l.count + 1) (drop l.count (g.V.Runs.shows.book l.fn.view).runs) ≡ g.G.Gathers.comes_to l.fn.gathers 1 (g.V.Runs.shows.book l.fn.view).runs;
}
