use Rattle.std.proofs.Common.{take}
use Rattle.flow_maps.specs.Serving.{Serves}
use Rattle.flow_tables.specs.Calls.{LooksOn}
use Rattle.flow_tables.proofs.learning.learn_runs.Given as goal

abbrev pub invariant-loop-count : goal.invariant-loop-count
invariant-loop-count g l = record {
  looked : LooksOn g.V.Runs.shows l.fn.view l.view;
  serves : g.V.Runs.shows.is_sure l.view → Serves l.maps (record { texts = (g.V.Runs.shows.book l.fn.view).texts; runs = take l.count (g.V.Runs.shows.book l.fn.view).runs });
}
