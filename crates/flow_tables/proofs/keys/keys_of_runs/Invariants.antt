use Rattle.std.proofs.Common.{List, take}
use Rattle.flow_base.specs.Syntax.{Bytes}
use Rattle.flow_model.specs.Book.{Book}
use Rattle.flow_maps.specs.Serving.{Serves}
use Rattle.flow_maps.specs.Undoing.{GoesBack}
use Rattle.flow_tables.proofs.keys.keys_of_runs.Given as goal

abbrev pub invariant-loop-run : goal.invariant-loop-run
invariant-loop-run l = ((texts : List Bytes) → Serves l.maps (record { texts = texts; runs = take l.run-index l.runs })) × ((b : Book) → GoesBack l.maps b b)
