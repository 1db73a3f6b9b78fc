use Rattle.std.proofs.Common.{◌≡◌, drop}
use Rattle.flow_machine.specs.Seated.{without_entries}
use Rattle.flow_machine.proofs.seats.let_all_go.Given as goal

abbrev pub invariant-loop-run : goal.invariant-loop-run
invariant-loop-run l = without_entries (drop l.run-index l.runs) l.kept ≡ without_entries l.runs l.fn.kept
