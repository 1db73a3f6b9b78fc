use Rattle.std.proofs.Common.{◌≡◌, take}
use Rattle.flow_run.proofs.cell.copy_places.Given as goal

abbrev pub invariant-loop-p : goal.invariant-loop-p
invariant-loop-p l = l.list.items ≡ take l.p-index l.places
