use Rattle.std.proofs.Common.{◌≡◌, []}
use Rattle.flow_recover.specs.Filling.{AreLedTo}
use Rattle.flow_recover.proofs.filling.seats_of.Given as goal

abbrev pub invariant-loop-i : goal.invariant-loop-i
invariant-loop-i l = (l.seats.kept.entries ≡ []) × AreLedTo l.positions l.seats.ahead.items
