-- The bytes so far led here, and those that are left lead on.
use Rattle.std.proofs.Common.{◌≡◌, ◌+◌, ◌≤◌, drop}
use Rattle.flow_cli.specs.Places.{passed}
use Rattle.flow_cli.proofs.place.spot_of.Given as goal

abbrev pub invariant-loop-i : goal.invariant-loop-i
invariant-loop-i l =
    (passed l.i (record { line = l.line; column = l.column; begins = l.begins }) (drop l.i l.front) ≡ passed 0 (record { line = 1; column = 1; begins = 0 }) l.front)
    × ((l.line ≤ l.i + 1) × ((1 ≤ l.column) × ((l.column ≤ l.i + 1) × (l.begins ≤ l.i))))
