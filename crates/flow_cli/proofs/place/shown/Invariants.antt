-- What was taken, and what is taken of the bytes that are left, is all.
use Rattle.std.proofs.Common.{◌≡◌, ◌≤◌, ◌++◌, drop}
use Rattle.flow_cli.specs.Places.{between}
use Rattle.flow_cli.proofs.place.shown.Given as goal

abbrev pub invariant-loop-byte : goal.invariant-loop-byte
invariant-loop-byte l =
    (l.bytes.items ++ between l.window.from l.window.to l.column (drop l.byte-index l.line) ≡ between l.window.from l.window.to 0 l.line)
    × (l.column ≤ l.byte-index)
