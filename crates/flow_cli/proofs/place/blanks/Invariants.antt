-- The blanks so far, and those for the bytes that are left, are all.
use Rattle.std.proofs.Common.{◌≡◌, ◌++◌, drop}
use Rattle.flow_cli.specs.Places.{blanks_of}
use Rattle.flow_cli.proofs.place.blanks.Given as goal

abbrev pub invariant-loop-byte : goal.invariant-loop-byte
invariant-loop-byte l = l.blanks.items ++ blanks_of (drop l.byte-index l.bytes) ≡ blanks_of l.bytes
