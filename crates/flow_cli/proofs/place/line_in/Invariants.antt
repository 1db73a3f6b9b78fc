-- The bytes so far are of the line.
use Rattle.std.proofs.Common.{◌≡◌, ◌++◌, take, drop}
use Rattle.flow_cli.specs.Places.{first_line}
use Rattle.flow_cli.proofs.place.line_in.Given as goal

abbrev pub invariant-loop-i : goal.invariant-loop-i
invariant-loop-i l = take l.i l.bytes ++ first_line (drop l.i l.bytes) ≡ first_line l.bytes
