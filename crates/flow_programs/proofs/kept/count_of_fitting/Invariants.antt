use Rattle.std.proofs.Common.{◌≡◌, ◌++◌, take, drop}
use Rattle.flow_programs.specs.Keeping.{fitting}
use Rattle.flow_programs.proofs.kept.count_of_fitting.Given as goal

abbrev pub invariant-loop-i : goal.invariant-loop-i
invariant-loop-i g l = take l.i l.programs ++ fitting l.left (drop l.i l.programs) ≡ fitting l.room l.programs
