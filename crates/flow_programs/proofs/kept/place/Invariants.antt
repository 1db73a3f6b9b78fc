use Rattle.std.proofs.Common.{◌≡◌, ◌++◌, take, drop}
use Rattle.flow_programs.specs.Keeping.{is_kept, without}
use Rattle.flow_programs.proofs.kept.place.Given as goal

abbrev pub invariant-loop-i : goal.invariant-loop-i
invariant-loop-i g l = record {
  kept : is_kept l.text (drop l.i l.programs) ≡ is_kept l.text l.programs;
  others : take l.i l.programs ++ without l.text (drop l.i l.programs) ≡ without l.text l.programs;
}
