use Rattle.std.proofs.Common.{◌≡◌, drop}
use Rattle.flow_patch.specs.Difference.{same_types}
use Rattle.flow_patch.proofs.same.same_types.Given as goal

-- what is left answers for the whole
abbrev pub invariant-loop-t : goal.invariant-loop-t
invariant-loop-t l = same_types l.left l.right ≡ same_types (drop l.t-index l.left) l.others
