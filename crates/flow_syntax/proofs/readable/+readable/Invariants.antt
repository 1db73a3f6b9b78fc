use Rattle.std.proofs.Common.{map, drop}
use Rattle.flow_base.specs.Shown.{shown_block, shown_branch, branches_of}
use Rattle.flow_syntax.specs.Print.{AreReadable, AreReadableBranches}
use Rattle.flow_syntax.proofs.readable.+readable.Given as goal

-- if what is left is readable, the whole is
abbrev pub invariant-statements-loop-stmt : goal.invariant-statements-loop-stmt
invariant-statements-loop-stmt l = AreReadable (shown_block (drop l.stmt-index l.list)) → AreReadable (shown_block l.list)

abbrev pub invariant-branches-loop-branch : goal.invariant-branches-loop-branch
invariant-branches-loop-branch l = AreReadableBranches (branches_of (map shown_branch (drop l.branch-index l.list))) → AreReadableBranches (branches_of (map shown_branch l.list))
