use Rattle.std.proofs.Common.{◌≡◌, map, drop}
use Rattle.flow_base.specs.Shown.{shown_block, shown_branch, branches_of}
use Rattle.flow_patch.specs.Behind.{behind, unknown_in, within_beside}
use Rattle.flow_patch.proofs.walk.+walks.Given as goal

-- what is left answers for the whole
abbrev pub invariant-behind-loop-statement : goal.invariant-behind-loop-statement
invariant-behind-loop-statement l =
    behind (unknown_in (shown_block l.text)) (shown_block l.new) (shown_block l.old)
    ≡ behind (unknown_in (shown_block l.text)) (shown_block (drop l.statement-index l.new)) (shown_block l.rest)

abbrev pub invariant-compare_branches-loop-branch : goal.invariant-compare_branches-loop-branch
invariant-compare_branches-loop-branch l =
    within_beside (unknown_in (shown_block l.text)) (branches_of (map shown_branch l.new)) (branches_of (map shown_branch l.old)) l.end
    ≡ within_beside (unknown_in (shown_block l.text)) (branches_of (map shown_branch (drop l.branch-index l.new))) (branches_of (map shown_branch l.rest)) l.end
