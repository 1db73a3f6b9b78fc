use Rattle.std.proofs.Common.{◌≡◌, map, drop}
use Rattle.flow_base.specs.Shown.{shown_block, shown_branch, branches_of}
use Rattle.flow_patch.specs.Settle.{is_among}
use Rattle.flow_patch.specs.Unsettled.{left, left_beside}
use Rattle.flow_patch.proofs.unsettled.+settles.Given as goal

-- what is left answers for the whole
abbrev pub invariant-left-loop-statement : goal.invariant-left-loop-statement
invariant-left-loop-statement l =
    left (is_among l.ids) (shown_block l.old) (shown_block l.new) l.end
    ≡ left (is_among l.ids) (shown_block (drop l.statement-index l.old)) (shown_block l.rest) l.end

abbrev pub invariant-compare_branches-loop-branch : goal.invariant-compare_branches-loop-branch
invariant-compare_branches-loop-branch l =
    left_beside (is_among l.ids) (branches_of (map shown_branch l.old)) (branches_of (map shown_branch l.new)) l.end
    ≡ left_beside (is_among l.ids) (branches_of (map shown_branch (drop l.branch-index l.old))) (branches_of (map shown_branch l.rest)) l.end
