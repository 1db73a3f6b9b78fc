use Rattle.std.proofs.Common.{◌≡◌, map, drop}
use Rattle.flow_base.specs.Shown.{shown_block, shown_branch, branches_of}
use Rattle.flow_patch.specs.Wrap.{block_has, branches_have}
use Rattle.flow_patch.proofs.ids.+ids.Given as goal

-- what is left answers for the whole
abbrev pub invariant-has_patch-loop-statement : goal.invariant-has_patch-loop-statement
invariant-has_patch-loop-statement l = block_has l.deprecated l.id (shown_block l.list) ≡ block_has l.deprecated l.id (shown_block (drop l.statement-index l.list))

abbrev pub invariant-have_patch-loop-branch : goal.invariant-have_patch-loop-branch
invariant-have_patch-loop-branch l =
    branches_have l.deprecated l.id (branches_of (map shown_branch l.branches)) ≡ branches_have l.deprecated l.id (branches_of (map shown_branch (drop l.branch-index l.branches)))
