use Rattle.std.proofs.Common.{◌≡◌, ◌++◌, map, drop}
use Rattle.flow_base.specs.Shown.{shown_block, shown_branch, branches_of}
use Rattle.flow_patch.specs.Settle.{deprecated_ids, ids_beside, patched_by}
use Rattle.flow_patch.proofs.settled_ids.+settled.Given as goal

-- what was added, and what is still to be added
abbrev pub invariant-add_ids-loop-statement : goal.invariant-add_ids-loop-statement
invariant-add_ids-loop-statement l =
    l.ids.items ++ deprecated_ids (patched_by (shown_block l.text)) (shown_block (drop l.statement-index l.list))
    ≡ l.initial.ids.items ++ deprecated_ids (patched_by (shown_block l.text)) (shown_block l.list)

abbrev pub invariant-add_beside-loop-branch : goal.invariant-add_beside-loop-branch
invariant-add_beside-loop-branch l =
    l.ids.items ++ ids_beside (patched_by (shown_block l.text)) (branches_of (map shown_branch (drop l.branch-index l.branches)))
    ≡ l.initial.ids.items ++ ids_beside (patched_by (shown_block l.text)) (branches_of (map shown_branch l.branches))
