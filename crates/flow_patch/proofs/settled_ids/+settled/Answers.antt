use Rattle.std.proofs.Common.{◌≡◌, ◌++◌, [], ap, sym, subst, ◌∙◌, refl, map, drop, ◌+◌, List, arith}
use Rattle.flow_base.specs.declared.syntax.Stmt.{Stmt}
use Rattle.flow_base.specs.declared.syntax.Branch.{Branch}
use Rattle.flow_base.specs.Shown.{Braced, shown_block, shown_braced, shown_stmt, shown_branch, branches_of}
use Rattle.flow_patch.specs.Settle.{deprecated_ids, ids_beside, ids_within, patched_by}
use Rattle.flow_patch.proofs.Adding.{both_added, more_added, all_added, drop_here, gone_through, shown_if, shown_patch, shown_parallel, shown_body}
use Rattle.flow_patch.proofs.settled_ids.+settled.Goals as goal

pub add_ids-loop-statement-preserved : goal.add_ids-loop-statement-preserved
add_ids-loop-statement-preserved t c =
    let f = patched_by (shown_block c.args.text.now) in
    more_added c.args.ids.now.items c.loop-statement.ids.items c.add_within.new.ids.items (deprecated_ids f (shown_block c.args.list.now)) (deprecated_ids f (shown_block (drop c.loop-statement.statement-index c.args.list.now)))
    (ids_within f (shown_stmt c.statement-item.result))
    (deprecated_ids f (shown_block (drop (c.loop-statement.statement-index + 1) c.args.list.now)))
    c.loop-statement.invariant
    (ap (λ (xs : List Stmt). deprecated_ids f (shown_block xs)) (drop_here c.args.list.now c.loop-statement.statement-index c.statement-item.result (omega (arith, c.loop-statement-test.true)) c.statement-item.is))
    c.in_ok-add_within.ensures

pub add_ids-returns : goal.add_ids-returns
add_ids-returns t c =
    let f = patched_by (shown_block c.args.text.now) in
    all_added c.args.ids.now.items c.loop-statement.ids.items (deprecated_ids f (shown_block c.args.list.now)) (deprecated_ids f (shown_block (drop c.loop-statement.statement-index c.args.list.now))) c.loop-statement.invariant
    (gone_through (λ (xs : List Stmt). deprecated_ids f (shown_block xs)) c.args.list.now c.loop-statement.statement-index refl (omega (arith, c.loop-statement-test.false)))

pub add_beside-loop-branch-preserved : goal.add_beside-loop-branch-preserved
add_beside-loop-branch-preserved t c =
    let f = patched_by (shown_block c.args.text.now) in
    more_added c.args.ids.now.items c.loop-branch.ids.items c.add_block.new.ids.items (ids_beside f (branches_of (map shown_branch c.args.branches.now))) (ids_beside f (branches_of (map shown_branch (drop c.loop-branch.branch-index c.args.branches.now))))
    (deprecated_ids f (shown_branch c.branch-item.result).1.0)
    (ids_beside f (branches_of (map shown_branch (drop (c.loop-branch.branch-index + 1) c.args.branches.now))))
    c.loop-branch.invariant
    (ap (λ (xs : List Branch). ids_beside f (branches_of (map shown_branch xs))) (drop_here c.args.branches.now c.loop-branch.branch-index c.branch-item.result (omega (arith, c.loop-branch-test.true)) c.branch-item.is))
    (subst (λ (d : Braced). c.add_block.new.ids.items ≡ c.loop-branch.ids.items ++ deprecated_ids f d.0) (sym (shown_body c.branch-item.result)) c.in_ok-add_block.ensures)

pub add_beside-returns : goal.add_beside-returns
add_beside-returns t c =
    let f = patched_by (shown_block c.args.text.now) in
    all_added c.args.ids.now.items c.loop-branch.ids.items (ids_beside f (branches_of (map shown_branch c.args.branches.now))) (ids_beside f (branches_of (map shown_branch (drop c.loop-branch.branch-index c.args.branches.now)))) c.loop-branch.invariant
    (gone_through (λ (xs : List Branch). ids_beside f (branches_of (map shown_branch xs))) c.args.branches.now c.loop-branch.branch-index refl (omega (arith, c.loop-branch-test.false)))

pub add_within-returns-in_ok-add_block-in-If-2 : goal.add_within-returns-in_ok-add_block-in-If-2
add_within-returns-in_ok-add_block-in-If-2 t c =
    rw c.in-If.is (rw (shown_if c.in-If.field-0 c.in-If.field-1 c.in-If.then c.in-If.otherwise) (both_added _ _ _ _ _ c.in_ok-add_block-in-If.ensures c.in_ok-add_block-in-If-2.ensures))

pub add_within-returns-in_ok-add_beside-in-Parallel : goal.add_within-returns-in_ok-add_beside-in-Parallel
add_within-returns-in_ok-add_beside-in-Parallel t c =
    let f = patched_by (shown_block c.args.text.now) in
    let others = rw c.deref.ensures.value at c.in_ok-add_beside-in-Parallel.ensures in
    let first = subst (λ (d : Braced). c.add_block-in-Parallel.new.ids.items ≡ c.args.ids.now.items ++ deprecated_ids f d.0) (sym (shown_body c.in-Parallel.first)) c.in_ok-add_block-in-Parallel.ensures in
    rw c.in-Parallel.is (rw (shown_parallel c.in-Parallel.field-0 c.in-Parallel.first c.in-Parallel.others c.in-Parallel.field-3) (both_added _ _ _ _ _ first others))

pub add_within-returns-in_ok-add_block-in-Patch-2 : goal.add_within-returns-in_ok-add_block-in-Patch-2
add_within-returns-in_ok-add_block-in-Patch-2 t c =
    rw c.in-Patch.is (rw (shown_patch c.in-Patch.field-0 c.in-Patch.field-1 c.in-Patch.field-2 c.in-Patch.since c.in-Patch.before) (both_added _ _ _ _ _ c.in_ok-add_block-in-Patch.ensures c.in_ok-add_block-in-Patch-2.ensures))
