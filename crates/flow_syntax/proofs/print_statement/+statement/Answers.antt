use Rattle.std.proofs.Common.{◌++◌, [], ap, sym, ◌∙◌, refl, map, drop, ◌+◌, List, arith}
use Rattle.flow_base.specs.declared.syntax.Stmt.{Stmt}
use Rattle.flow_base.specs.declared.syntax.Branch.{Branch}
use Rattle.flow_base.specs.Shown.{shown_block, shown_braced, shown_stmt, shown_branch, branches_of}
use Rattle.flow_syntax.specs.Print.{spaced, in_braces, block_words, statement_words, branches_words}
use Rattle.flow_syntax.proofs.Printing.{words_then, no_words, no_else, some_else, shown_if, shown_patch, shown_parallel, less_left, none_left, drop_here, gone_through}
use Rattle.flow_syntax.proofs.print_statement.+statement.Goals as goal

pub statements-loop-stmt-preserved : goal.statements-loop-stmt-preserved
statements-loop-stmt-preserved t c =
    less_left c.args.out.now c.loop-stmt.out c.statement.new.out (block_words (shown_block c.args.list.now)) (block_words (shown_block (drop c.loop-stmt.stmt-index c.args.list.now)))
    (statement_words (shown_stmt c.stmt-item.result))
    (block_words (shown_block (drop (c.loop-stmt.stmt-index + 1) c.args.list.now)))
    c.loop-stmt.invariant
    (ap (λ (xs : List Stmt). block_words (shown_block xs)) (drop_here c.args.list.now c.loop-stmt.stmt-index c.stmt-item.result (omega (arith, c.loop-stmt-test.true)) c.stmt-item.is))
    c.in_ok-statement.ensures

pub statements-returns : goal.statements-returns
statements-returns t c =
    none_left c.args.out.now c.loop-stmt.out (block_words (shown_block c.args.list.now)) (block_words (shown_block (drop c.loop-stmt.stmt-index c.args.list.now))) c.loop-stmt.invariant
    (gone_through (λ (xs : List Stmt). block_words (shown_block xs)) c.args.list.now c.loop-stmt.stmt-index refl (omega (arith, c.loop-stmt-test.false)))

pub branches-loop-next-preserved : goal.branches-loop-next-preserved
branches-loop-next-preserved t c =
    less_left c.args.out.now c.loop-next.out c.branch-out.new.out (branches_words (branches_of (map shown_branch c.args.list.now))) (branches_words (branches_of (map shown_branch (drop c.loop-next.next-index c.args.list.now))))
    (in_braces (block_words (shown_branch c.next-item.result).1.0))
    (branches_words (branches_of (map shown_branch (drop (c.loop-next.next-index + 1) c.args.list.now))))
    c.loop-next.invariant
    (ap (λ (xs : List Branch). branches_words (branches_of (map shown_branch xs))) (drop_here c.args.list.now c.loop-next.next-index c.next-item.result (omega (arith, c.loop-next-test.true)) c.next-item.is))
    c.in_ok-branch.ensures

pub branches-returns : goal.branches-returns
branches-returns t c =
    none_left c.args.out.now c.loop-next.out (branches_words (branches_of (map shown_branch c.args.list.now))) (branches_words (branches_of (map shown_branch (drop c.loop-next.next-index c.args.list.now)))) c.loop-next.invariant
    (gone_through (λ (xs : List Branch). branches_words (branches_of (map shown_branch xs))) c.args.list.now c.loop-next.next-index refl (omega (arith, c.loop-next-test.false)))

pub block-returns : goal.block-returns
block-returns t c = words_then _ _ _ _ _ c.in_ok-mark.ensures (words_then _ _ _ _ _ c.in_ok-inside.ensures c.in_ok-mark-2.ensures)

pub else_block-returns : goal.else_block-returns
else_block-returns t c = words_then _ _ _ _ _ c.in_ok-mark.ensures c.in_ok-block.ensures

pub while_statement-returns : goal.while_statement-returns
while_statement-returns t c = words_then _ _ _ _ _ c.in_ok-keyword_head.ensures c.in_ok-block.ensures

pub call-returns : goal.call-returns
call-returns t c = words_then _ _ _ _ _ c.in_ok-name.ensures (words_then _ _ _ _ _ c.in_ok-mark.ensures (words_then _ _ _ _ _ c.in_ok-mark-2.ensures (words_then _ _ _ _ _ c.in_ok-name-2.ensures (words_then _ _ _ _ _ c.in_ok-arguments.ensures (words_then _ _ _ _ _ c.in_ok-retry.ensures (words_then _ _ _ _ _ c.in_ok-otherwise.ensures c.in_ok-mark-3.ensures))))))

pub wait_for-returns : goal.wait_for-returns
wait_for-returns t c = words_then _ _ _ _ _ c.in_ok-wait_head.ensures (words_then _ _ _ _ _ c.in_ok-mark.ensures (words_then _ _ _ _ _ c.in_ok-expr.ensures (words_then _ _ _ _ _ c.in_ok-else_block.ensures c.in_ok-mark-2.ensures)))

pub second-returns-then-is_empty : goal.second-returns-then-is_empty
second-returns-then-is_empty t c = no_words c.args.out.now _ (no_else (shown_braced c.args.list.now).0 (sym c.is_empty.ensures ∙ c.if-is_empty.true))

pub second-returns : goal.second-returns
second-returns t c = c.in_ok-else_block.ensures ∙ ap (λ w. c.args.out.now ++ spaced w) (sym (some_else (shown_braced c.args.list.now).0 (sym c.is_empty.ensures ∙ c.if-is_empty.false)))

pub otherwise-returns-in-None : goal.otherwise-returns-in-None
otherwise-returns-in-None t c = rw c.in-None.is (no_words c.args.out.now [] refl)

pub statement-returns-in_ok-second-in-If : goal.statement-returns-in_ok-second-in-If
statement-returns-in_ok-second-in-If t c =
    rw c.in-If.is (rw (shown_if c.in-If.field-0 c.in-If.condition c.in-If.first c.in-If.other) (words_then _ _ _ _ _ c.in_ok-keyword_head-in-If.ensures (words_then _ _ _ _ _ c.in_ok-block-in-If.ensures c.in_ok-second-in-If.ensures)))

pub statement-returns-in_ok-mark-in-Parallel : goal.statement-returns-in_ok-mark-in-Parallel
statement-returns-in_ok-mark-in-Parallel t c =
    let others = rw c.deref-in-Parallel.ensures.value at c.in_ok-branches-in-Parallel.ensures in
    let inside = words_then _ _ _ _ _ (words_then _ _ _ _ _ c.in_ok-branch-in-Parallel.ensures others) c.in_ok-mark-in-Parallel.ensures in
    rw c.in-Parallel.is (rw (shown_parallel c.in-Parallel.field-0 c.in-Parallel.first c.in-Parallel.others c.in-Parallel.field-3) (words_then _ _ _ _ _ c.in_ok-parallel_head-in-Parallel.ensures inside))

pub statement-returns-in_ok-second-in-Patch : goal.statement-returns-in_ok-second-in-Patch
statement-returns-in_ok-second-in-Patch t c =
    rw c.in-Patch.is (rw (shown_patch c.in-Patch.field-0 c.in-Patch.field-1 c.in-Patch.id c.in-Patch.first c.in-Patch.other) (words_then _ _ _ _ _ c.in_ok-patch_head-in-Patch.ensures (words_then _ _ _ _ _ c.in_ok-block-in-Patch.ensures c.in_ok-second-in-Patch.ensures)))
