use Rattle.std.proofs.Common.{true, ap, sym, subst, ◌∙◌, map, option_map}
use Rattle.flow_base.specs.Shown.{Braced, shown_expr, shown_stmt, shown_braced, shown_branch, shown_otherwise, branches_of}
use Rattle.flow_base.specs.Syntax.{Block}
use Rattle.flow_model.specs.WellFormed.{faults_of_block}
use Rattle.flow_check.specs.Tables.{shown_scope, shown_signature, kinds_of_parameters, Notes, Checks}
use Rattle.flow_check.proofs.Forms.{shown_assign, shown_call, shown_wait, shown_wait_for, shown_sleep, shown_if, shown_while, shown_parallel, shown_patch, shown_deprecate, shown_return, shown_fail, shown_continue, shown_list, shown_body}
use Rattle.flow_check.proofs.Scoping.{checks_nothing, one_more_checked, inner_checked, one_more_branch_checked}
use Rattle.flow_check.proofs.Checking.{assign_checked, call_checked, wait_checked, wait_for_checked, sleep_checked, if_checked, while_checked, parallel_checked, patch_checked, deprecate_checked, return_checked, fail_checked, continue_checked}
use Rattle.flow_check.proofs.statement.+checks.Goals as goal

pub check_statements-loop-statement-init : goal.check_statements-loop-statement-init
check_statements-loop-statement-init t c = checks_nothing c.args.in_parallel c.args.scope.now c.args.found.now

pub check_statements-loop-statement-preserved : goal.check_statements-loop-statement-preserved
check_statements-loop-statement-preserved t c =
    one_more_checked c.args.in_parallel c.args.scope.now c.loop-statement.scope c.check_statement.new.scope c.args.found.now c.loop-statement.found c.check_statement.new.found
    c.args.statements.now c.loop-statement.statement-index c.statement-item.result c.loop-statement-test.true c.statement-item.is c.loop-statement.invariant c.in_ok-check_statement.ensures

pub check_branches-loop-branch-preserved : goal.check_branches-loop-branch-preserved
check_branches-loop-branch-preserved t c =
    one_more_branch_checked c.args.scope.now c.loop-branch.scope c.check_inner.new.scope c.args.found.now c.loop-branch.found c.check_inner.new.found
    c.args.branches.now c.loop-branch.branch-index c.branch-item.result c.loop-branch-test.true c.branch-item.is c.loop-branch.invariant
    (subst (λ (b : Braced). Notes c.loop-branch.scope c.loop-branch.found (faults_of_block (shown_scope true c.loop-branch.scope) b.0) c.check_inner.new.scope c.check_inner.new.found) (sym (shown_body c.branch-item.result)) c.in_ok-check_inner.ensures)

pub check_inner-returns : goal.check_inner-returns
check_inner-returns t c =
    let s = c.args.scope.now in
    inner_checked c.args.in_parallel s c.check_statements.new.scope c.forget_beyond.new.self c.args.found.now c.check_statements.new.found (shown_braced c.args.block.now).0 c.visible-visible.result c.visible-visible.ensures
    (subst (λ (b : Block). Checks c.args.in_parallel s c.args.found.now b c.check_statements.new.scope c.check_statements.new.found) (sym (shown_list c.args.block.now)) (rw (c.as_slice.ensures.value, c.deref.ensures) at c.in_ok-check_statements.ensures))
    c.forget_beyond.ensures.variables c.forget_beyond.ensures.activities c.forget_beyond.ensures.signals c.forget_beyond.ensures.parameters

pub check_statement-returns-in-Assign : goal.check_statement-returns-in-Assign
check_statement-returns-in-Assign t c =
    assign_checked c.args.in_parallel c.args.scope.now (shown_stmt c.args.statement.now) c.args.found.now c.in-Assign.at c.in-Assign.name (shown_expr c.in-Assign.value) c.check_expression-kind-in-Assign.result c.variable.result c.beginning.result
    c.check_expression-kind-in-Assign.new.found c.check_assigned.new.found
    (ap shown_stmt c.in-Assign.is ∙ shown_assign c.in-Assign.at c.in-Assign.name c.in-Assign.value) c.check_expression-kind-in-Assign.ensures.noted c.check_expression-kind-in-Assign.ensures.kind c.variable.ensures c.beginning.ensures c.check_assigned.ensures

pub check_statement-returns-in_ok-check_otherwise-in-Call : goal.check_statement-returns-in_ok-check_otherwise-in-Call
check_statement-returns-in_ok-check_otherwise-in-Call t c =
    let i = c.in-Call in
    call_checked c.args.in_parallel c.args.scope.now (shown_stmt c.args.statement.now) c.args.found.now i.at i.activity_at i.name i.activity (map shown_expr i.arguments.items) i.retry (shown_otherwise i.otherwise)
    c.check_otherwise.new.scope (option_map shown_signature c.activity-signature.result) c.variable-in-Call.result c.gives.result c.check_call.new.found c.check_assigned-in-Call.new.found c.check_retry.new.found c.check_otherwise.new.found
    (ap shown_stmt i.is ∙ shown_call i.at i.name i.activity_at i.activity i.arguments i.retry i.otherwise)
    c.activity-signature.ensures (rw c.deref.ensures.value at c.check_call.ensures) c.variable-in-Call.ensures c.gives.ensures c.check_assigned-in-Call.ensures c.check_retry.ensures c.in_ok-check_otherwise-in-Call.ensures

pub check_statement-returns-in-WaitSignal : goal.check_statement-returns-in-WaitSignal
check_statement-returns-in-WaitSignal t c =
    let i = c.in-WaitSignal in
    wait_checked c.args.in_parallel c.args.scope.now (shown_stmt c.args.statement.now) c.args.found.now i.at i.signal_at i.name i.signal c.check_wait.new.found
    (ap shown_stmt i.is ∙ shown_wait i.at i.name i.signal_at i.signal) c.check_wait.ensures

pub check_statement-returns-in_ok-check_inner-in-WaitSignalFor : goal.check_statement-returns-in_ok-check_inner-in-WaitSignalFor
check_statement-returns-in_ok-check_inner-in-WaitSignalFor t c =
    let i = c.in-WaitSignalFor in
    wait_for_checked c.args.in_parallel c.args.scope.now (shown_stmt c.args.statement.now) c.args.found.now i.at i.signal_at i.name i.signal (shown_expr i.delay) (shown_braced i.late).0 (shown_braced i.late).1
    c.check_inner.new.scope c.check_wait-in-WaitSignalFor.new.found c.check_wanted.new.found c.check_inner.new.found
    (ap shown_stmt i.is ∙ shown_wait_for i.at i.name i.signal_at i.signal i.delay i.late) c.check_wait-in-WaitSignalFor.ensures c.check_wanted.ensures c.in_ok-check_inner-in-WaitSignalFor.ensures

pub check_statement-returns-in-Sleep : goal.check_statement-returns-in-Sleep
check_statement-returns-in-Sleep t c =
    sleep_checked c.args.in_parallel c.args.scope.now (shown_stmt c.args.statement.now) c.args.found.now c.in-Sleep.field-0 (shown_expr c.in-Sleep.delay) c.check_wanted-in-Sleep.new.found
    (ap shown_stmt c.in-Sleep.is ∙ shown_sleep c.in-Sleep.field-0 c.in-Sleep.delay) c.check_wanted-in-Sleep.ensures

pub check_statement-returns-in_ok-check_inner-in-If-2 : goal.check_statement-returns-in_ok-check_inner-in-If-2
check_statement-returns-in_ok-check_inner-in-If-2 t c =
    let i = c.in-If in
    if_checked c.args.in_parallel c.args.scope.now (shown_stmt c.args.statement.now) c.args.found.now i.field-0 (shown_expr i.condition) (shown_braced i.then).0 (shown_braced i.otherwise).0 (shown_braced i.then).1 (shown_braced i.otherwise).1
    c.check_inner-in-If.new.scope c.check_inner-in-If-2.new.scope c.check_wanted-in-If.new.found c.check_inner-in-If.new.found c.check_inner-in-If-2.new.found
    (ap shown_stmt i.is ∙ shown_if i.field-0 i.condition i.then i.otherwise) c.check_wanted-in-If.ensures c.in_ok-check_inner-in-If.ensures c.in_ok-check_inner-in-If-2.ensures

pub check_statement-returns-in_ok-check_inner-in-While : goal.check_statement-returns-in_ok-check_inner-in-While
check_statement-returns-in_ok-check_inner-in-While t c =
    let i = c.in-While in
    while_checked c.args.in_parallel c.args.scope.now (shown_stmt c.args.statement.now) c.args.found.now i.field-0 (shown_expr i.condition) (shown_braced i.body).0 (shown_braced i.body).1
    c.check_inner-in-While.new.scope c.check_wanted-in-While.new.found c.check_inner-in-While.new.found
    (ap shown_stmt i.is ∙ shown_while i.field-0 i.condition i.body) c.check_wanted-in-While.ensures c.in_ok-check_inner-in-While.ensures

pub check_statement-returns-in_ok-check_branches-in-Parallel : goal.check_statement-returns-in_ok-check_branches-in-Parallel
check_statement-returns-in_ok-check_branches-in-Parallel t c =
    let i = c.in-Parallel in
    let s = c.args.scope.now in
    let b = shown_branch i.first in
    let o = c.check_branch_count.new.found in
    parallel_checked c.args.in_parallel s (shown_stmt c.args.statement.now) c.args.found.now i.field-0 b.0 b.1.0 b.1.1 (branches_of (map shown_branch i.others.items)) i.field-3
    c.check_inner-in-Parallel.new.scope c.check_branches.new.scope o c.check_inner-in-Parallel.new.found c.check_branches.new.found
    (ap shown_stmt i.is ∙ shown_parallel i.field-0 i.first i.others i.field-3) c.check_branch_count.ensures
    (subst (λ (d : Braced). Notes s o (faults_of_block (shown_scope true s) d.0) c.check_inner-in-Parallel.new.scope c.check_inner-in-Parallel.new.found) (sym (shown_body i.first)) c.in_ok-check_inner-in-Parallel.ensures)
    (rw c.deref-in-Parallel.ensures.value at c.in_ok-check_branches-in-Parallel.ensures)

pub check_statement-returns-in_ok-check_inner-in-Patch-2 : goal.check_statement-returns-in_ok-check_inner-in-Patch-2
check_statement-returns-in_ok-check_inner-in-Patch-2 t c =
    let i = c.in-Patch in
    patch_checked c.args.in_parallel c.args.scope.now (shown_stmt c.args.statement.now) c.args.found.now i.field-0 i.field-1 i.field-2 (shown_braced i.since).0 (shown_braced i.before).0 (shown_braced i.since).1 (shown_braced i.before).1
    c.check_inner-in-Patch.new.scope c.check_inner-in-Patch-2.new.scope c.check_inner-in-Patch.new.found c.check_inner-in-Patch-2.new.found
    (ap shown_stmt i.is ∙ shown_patch i.field-0 i.field-1 i.field-2 i.since i.before) c.in_ok-check_inner-in-Patch.ensures c.in_ok-check_inner-in-Patch-2.ensures

pub check_statement-returns-in-Deprecate : goal.check_statement-returns-in-Deprecate
check_statement-returns-in-Deprecate t c =
    let i = c.in-Deprecate in
    deprecate_checked c.args.in_parallel c.args.scope.now (shown_stmt c.args.statement.now) c.args.found.now i._at i.field-1 i.field-2 (ap shown_stmt i.is ∙ shown_deprecate i._at i.field-1 i.field-2)

pub check_statement-returns-in-Return : goal.check_statement-returns-in-Return
check_statement-returns-in-Return t c =
    return_checked c.args.in_parallel c.args.scope.now (shown_stmt c.args.statement.now) c.args.found.now c.in-Return.at (shown_expr c.in-Return.value) c.check_expression.new.found c.check_end.new.found
    (ap shown_stmt c.in-Return.is ∙ shown_return c.in-Return.at c.in-Return.value) c.check_expression.ensures.noted c.check_end.ensures

pub check_statement-returns-in-FailWith : goal.check_statement-returns-in-FailWith
check_statement-returns-in-FailWith t c =
    fail_checked c.args.in_parallel c.args.scope.now (shown_stmt c.args.statement.now) c.args.found.now c.in-FailWith.at (shown_expr c.in-FailWith.text) c.check_wanted-in-FailWith.new.found c.check_end-in-FailWith.new.found
    (ap shown_stmt c.in-FailWith.is ∙ shown_fail c.in-FailWith.at c.in-FailWith.text) c.check_wanted-in-FailWith.ensures c.check_end-in-FailWith.ensures

pub check_statement-returns-in-Continue : goal.check_statement-returns-in-Continue
check_statement-returns-in-Continue t c =
    let i = c.in-Continue in
    continue_checked c.args.in_parallel c.args.scope.now (shown_stmt c.args.statement.now) c.args.found.now i.at (map shown_expr i.arguments.items) (kinds_of_parameters c.parameters.result.now) c.check_applied.new.found c.check_end-in-Continue.new.found
    (ap shown_stmt i.is ∙ shown_continue i.at i.arguments) c.parameters.ensures (rw c.deref-in-Continue.ensures.value at c.check_applied.ensures) c.check_end-in-Continue.ensures
