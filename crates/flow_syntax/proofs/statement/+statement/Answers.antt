use Rattle.std.proofs.Common.{◌∙◌, ◌∷◌, map, arith}
use Rattle.std.proofs.lemmas.List.{map_push}
use Rattle.std.proofs.lemmas.Result.{err_from_is_err_and, IfOk-weaker, IfErr-weaker}
use Rattle.flow_base.specs.Shown.{shown_expr, shown_stmt, shown_branch, shown_braced, shown_otherwise}
use Rattle.flow_base.specs.declared.token.Mark.TheVariants as mark
use Rattle.flow_model.specs.Lexeme.{lexemes}
use Rattle.flow_model.specs.Grammar.{marked}
use Rattle.flow_syntax.specs.Machine as m
use Rattle.flow_syntax.specs.Parsing.{in_braces}
use Rattle.flow_syntax.proofs.Steps.{else_tail_is, wait_tail_is, statements_is}
use Rattle.flow_syntax.proofs.Parsed.{stops_in, stops_from}
use Rattle.flow_syntax.proofs.ParsedPrograms.{branches_is, branches_more, branches_close, call_parsed, choice_alone, choice_both, no_else_parsed, else_parsed, waits_ever, waits_for, wait_parsed, side_is, value_parsed, assign_parsed, while_parsed, parallel_parsed, if_member, patch_member, plain_member, statements_more, statements_close}
use Rattle.flow_syntax.proofs.ParsedShown.{shown_assign, shown_call, shown_wait, shown_wait_for, shown_if, shown_while, shown_patch}
use Rattle.flow_syntax.proofs.statement.+statement.Goals as goal

pub branches-returns-in-Some-clause-ok : goal.branches-returns-in-Some-clause-ok
branches-returns-in-Some-clause-ok t c = branches_close c.in-Some.shut_at (lexemes c.args.tokens.now) (lexemes c.loop-shut_at.rest.now) (lexemes c.in-Some.end.now) (map shown_branch c.loop-shut_at.list.items) c.loop-shut_at.invariant.whole c.loop-shut_at.invariant.machine c.in-Some.ensures.found

pub branches-returns-in_err-at-clause-err : goal.branches-returns-in_err-at-clause-err
branches-returns-in_err-at-clause-err t c =
    let p = err_from_is_err_and c.from_residual.result c.from_residual.ensures.1 in
    rw (p.1, p.2) (stops_from m.more_branches in_braces (lexemes c.args.tokens.now) (lexemes c.loop-shut_at.rest.now) (λ owed. m.more_branches ∷ owed) (λ owed. c.loop-shut_at.invariant.machine owed ∙ branches_is owed (lexemes c.loop-shut_at.rest.now) c.in_default.ensures.found) c.in_err-at.field-0.0 c.in_err-at.ensures.err)

pub branches-loop-shut_at-preserved : goal.branches-loop-shut_at-preserved
branches-loop-shut_at-preserved t c =
    record {
      shorter = omega (arith, c.in_ok-at.ensures.shorter, c.loop-shut_at.invariant.shorter);
      whole = rw (c.in_ok-push.ensures.items, map_push shown_branch c.loop-shut_at.list.items c.one_branch.result, c.one_branch.ensures) (branches_more (lexemes c.args.tokens.now) (lexemes c.loop-shut_at.rest.now) (lexemes c.in_ok-at.next.now) (map shown_branch c.loop-shut_at.list.items) c.in_ok-at.at (shown_braced c.in_ok-at.body) c.loop-shut_at.invariant.whole c.in_ok-at.ensures.ok);
      machine = λ owed. c.loop-shut_at.invariant.machine owed ∙ branches_is owed (lexemes c.loop-shut_at.rest.now) c.in_default.ensures.found ∙ c.in_ok-at.ensures.ok.3 (m.more_branches ∷ owed);
    }

pub call_statement-returns-in_err-failing-clause-err : goal.call_statement-returns-in_err-failing-clause-err
call_statement-returns-in_err-failing-clause-err t c =
    let p = err_from_is_err_and c.from_residual-in_err-failing.result c.from_residual-in_err-failing.ensures.1 in
    rw (p.1, p.2) (λ call_at. stops_in m.side m.else_tail (marked call_at mark.Call ∷ lexemes c.args.tokens.now) (lexemes c.in_ok-activity_at.after.now) (λ owed. owed) (c.in_ok-activity_at.ensures.ok c.args.at c.args.into call_at).1 c.in_err-failing.field-0.0 c.in_err-failing.ensures.err)

pub call_statement-returns-clause-ok : goal.call_statement-returns-clause-ok
call_statement-returns-clause-ok t c = λ call_at. rw (shown_call c.args.at c.args.into c.in_ok-activity_at.activity_at c.in_ok-activity_at.activity c.in_ok-activity_at.list c.in_ok-activity_at.retry c.in_ok-failing.failing) (call_parsed c.args.at c.in_ok-activity_at.activity_at c.args.into c.in_ok-activity_at.activity (marked call_at mark.Call ∷ lexemes c.args.tokens.now) (lexemes c.in_ok-activity_at.after.now) (lexemes c.in_ok-failing.end.now) (map shown_expr c.in_ok-activity_at.list.items) c.in_ok-activity_at.retry (shown_otherwise c.in_ok-failing.failing) (c.in_ok-activity_at.ensures.ok c.args.at c.args.into call_at) c.in_ok-failing.ensures.ok)

pub choice-returns-in_default-clause-ok : goal.choice-returns-in_default-clause-ok
choice-returns-in_default-clause-ok t c = rw c.in_ok-none.ensures (choice_alone c.in_ok-first.field-0-0 (lexemes c.args.tokens.now) (lexemes c.in_ok-first.after.now) (shown_braced c.in_ok-first.first) c.in_ok-first.ensures.ok c.in_default.ensures.found)

pub choice-returns-clause-ok : goal.choice-returns-clause-ok
choice-returns-clause-ok t c = choice_both c.in_ok-first.field-0-0 c.in-Some.field-0-0 c.in_ok-second.field-0-0 (lexemes c.args.tokens.now) (lexemes c.in_ok-first.after.now) (lexemes c.in-Some.after_else.now) (lexemes c.in_ok-second.end.now) (shown_braced c.in_ok-first.first) (shown_braced c.in_ok-second.second) c.in_ok-first.ensures.ok c.in-Some.ensures.found c.in_ok-second.ensures.ok

pub else_tail-returns-in_err-end-clause-err : goal.else_tail-returns-in_err-end-clause-err
else_tail-returns-in_err-end-clause-err t c =
    let p = err_from_is_err_and c.from_residual.result c.from_residual.ensures.1 in
    rw (p.1, p.2) (stops_in m.else_tail (m.sign mark.Semicolon) (lexemes c.args.tokens.now) (lexemes c.args.tokens.now) (λ owed. owed) (λ owed. else_tail_is owed (lexemes c.args.tokens.now) c.in_default.ensures.found) c.in_err-end.field-0.0 c.in_err-end.ensures.err)

pub else_tail-returns-in_default-clause-ok : goal.else_tail-returns-in_default-clause-ok
else_tail-returns-in_default-clause-ok t c = no_else_parsed c.in_ok-end.field-0-0 (lexemes c.args.tokens.now) (lexemes c.in_ok-end.end.now) c.in_default.ensures.found c.in_ok-end.ensures.ok

pub else_tail-returns-clause-ok : goal.else_tail-returns-clause-ok
else_tail-returns-clause-ok t c = else_parsed c.in-Some.field-0-0 c.in_ok-failing.field-0-0 c.in_ok-end_behind.field-0-0 (lexemes c.args.tokens.now) (lexemes c.in-Some.after_else.now) (lexemes c.in_ok-failing.after.now) (lexemes c.in_ok-end_behind.end_behind.now) (shown_braced c.in_ok-failing.failing) c.in-Some.ensures.found c.in_ok-failing.ensures.ok c.in_ok-end_behind.ensures.ok

pub member-returns-in-Some-clause-ok : goal.member-returns-in-Some-clause-ok
member-returns-in-Some-clause-ok t c = rw (shown_if c.in-Some.at c.in_ok-condition.condition c.in_ok-first.first c.in_ok-first.second) (if_member c.in-Some.at (lexemes c.args.tokens.now) (lexemes c.in-Some.after_if.now) (lexemes c.in_ok-condition.after.now) (lexemes c.in_ok-first.end.now) (shown_expr c.in_ok-condition.condition) (shown_braced c.in_ok-first.first) (shown_braced c.in_ok-first.second) c.in-Some.ensures.found c.in_ok-condition.ensures.ok c.in_ok-first.ensures.ok)

pub member-returns-in-Some-eat-clause-ok : goal.member-returns-in-Some-eat-clause-ok
member-returns-in-Some-eat-clause-ok t c = rw (shown_patch c.in-Some-eat.patch_at c.in_ok-id_at.id_at c.in_ok-id_at.id c.in_ok-since.since c.in_ok-since.before) (patch_member c.in-Some-eat.patch_at c.in_ok-id_at.id_at c.in_ok-id_at.id (lexemes c.args.tokens.now) (lexemes c.in-Some-eat.after_patch.now) (lexemes c.in_ok-id_at.after_id.now) (lexemes c.in_ok-since.patch_end.now) (shown_braced c.in_ok-since.since) (shown_braced c.in_ok-since.before) c.in-Some-eat.ensures.found c.in_ok-id_at.ensures.ok c.in_ok-since.ensures.ok)

pub member-returns-clause-ok : goal.member-returns-clause-ok
member-returns-clause-ok t c = IfOk-weaker c.statement.result _ _ (λ x h. plain_member (lexemes c.args.tokens.now) (lexemes x.1.now) (shown_stmt x.0) c.requires c.in_default.ensures.found c.in_default-eat.ensures.found h) c.statement.ensures.ok

pub member-returns-clause-err : goal.member-returns-clause-err
member-returns-clause-err t c = IfErr-weaker c.statement.result _ _ (λ e h. stops_in m.statements m.statement (lexemes c.args.tokens.now) (lexemes c.args.tokens.now) (λ owed. m.statements ∷ owed) (λ owed. statements_is owed (lexemes c.args.tokens.now) c.requires c.in_default.ensures.found c.in_default-eat.ensures.found) e h) c.statement.ensures.err

pub parallel_statement-returns-clause-ok : goal.parallel_statement-returns-clause-ok
parallel_statement-returns-clause-ok t c = rw c.in_parallel.ensures (parallel_parsed c.args.at c.in_ok-inside.field-0-0 c.in_ok-first_at.first_at c.in_ok-others.shut_at (lexemes c.args.tokens.now) (lexemes c.in_ok-inside.inside.now) (lexemes c.in_ok-first_at.after.now) (lexemes c.in_ok-others.end.now) (shown_braced c.in_ok-first_at.body) _ c.in_ok-inside.ensures.ok c.in_ok-first_at.ensures.ok c.in_ok-others.ensures.ok)

pub right_side-returns-in-Some-clause-ok : goal.right_side-returns-in-Some-clause-ok
right_side-returns-in-Some-clause-ok t c = IfOk-weaker c.call_statement.result _ _ (λ x h. rw c.in-Some.ensures.found (h c.in-Some.field-0-0)) c.call_statement.ensures.ok

pub right_side-returns-in-Some-eat-clause-ok : goal.right_side-returns-in-Some-eat-clause-ok
right_side-returns-in-Some-eat-clause-ok t c = IfOk-weaker c.wait_statement.result _ _ (λ x h. rw c.in-Some-eat.ensures.found (h c.in-Some-eat.field-0-0)) c.wait_statement.ensures.ok

pub right_side-returns-in_err-value-clause-err : goal.right_side-returns-in_err-value-clause-err
right_side-returns-in_err-value-clause-err t c =
    let p = err_from_is_err_and c.from_residual.result c.from_residual.ensures.1 in
    rw (p.1, p.2) (stops_in m.side m.expr (lexemes c.args.tokens.now) (lexemes c.args.tokens.now) (λ owed. m.sign mark.Semicolon ∷ owed) (λ owed. side_is owed (lexemes c.args.tokens.now) c.in_default.ensures.found c.in_default-eat.ensures.found) c.in_err-value.field-0.0 c.in_err-value.ensures.err)

pub right_side-returns-in_err-end-clause-err : goal.right_side-returns-in_err-end-clause-err
right_side-returns-in_err-end-clause-err t c =
    let p = err_from_is_err_and c.from_residual-in_err-end.result c.from_residual-in_err-end.ensures.1 in
    rw (p.1, p.2) (stops_in m.side (m.sign mark.Semicolon) (lexemes c.args.tokens.now) (lexemes c.in_ok-value.after.now) (λ owed. owed) (λ owed. side_is owed (lexemes c.args.tokens.now) c.in_default.ensures.found c.in_default-eat.ensures.found ∙ c.in_ok-value.ensures.ok.3 (m.sign mark.Semicolon ∷ owed)) c.in_err-end.field-0.0 c.in_err-end.ensures.err)

pub right_side-returns-clause-ok : goal.right_side-returns-clause-ok
right_side-returns-clause-ok t c = rw (shown_assign c.args.at c.args.into c.in_ok-value.value) (value_parsed c.args.at c.in_ok-end.field-0-0 c.args.into (lexemes c.args.tokens.now) (lexemes c.in_ok-value.after.now) (lexemes c.in_ok-end.end.now) (shown_expr c.in_ok-value.value) c.in_default.ensures.found c.in_default-eat.ensures.found c.in_ok-value.ensures.ok c.in_ok-end.ensures.ok)

pub statement-returns-in_default-clause-ok : goal.statement-returns-in_default-clause-ok
statement-returns-in_default-clause-ok t c = IfOk-weaker c.right_side.result _ _ (λ x h. assign_parsed c.in_ok-name_at.name_at c.in_ok-name_at.into (lexemes c.args.tokens.now) (lexemes c.in_ok-name_at.right.now) (lexemes x.1.now) (shown_stmt x.0) c.in_ok-name_at.ensures.ok h) c.right_side.ensures.ok

pub statements-returns-in-Some-clause-ok : goal.statements-returns-in-Some-clause-ok
statements-returns-in-Some-clause-ok t c = rw c.in_ok-new.ensures.ok (statements_close c.in-Some.at (lexemes c.args.tokens.now) (lexemes c.loop-at.rest.now) (lexemes c.in-Some.end.now) (map shown_stmt c.loop-at.list.items) c.loop-at.invariant.whole c.loop-at.invariant.machine c.in-Some.ensures.found)

pub statements-returns-in_err-stmt-clause-err : goal.statements-returns-in_err-stmt-clause-err
statements-returns-in_err-stmt-clause-err t c =
    let p = err_from_is_err_and c.from_residual-in_err-stmt.result c.from_residual-in_err-stmt.ensures.1 in
    rw (p.1, p.2) (stops_in m.statements m.statements (lexemes c.args.tokens.now) (lexemes c.loop-at.rest.now) (λ owed. owed) c.loop-at.invariant.machine c.in_err-stmt.field-0.0 c.in_err-stmt.ensures.err)

pub statements-loop-at-preserved : goal.statements-loop-at-preserved
statements-loop-at-preserved t c =
    record {
      shorter = omega (arith, c.in_ok-stmt.ensures.shorter, c.loop-at.invariant.shorter);
      whole = rw (c.in_ok-push.ensures.items, map_push shown_stmt c.loop-at.list.items c.in_ok-stmt.stmt) (statements_more (lexemes c.args.tokens.now) (lexemes c.loop-at.rest.now) (lexemes c.in_ok-stmt.next.now) (map shown_stmt c.loop-at.list.items) (shown_stmt c.in_ok-stmt.stmt) c.loop-at.invariant.whole c.in_ok-stmt.ensures.ok);
      machine = λ owed. c.loop-at.invariant.machine owed ∙ c.in_ok-stmt.ensures.ok.1 owed;
    }

pub wait_statement-returns-clause-ok : goal.wait_statement-returns-clause-ok
wait_statement-returns-clause-ok t c = IfOk-weaker c.wait_tail.result _ _ (λ x h wait_at. wait_parsed c.args.at wait_at c.in_ok-after_signal.field-0-0 c.in_ok-signal_at.signal_at c.args.into c.in_ok-signal_at.signal (lexemes c.args.tokens.now) (lexemes c.in_ok-after_signal.after_signal.now) (lexemes c.in_ok-signal_at.after_name.now) (lexemes x.1.now) (shown_stmt x.0) c.in_ok-after_signal.ensures.ok c.in_ok-signal_at.ensures.ok h) c.wait_tail.ensures.ok

pub wait_tail-returns-in_err-end-clause-err : goal.wait_tail-returns-in_err-end-clause-err
wait_tail-returns-in_err-end-clause-err t c =
    let p = err_from_is_err_and c.from_residual.result c.from_residual.ensures.1 in
    rw (p.1, p.2) (stops_in m.wait_tail (m.sign mark.Semicolon) (lexemes c.args.tokens.now) (lexemes c.args.tokens.now) (λ owed. owed) (λ owed. wait_tail_is owed (lexemes c.args.tokens.now) c.in_default.ensures.found) c.in_err-end.field-0.0 c.in_err-end.ensures.err)

pub wait_tail-returns-in_default-clause-ok : goal.wait_tail-returns-in_default-clause-ok
wait_tail-returns-in_default-clause-ok t c = rw (shown_wait c.args.at c.args.into c.args.signal_at c.args.signal) (waits_ever c.args.at c.args.signal_at c.in_ok-end.field-0-0 c.args.into c.args.signal (lexemes c.args.tokens.now) (lexemes c.in_ok-end.end.now) c.in_default.ensures.found c.in_ok-end.ensures.ok)

pub wait_tail-returns-clause-ok : goal.wait_tail-returns-clause-ok
wait_tail-returns-clause-ok t c = rw (shown_wait_for c.args.at c.args.into c.args.signal_at c.args.signal c.in_ok-delay.delay c.in_ok-late.late) (waits_for c.args.at c.args.signal_at c.in-Some.field-0-0 c.in_ok-after_else.field-0-0 c.in_ok-late.field-0-0 c.in_ok-end_behind.field-0-0 c.args.into c.args.signal (lexemes c.args.tokens.now) (lexemes c.in-Some.after_for.now) (lexemes c.in_ok-delay.after_delay.now) (lexemes c.in_ok-after_else.after_else.now) (lexemes c.in_ok-late.after.now) (lexemes c.in_ok-end_behind.end_behind.now) (shown_expr c.in_ok-delay.delay) (shown_braced c.in_ok-late.late) c.in-Some.ensures.found c.in_ok-delay.ensures.ok c.in_ok-after_else.ensures.ok c.in_ok-late.ensures.ok c.in_ok-end_behind.ensures.ok)

pub while_statement-returns-clause-ok : goal.while_statement-returns-clause-ok
while_statement-returns-clause-ok t c = rw (shown_while c.args.at c.in_ok-condition.condition c.in_ok-body.body) (while_parsed c.args.at c.in_ok-body.field-0-0 (lexemes c.args.tokens.now) (lexemes c.in_ok-condition.after.now) (lexemes c.in_ok-body.end.now) (shown_expr c.in_ok-condition.condition) (shown_braced c.in_ok-body.body) c.in_ok-condition.ensures.ok c.in_ok-body.ensures.ok)
