use Rattle.std.proofs.Common.{◌≡◌, ◌∙◌, ◌∷◌, ap, rules, arith, w64, to_z, of_z}
use Rattle.std.proofs.lemmas.Result.{err_from_is_err_and, IfOk-weaker, IfErr-weaker}
use Rattle.flow_base.specs.Shown.{shown_expr}
use Rattle.flow_base.specs.declared.token.Word.TheVariants as word
use Rattle.flow_base.specs.declared.token.Mark.TheVariants as mark
use Rattle.flow_model.specs.Lexeme.{lexeme, lexemes}
use Rattle.flow_syntax.specs.Machine.{fault}
use Rattle.flow_syntax.specs.Machine as m
use Rattle.flow_syntax.proofs.Steps.{term_is, sum_is, compare_is, conj_is, expr_is}
use Rattle.flow_syntax.proofs.Parsed.{stops_in}
use Rattle.flow_syntax.proofs.ParsedExpressions.{prim_int, prim_text, prim_name, prim_now, open_is, prim_parens, prim_text_of, prim_len_of, parens_is, parens_parsed, unary_is, unary_prim, unary_negate, neg_is, neg_plain, neg_not, term_begins, term_more, term_step, term_ends, sum_begins, sum_more, sum_step, sum_ends, compare_plain, compare_step, compare_parsed, conj_begins, conj_more, conj_ends, expr_begins, expr_more, expr_ends}
use Rattle.flow_syntax.proofs.expression.+expression.Goals as goal

pub compared-returns-in_err-left-clause-err : goal.compared-returns-in_err-left-clause-err
compared-returns-in_err-left-clause-err t c =
    let p = err_from_is_err_and c.from_residual.result c.from_residual.ensures.1 in
    rw (p.1, p.2) (stops_in m.compare m.sum (lexemes c.args.tokens.now) (lexemes c.args.tokens.now) (λ owed. m.more_compare ∷ owed) (λ owed. compare_is owed (lexemes c.args.tokens.now)) c.in_err-left.field-0.0 c.in_err-left.ensures.err)

pub compared-returns-in_err-right-in-Some-clause-err : goal.compared-returns-in_err-right-in-Some-clause-err
compared-returns-in_err-right-in-Some-clause-err t c =
    let p = err_from_is_err_and c.from_residual-in_err-right-in-Some.result c.from_residual-in_err-right-in-Some.ensures.1 in
    rw (p.1, p.2) (stops_in m.compare m.sum (lexemes c.args.tokens.now) (lexemes c.in-Some.after.now) (λ owed. owed) (compare_step (lexemes c.args.tokens.now) (lexemes c.in_ok-left.rest.now) (lexemes c.in-Some.after.now) c.in-Some.field-0-0 c.in-Some.operator (shown_expr c.in_ok-left.left) c.in_ok-left.ensures.ok c.in-Some.ensures.found) c.in_err-right-in-Some.field-0.0 c.in_err-right-in-Some.ensures.err)

pub compared-returns-in-None-clause-ok : goal.compared-returns-in-None-clause-ok
compared-returns-in-None-clause-ok t c = compare_plain (lexemes c.args.tokens.now) (lexemes c.in_ok-left.rest.now) (shown_expr c.in_ok-left.left) c.in_ok-left.ensures.ok c.in-None.ensures.found

pub compared-returns-in_ok-joined-in-Some-clause-ok : goal.compared-returns-in_ok-joined-in-Some-clause-ok
compared-returns-in_ok-joined-in-Some-clause-ok t c = rw c.in_ok-joined-in-Some.ensures (compare_parsed (lexemes c.args.tokens.now) (lexemes c.in_ok-left.rest.now) (lexemes c.in-Some.after.now) (lexemes c.in_ok-right-in-Some.end.now) c.in-Some.field-0-0 c.in-Some.operator (shown_expr c.in_ok-left.left) (shown_expr c.in_ok-right-in-Some.right) c.in_ok-left.ensures.ok c.in-Some.ensures.found c.in_ok-right-in-Some.ensures.ok)

pub conjunction-returns-in_err-left-clause-err : goal.conjunction-returns-in_err-left-clause-err
conjunction-returns-in_err-left-clause-err t c =
    let p = err_from_is_err_and c.from_residual.result c.from_residual.ensures.1 in
    rw (p.1, p.2) (stops_in m.conj m.neg (lexemes c.args.tokens.now) (lexemes c.args.tokens.now) (λ owed. m.more_conj ∷ owed) (λ owed. conj_is owed (lexemes c.args.tokens.now)) c.in_err-left.field-0.0 c.in_err-left.ensures.err)

pub conjunction-loop-after-init : goal.conjunction-loop-after-init
conjunction-loop-after-init t c =
    record {
      shorter = c.in_ok-left.ensures.shorter;
      whole = conj_begins (lexemes c.args.tokens.now) (lexemes c.in_ok-left.rest.now) (shown_expr c.in_ok-left.left) c.in_ok-left.ensures.ok;
      machine = λ owed. conj_is owed (lexemes c.args.tokens.now) ∙ c.in_ok-left.ensures.ok.3 (m.more_conj ∷ owed);
    }

pub conjunction-loop-after-preserved : goal.conjunction-loop-after-preserved
conjunction-loop-after-preserved t c =
    record {
      shorter = omega (arith, c.in_ok-right.ensures.shorter, c.loop-after.invariant.shorter, c.in-Some.ensures.shorter);
      whole = rw c.in_ok-left-2.ensures (conj_more (lexemes c.args.tokens.now) (lexemes c.loop-after.rest.now) (lexemes c.in-Some.after.now) (lexemes c.in_ok-right.next.now) c.in-Some.field-0-0 (shown_expr c.loop-after.left) (shown_expr c.in_ok-right.right) c.loop-after.invariant.whole c.in-Some.ensures.found c.in_ok-right.ensures.ok);
      machine = λ owed. c.loop-after.invariant.machine owed ∙ ap (fault (m.more_conj ∷ owed)) c.in-Some.ensures.found ∙ c.in_ok-right.ensures.ok.3 (m.more_conj ∷ owed);
    }

pub conjunction-returns-clause-ok : goal.conjunction-returns-clause-ok
conjunction-returns-clause-ok t c = conj_ends (lexemes c.args.tokens.now) (lexemes c.loop-after.rest.now) (shown_expr c.loop-after.left) c.loop-after.invariant.whole c.in_default.ensures.found c.loop-after.invariant.machine

pub expr-returns-in_err-left-clause-err : goal.expr-returns-in_err-left-clause-err
expr-returns-in_err-left-clause-err t c =
    let p = err_from_is_err_and c.from_residual.result c.from_residual.ensures.1 in
    rw (p.1, p.2) (stops_in m.expr m.conj (lexemes c.args.tokens.now) (lexemes c.args.tokens.now) (λ owed. m.more_expr ∷ owed) (λ owed. expr_is owed (lexemes c.args.tokens.now)) c.in_err-left.field-0.0 c.in_err-left.ensures.err)

pub expr-loop-after-init : goal.expr-loop-after-init
expr-loop-after-init t c =
    record {
      shorter = c.in_ok-left.ensures.shorter;
      whole = expr_begins (lexemes c.args.tokens.now) (lexemes c.in_ok-left.rest.now) (shown_expr c.in_ok-left.left) c.in_ok-left.ensures.ok;
      machine = λ owed. expr_is owed (lexemes c.args.tokens.now) ∙ c.in_ok-left.ensures.ok.3 (m.more_expr ∷ owed);
    }

pub expr-loop-after-preserved : goal.expr-loop-after-preserved
expr-loop-after-preserved t c =
    record {
      shorter = omega (arith, c.in_ok-right.ensures.shorter, c.loop-after.invariant.shorter, c.in-Some.ensures.shorter);
      whole = rw c.in_ok-left-2.ensures (expr_more (lexemes c.args.tokens.now) (lexemes c.loop-after.rest.now) (lexemes c.in-Some.after.now) (lexemes c.in_ok-right.next.now) c.in-Some.field-0-0 (shown_expr c.loop-after.left) (shown_expr c.in_ok-right.right) c.loop-after.invariant.whole c.in-Some.ensures.found c.in_ok-right.ensures.ok);
      machine = λ owed. c.loop-after.invariant.machine owed ∙ ap (fault (m.more_expr ∷ owed)) c.in-Some.ensures.found ∙ c.in_ok-right.ensures.ok.3 (m.more_expr ∷ owed);
    }

pub expr-returns-clause-ok : goal.expr-returns-clause-ok
expr-returns-clause-ok t c = expr_ends (lexemes c.args.tokens.now) (lexemes c.loop-after.rest.now) (shown_expr c.loop-after.left) c.loop-after.invariant.whole c.in_default.ensures.found c.loop-after.invariant.machine

pub sum-returns-in_err-left-clause-err : goal.sum-returns-in_err-left-clause-err
sum-returns-in_err-left-clause-err t c =
    let p = err_from_is_err_and c.from_residual.result c.from_residual.ensures.1 in
    rw (p.1, p.2) (stops_in m.sum m.term (lexemes c.args.tokens.now) (lexemes c.args.tokens.now) (λ owed. m.more_sum ∷ owed) (λ owed. sum_is owed (lexemes c.args.tokens.now)) c.in_err-left.field-0.0 c.in_err-left.ensures.err)

pub sum-loop-operator-init : goal.sum-loop-operator-init
sum-loop-operator-init t c =
    record {
      shorter = c.in_ok-left.ensures.shorter;
      whole = sum_begins (lexemes c.args.tokens.now) (lexemes c.in_ok-left.rest.now) (shown_expr c.in_ok-left.left) c.in_ok-left.ensures.ok;
      machine = λ owed. sum_is owed (lexemes c.args.tokens.now) ∙ c.in_ok-left.ensures.ok.3 (m.more_sum ∷ owed);
    }

pub sum-loop-operator-preserved : goal.sum-loop-operator-preserved
sum-loop-operator-preserved t c =
    record {
      shorter = omega (arith, c.in_ok-right.ensures.shorter, c.loop-operator.invariant.shorter, c.in-Some.ensures.shorter);
      whole = rw c.in_ok-left-2.ensures (sum_more (lexemes c.args.tokens.now) (lexemes c.loop-operator.rest.now) (lexemes c.in-Some.after.now) (lexemes c.in_ok-right.next.now) c.in-Some.field-0-0 c.in-Some.operator (shown_expr c.loop-operator.left) (shown_expr c.in_ok-right.right) c.loop-operator.invariant.whole c.in-Some.ensures.found c.in_ok-right.ensures.ok);
      machine = λ owed. c.loop-operator.invariant.machine owed ∙ sum_step (lexemes c.loop-operator.rest.now) (lexemes c.in-Some.after.now) c.in-Some.field-0-0 c.in-Some.operator c.in-Some.ensures.found owed ∙ c.in_ok-right.ensures.ok.3 (m.more_sum ∷ owed);
    }

pub sum-returns-clause-ok : goal.sum-returns-clause-ok
sum-returns-clause-ok t c = sum_ends (lexemes c.args.tokens.now) (lexemes c.loop-operator.rest.now) (shown_expr c.loop-operator.left) c.loop-operator.invariant.whole c.in_default.ensures.found c.loop-operator.invariant.machine

pub term-returns-in_err-left-clause-err : goal.term-returns-in_err-left-clause-err
term-returns-in_err-left-clause-err t c =
    let p = err_from_is_err_and c.from_residual.result c.from_residual.ensures.1 in
    rw (p.1, p.2) (stops_in m.term m.unary (lexemes c.args.tokens.now) (lexemes c.args.tokens.now) (λ owed. m.more_term ∷ owed) (λ owed. term_is owed (lexemes c.args.tokens.now)) c.in_err-left.field-0.0 c.in_err-left.ensures.err)

pub term-loop-operator-init : goal.term-loop-operator-init
term-loop-operator-init t c =
    record {
      shorter = c.in_ok-left.ensures.shorter;
      whole = term_begins (lexemes c.args.tokens.now) (lexemes c.in_ok-left.rest.now) (shown_expr c.in_ok-left.left) c.in_ok-left.ensures.ok;
      machine = λ owed. term_is owed (lexemes c.args.tokens.now) ∙ c.in_ok-left.ensures.ok.3 (m.more_term ∷ owed);
    }

pub term-loop-operator-preserved : goal.term-loop-operator-preserved
term-loop-operator-preserved t c =
    record {
      shorter = omega (arith, c.in_ok-right.ensures.shorter, c.loop-operator.invariant.shorter, c.in-Some.ensures.shorter);
      whole = rw c.in_ok-left-2.ensures (term_more (lexemes c.args.tokens.now) (lexemes c.loop-operator.rest.now) (lexemes c.in-Some.after.now) (lexemes c.in_ok-right.next.now) c.in-Some.field-0-0 c.in-Some.operator (shown_expr c.loop-operator.left) (shown_expr c.in_ok-right.right) c.loop-operator.invariant.whole c.in-Some.ensures.found c.in_ok-right.ensures.ok);
      machine = λ owed. c.loop-operator.invariant.machine owed ∙ term_step (lexemes c.loop-operator.rest.now) (lexemes c.in-Some.after.now) c.in-Some.field-0-0 c.in-Some.operator c.in-Some.ensures.found owed ∙ c.in_ok-right.ensures.ok.3 (m.more_term ∷ owed);
    }

pub term-returns-clause-ok : goal.term-returns-clause-ok
term-returns-clause-ok t c = term_ends (lexemes c.args.tokens.now) (lexemes c.loop-operator.rest.now) (shown_expr c.loop-operator.left) c.loop-operator.invariant.whole c.in_default.ensures.found c.loop-operator.invariant.machine

pub negated-returns-in-None-clause-ok : goal.negated-returns-in-None-clause-ok
negated-returns-in-None-clause-ok t c = IfOk-weaker c.compared.result _ _ (λ x h. neg_plain (lexemes c.args.tokens.now) (lexemes x.1.now) (shown_expr x.0) c.in-None.ensures.found h) c.compared.ensures.ok

pub negated-returns-in-None-clause-err : goal.negated-returns-in-None-clause-err
negated-returns-in-None-clause-err t c = IfErr-weaker c.compared.result _ _ (λ e h. stops_in m.neg m.compare (lexemes c.args.tokens.now) (lexemes c.args.tokens.now) (λ owed. owed) (λ owed. neg_is owed (lexemes c.args.tokens.now) c.in-None.ensures.found) e h) c.compared.ensures.err

pub negated-returns-in_ok-prefixed-in-Some-clause-ok : goal.negated-returns-in_ok-prefixed-in-Some-clause-ok
negated-returns-in_ok-prefixed-in-Some-clause-ok t c = rw c.in_ok-prefixed-in-Some.ensures (neg_not c.in-Some.at (lexemes c.args.tokens.now) (lexemes c.in-Some.rest.now) (lexemes c.in_ok-inner-in-Some.end.now) (shown_expr c.in_ok-inner-in-Some.inner) c.in-Some.ensures.found c.in_ok-inner-in-Some.ensures.ok)

pub unary-returns-in-None-clause-ok : goal.unary-returns-in-None-clause-ok
unary-returns-in-None-clause-ok t c = IfOk-weaker c.prim.result _ _ (λ x h. unary_prim (lexemes c.args.tokens.now) (lexemes x.1.now) (shown_expr x.0) c.in-None.ensures.found h) c.prim.ensures.ok

pub unary-returns-in-None-clause-err : goal.unary-returns-in-None-clause-err
unary-returns-in-None-clause-err t c = IfErr-weaker c.prim.result _ _ (λ e h. stops_in m.unary m.prim (lexemes c.args.tokens.now) (lexemes c.args.tokens.now) (λ owed. owed) (λ owed. unary_is owed (lexemes c.args.tokens.now) c.in-None.ensures.found) e h) c.prim.ensures.err

pub unary-returns-in_ok-prefixed-in-Some-clause-ok : goal.unary-returns-in_ok-prefixed-in-Some-clause-ok
unary-returns-in_ok-prefixed-in-Some-clause-ok t c = rw c.in_ok-prefixed-in-Some.ensures (unary_negate c.in-Some.at (lexemes c.args.tokens.now) (lexemes c.in-Some.rest.now) (lexemes c.in_ok-inner-in-Some.end.now) (shown_expr c.in_ok-inner-in-Some.inner) c.in-Some.ensures.found c.in_ok-inner-in-Some.ensures.ok)

pub parens-returns-in_err-inside-clause-err : goal.parens-returns-in_err-inside-clause-err
parens-returns-in_err-inside-clause-err t c =
    let p = err_from_is_err_and c.from_residual.result c.from_residual.ensures.1 in
    rw (p.1, p.2) (stops_in m.parens (m.sign mark.Open) (lexemes c.args.tokens.now) (lexemes c.args.tokens.now) (λ owed. m.expr ∷ m.sign mark.Close ∷ owed) (λ owed. parens_is owed (lexemes c.args.tokens.now)) c.in_err-inside.field-0.0 c.in_err-inside.ensures.err)

pub parens-returns-clause-ok : goal.parens-returns-clause-ok
parens-returns-clause-ok t c = parens_parsed c.in_ok-inside.field-0-0 c.in_ok-end.field-0-0 (lexemes c.args.tokens.now) (lexemes c.in_ok-inside.inside.now) (lexemes c.in_ok-inner.after.now) (lexemes c.in_ok-end.end.now) (shown_expr c.in_ok-inner.inner) c.in_ok-inside.ensures.ok c.in_ok-inner.ensures.ok c.in_ok-end.ensures.ok

pub prim-returns-in-Int-clause-ok : goal.prim-returns-in-Int-clause-ok
prim-returns-in-Int-clause-ok t c =
    let number : to_z w64 (of_z w64 c.in-Int.number) ≡ c.in-Int.number = search rules in
    rw number (prim_int (lexeme c.in-Some.first.now) c.in-Int.number (lexemes c.args.tokens.now) (lexemes c.in-Some.rest.now) c.in-Some.ensures.found c.in-Int.is)

pub prim-returns-in_ok-copy-in-Text-clause-ok : goal.prim-returns-in_ok-copy-in-Text-clause-ok
prim-returns-in_ok-copy-in-Text-clause-ok t c = rw c.in_ok-copy-in-Text.ensures (prim_text (lexeme c.in-Some.first.now) _ (lexemes c.args.tokens.now) (lexemes c.in-Some.rest.now) c.in-Some.ensures.found c.in-Text.is)

pub prim-returns-in_ok-copy-in-Name-clause-ok : goal.prim-returns-in_ok-copy-in-Name-clause-ok
prim-returns-in_ok-copy-in-Name-clause-ok t c = rw c.in_ok-copy-in-Name.ensures (prim_name (lexeme c.in-Some.first.now) _ (lexemes c.args.tokens.now) (lexemes c.in-Some.rest.now) c.in-Some.ensures.found c.in-Name.is)

pub prim-returns-in-Now-clause-ok : goal.prim-returns-in-Now-clause-ok
prim-returns-in-Now-clause-ok t c = prim_now (lexeme c.in-Some.first.now) (lexemes c.args.tokens.now) (lexemes c.in-Some.rest.now) c.in-Some.ensures.found (c.in-Mark.is ∙ ap word.Mark c.in-Now.is)

pub prim-returns-in-Open-clause-ok : goal.prim-returns-in-Open-clause-ok
prim-returns-in-Open-clause-ok t c = IfOk-weaker c.parens.result _ _ (λ x h. prim_parens (lexeme c.in-Some.first.now) (lexemes c.args.tokens.now) (lexemes c.in-Some.rest.now) (lexemes x.1.now) (shown_expr x.0) c.in-Some.ensures.found (c.in-Mark.is ∙ ap word.Mark c.in-Open.is) h) c.parens.ensures.ok

pub prim-returns-in-Open-clause-err : goal.prim-returns-in-Open-clause-err
prim-returns-in-Open-clause-err t c = IfErr-weaker c.parens.result _ _ (λ e h. stops_in m.prim m.parens (lexemes c.args.tokens.now) (lexemes c.args.tokens.now) (λ owed. owed) (λ owed. open_is (lexeme c.in-Some.first.now) (lexemes c.args.tokens.now) (lexemes c.in-Some.rest.now) c.in-Some.ensures.found (c.in-Mark.is ∙ ap word.Mark c.in-Open.is) owed) e h) c.parens.ensures.err

pub prim-returns-in-Text-mark-clause-ok : goal.prim-returns-in-Text-mark-clause-ok
prim-returns-in-Text-mark-clause-ok t c = IfOk-weaker c.applied.result _ _ (λ x h. prim_text_of (lexeme c.in-Some.first.now) (lexemes c.args.tokens.now) (lexemes c.in-Some.rest.now) (lexemes x.1.now) (shown_expr x.0) c.in-Some.ensures.found (c.in-Mark.is ∙ ap word.Mark c.in-Text-mark.is) h) c.applied.ensures.ok

pub prim-returns-in-Len-clause-ok : goal.prim-returns-in-Len-clause-ok
prim-returns-in-Len-clause-ok t c = IfOk-weaker c.applied-in-Len.result _ _ (λ x h. prim_len_of (lexeme c.in-Some.first.now) (lexemes c.args.tokens.now) (lexemes c.in-Some.rest.now) (lexemes x.1.now) (shown_expr x.0) c.in-Some.ensures.found (c.in-Mark.is ∙ ap word.Mark c.in-Len.is) h) c.applied-in-Len.ensures.ok
