use Rattle.std.proofs.Common.{length, arith}
use Rattle.flow_model.specs.Lexeme.{lexeme, lexemes}
use Rattle.std.proofs.Common.{◌≤◌}
use Rattle.std.proofs.lemmas.List.{length-map}
use Rattle.flow_syntax.proofs.Faults.{is_cut, within_next}
use Rattle.flow_syntax.proofs.limits.first_too_deep.Goals as goal

pub returns-then-brackets-gt-DEPTH_LIMIT : goal.returns-then-brackets-gt-DEPTH_LIMIT
returns-then-brackets-gt-DEPTH_LIMIT c = is_cut (lexemes c.args.tokens.now) (lexemes c.loop-token.rest.now) (lexemes c.in-Some.after.now) c.loop-token.brackets c.loop-token.operators c.brackets_of_word-brackets.result c.operators_of_word-operators.result (length c.in-Some.after.now) (lexeme c.in-Some.token.now) c.loop-token.invariant.so_far c.in-Some.ensures.found c.brackets_of_word-brackets.ensures c.operators_of_word-operators.ensures (length-map c.in-Some.after.now lexeme) (λ hb ho. omega (arith, hb, c.if-brackets-gt-DEPTH_LIMIT.true))

pub returns-then-operators-gt-DEPTH_LIMIT : goal.returns-then-operators-gt-DEPTH_LIMIT
returns-then-operators-gt-DEPTH_LIMIT c = is_cut (lexemes c.args.tokens.now) (lexemes c.loop-token.rest.now) (lexemes c.in-Some.after.now) c.loop-token.brackets c.loop-token.operators c.brackets_of_word-brackets.result c.operators_of_word-operators.result (length c.in-Some.after.now) (lexeme c.in-Some.token.now) c.loop-token.invariant.so_far c.in-Some.ensures.found c.brackets_of_word-brackets.ensures c.operators_of_word-operators.ensures (length-map c.in-Some.after.now lexeme) (λ hb ho. omega (arith, ho, c.if-operators-gt-DEPTH_LIMIT.true))

pub loop-token-preserved : goal.loop-token-preserved
loop-token-preserved c =
    let hb : c.brackets_of_word-brackets.result ≤ 64 = omega (arith, c.if-brackets-gt-DEPTH_LIMIT.false) in
    let ho : c.operators_of_word-operators.result ≤ 64 = omega (arith, c.if-operators-gt-DEPTH_LIMIT.false) in
    record {
      brackets = hb;
      operators = ho;
      so_far = within_next (lexemes c.args.tokens.now) (lexemes c.loop-token.rest.now) (lexemes c.in-Some.after.now) c.loop-token.brackets c.loop-token.operators c.brackets_of_word-brackets.result c.operators_of_word-operators.result (lexeme c.in-Some.token.now) c.loop-token.invariant.so_far c.in-Some.ensures.found c.brackets_of_word-brackets.ensures c.operators_of_word-operators.ensures hb ho;
    }
