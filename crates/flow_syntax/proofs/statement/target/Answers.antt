use Rattle.std.proofs.Common.{◌∷◌}
use Rattle.std.proofs.lemmas.Result.{err_from_is_err_and}
use Rattle.flow_base.specs.declared.token.Mark.TheVariants as mark
use Rattle.flow_model.specs.Lexeme.{lexemes}
use Rattle.flow_syntax.specs.Machine as m
use Rattle.flow_syntax.proofs.Parsed.{stops_in}
use Rattle.flow_syntax.proofs.ParsedPrograms.{name_stops, target_read, target_stops}
use Rattle.flow_syntax.proofs.statement.target.Goals as goal

pub returns-in_err-at-clause-err : goal.returns-in_err-at-clause-err
returns-in_err-at-clause-err c =
    let p = err_from_is_err_and c.from_residual.result c.from_residual.ensures.1 in
    rw (p.1, p.2) (name_stops (lexemes c.args.tokens.now) c.requires.mark c.in_err-at.field-0.0 c.in_err-at.ensures.err)

pub returns-in_err-right-clause-err : goal.returns-in_err-right-clause-err
returns-in_err-right-clause-err c =
    let p = err_from_is_err_and c.from_residual-in_err-right.result c.from_residual-in_err-right.ensures.1 in
    rw (p.1, p.2) (stops_in m.statement (m.sign mark.Assign) (lexemes c.args.tokens.now) (lexemes c.in_ok-at.after_name.now) (λ owed. m.side ∷ owed)
    (target_stops c.in_ok-at.at c.in_ok-at.into (lexemes c.args.tokens.now) (lexemes c.in_ok-at.after_name.now) c.in_ok-at.ensures.ok c.requires.other) c.in_err-right.field-0.0 c.in_err-right.ensures.err)

pub returns-clause-ok : goal.returns-clause-ok
returns-clause-ok c = target_read c.in_ok-at.at c.in_ok-right.field-0-0 c.in_ok-at.into (lexemes c.args.tokens.now) (lexemes c.in_ok-at.after_name.now) (lexemes c.in_ok-right.right.now) c.in_ok-at.ensures.ok c.in_ok-right.ensures.ok
