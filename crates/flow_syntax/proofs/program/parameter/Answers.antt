use Rattle.std.proofs.Common.{◌∷◌}
use Rattle.std.proofs.lemmas.Result.{err_from_is_err_and}
use Rattle.flow_base.specs.declared.token.Mark.TheVariants as mark
use Rattle.flow_model.specs.Lexeme.{lexemes}
use Rattle.flow_syntax.specs.Machine as m
use Rattle.flow_syntax.proofs.Parsed.{stops_in}
use Rattle.flow_syntax.proofs.ParsedPrograms.{parameter_is, parameter_parsed}
use Rattle.flow_syntax.proofs.program.parameter.Goals as goal

pub returns-in_err-at-clause-err : goal.returns-in_err-at-clause-err
returns-in_err-at-clause-err c =
    let p = err_from_is_err_and c.from_residual.result c.from_residual.ensures.1 in
    rw (p.1, p.2) (stops_in m.parameter m.name (lexemes c.args.tokens.now) (lexemes c.args.tokens.now) (λ owed. m.sign mark.Colon ∷ m.type_ ∷ owed) (λ owed. parameter_is owed (lexemes c.args.tokens.now)) c.in_err-at.field-0.0 c.in_err-at.ensures.err)

pub returns-clause-ok : goal.returns-clause-ok
returns-clause-ok c = parameter_parsed c.in_ok-at.at c.in_ok-after_colon.field-0-0 c.in_ok-at.name (lexemes c.args.tokens.now) (lexemes c.in_ok-at.after_name.now) (lexemes c.in_ok-after_colon.after_colon.now) (lexemes c.in_ok-found.end.now) c.in_ok-found.found c.in_ok-at.ensures.ok c.in_ok-after_colon.ensures.ok c.in_ok-found.ensures.ok
