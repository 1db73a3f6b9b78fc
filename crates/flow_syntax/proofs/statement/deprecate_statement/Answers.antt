use Rattle.std.proofs.Common.{◌∷◌}
use Rattle.std.proofs.lemmas.Result.{err_from_is_err_and}
use Rattle.flow_base.specs.declared.token.Mark.TheVariants as mark
use Rattle.flow_model.specs.Lexeme.{lexemes}
use Rattle.flow_model.specs.Grammar.{named, deprecate_name}
use Rattle.flow_syntax.specs.Machine as m
use Rattle.flow_syntax.proofs.Steps.{deprecate_is}
use Rattle.flow_syntax.proofs.Parsed.{stops_in}
use Rattle.flow_syntax.proofs.ParsedPrograms.{deprecate_read, deprecate_parsed}
use Rattle.flow_syntax.proofs.ParsedShown.{shown_deprecate}
use Rattle.flow_syntax.proofs.statement.deprecate_statement.Goals as goal

pub returns-in_err-id_at-clause-err : goal.returns-in_err-id_at-clause-err
returns-in_err-id_at-clause-err c =
    let p = err_from_is_err_and c.from_residual.result c.from_residual.ensures.1 in
    rw (p.1, p.2) (stops_in m.statement m.patch_id (named c.args.at deprecate_name ∷ lexemes c.args.tokens.now) (lexemes c.args.tokens.now) (λ owed. m.sign mark.Semicolon ∷ owed) (λ owed. deprecate_is owed (lexemes c.args.tokens.now) c.requires) c.in_err-id_at.field-0.0 c.in_err-id_at.ensures.err)

pub returns-in_err-end-clause-err : goal.returns-in_err-end-clause-err
returns-in_err-end-clause-err c =
    let p = err_from_is_err_and c.from_residual-in_err-end.result c.from_residual-in_err-end.ensures.1 in
    rw (p.1, p.2) (stops_in m.statement (m.sign mark.Semicolon) (named c.args.at deprecate_name ∷ lexemes c.args.tokens.now) (lexemes c.in_ok-id_at.after_id.now) (λ owed. owed)
    (λ owed. deprecate_read c.args.at c.in_ok-id_at.id_at c.in_ok-id_at.id (lexemes c.args.tokens.now) (lexemes c.in_ok-id_at.after_id.now) c.requires c.in_ok-id_at.ensures.ok owed) c.in_err-end.field-0.0 c.in_err-end.ensures.err)

pub returns-clause-ok : goal.returns-clause-ok
returns-clause-ok c =
    rw (shown_deprecate c.args.at c.in_ok-id_at.id_at c.in_ok-id_at.id)
    (deprecate_parsed c.args.at c.in_ok-id_at.id_at c.in_ok-end.field-0-0 c.in_ok-id_at.id (lexemes c.args.tokens.now) (lexemes c.in_ok-id_at.after_id.now) (lexemes c.in_ok-end.end.now) c.requires c.in_ok-id_at.ensures.ok c.in_ok-end.ensures.ok)
