use Rattle.std.proofs.Common.{◌∙◌, length, map}
use Rattle.std.proofs.lemmas.List.{length-map}
use Rattle.std.proofs.lemmas.Result.{err_from_is_err_and}
use Rattle.flow_base.specs.Shown.{shown_block, shown_declaration}
use Rattle.flow_model.specs.Lexeme.{lexeme, lexemes}
use Rattle.flow_syntax.proofs.ParsedPrograms.{program_stops, program_parsed, program_goes, left_over}
use Rattle.flow_syntax.proofs.program.program.Goals as goal

pub returns-in_err-after_keyword-clause-err : goal.returns-in_err-after_keyword-clause-err
returns-in_err-after_keyword-clause-err c =
    let p = err_from_is_err_and c.from_residual.result c.from_residual.ensures.1 in
    rw (p.1, p.2) (program_stops (lexemes c.args.tokens.now) c.in_err-after_keyword.field-0.0 c.in_err-after_keyword.ensures.err)

pub returns-in-None-clause-ok : goal.returns-in-None-clause-ok
returns-in-None-clause-ok c = program_parsed c.in_ok-after_keyword.field-0-0 c.in_ok-at.at c.in_ok-after_open.field-0-0 c.in_ok-inside.field-0-0 c.in_ok-parameters.parameters_end c.in_ok-declarations.body_end c.in_ok-at.name (lexemes c.args.tokens.now) (lexemes c.in_ok-after_keyword.after_keyword.now) (lexemes c.in_ok-at.after_name.now) (lexemes c.in_ok-after_open.after_open.now) (lexemes c.in_ok-parameters.after_close.now) (lexemes c.in_ok-inside.inside.now) (lexemes c.in_ok-declarations.end.now) c.in_ok-parameters.parameters.items (map shown_declaration c.in_ok-declarations.declarations.items) (shown_block c.in_ok-declarations.body.value.items) c.in_ok-after_keyword.ensures.ok c.in_ok-at.ensures.ok c.in_ok-after_open.ensures.ok c.in_ok-parameters.ensures.ok c.in_ok-inside.ensures.ok c.in_ok-declarations.ensures.ok c.in-None.ensures.found

pub returns-in-Some-clause-err : goal.returns-in-Some-clause-err
returns-in-Some-clause-err c = program_goes c.in_ok-after_keyword.field-0-0 c.in_ok-at.at c.in_ok-after_open.field-0-0 c.in_ok-inside.field-0-0 c.in_ok-parameters.parameters_end c.in_ok-declarations.body_end c.in_ok-at.name (lexemes c.args.tokens.now) (lexemes c.in_ok-after_keyword.after_keyword.now) (lexemes c.in_ok-at.after_name.now) (lexemes c.in_ok-after_open.after_open.now) (lexemes c.in_ok-parameters.after_close.now) (lexemes c.in_ok-inside.inside.now) (lexemes c.in_ok-declarations.end.now) c.in_ok-parameters.parameters.items (map shown_declaration c.in_ok-declarations.declarations.items) (shown_block c.in_ok-declarations.body.value.items) c.in_ok-after_keyword.ensures.ok c.in_ok-at.ensures.ok c.in_ok-after_open.ensures.ok c.in_ok-parameters.ensures.ok c.in_ok-inside.ensures.ok c.in_ok-declarations.ensures.ok ∙ left_over (lexemes c.in_ok-declarations.end.now) _ _ (length c.in_ok-declarations.end.now) c.in-Some.ensures.found (length-map c.in_ok-declarations.end.now lexeme)
