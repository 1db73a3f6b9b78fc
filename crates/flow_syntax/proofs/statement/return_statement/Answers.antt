use Rattle.flow_base.specs.Shown.{shown_expr}
use Rattle.flow_model.specs.Lexeme.{lexemes}
use Rattle.flow_syntax.proofs.ParsedPrograms.{return_parsed}
use Rattle.flow_syntax.proofs.ParsedShown.{shown_return}
use Rattle.flow_syntax.proofs.statement.return_statement.Goals as goal

pub returns-clause-ok : goal.returns-clause-ok
returns-clause-ok c = rw (shown_return c.args.at c.in_ok-value.value) (return_parsed c.args.at c.in_ok-end.field-0-0 (lexemes c.args.tokens.now) (lexemes c.in_ok-value.after.now) (lexemes c.in_ok-end.end.now) (shown_expr c.in_ok-value.value) c.in_ok-value.ensures.ok c.in_ok-end.ensures.ok)
