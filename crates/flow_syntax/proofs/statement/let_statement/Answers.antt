use Rattle.flow_base.specs.Shown.{shown_expr}
use Rattle.flow_model.specs.Lexeme.{lexemes}
use Rattle.flow_syntax.proofs.ParsedPrograms.{let_parsed}
use Rattle.flow_syntax.proofs.ParsedShown.{shown_let}
use Rattle.flow_syntax.proofs.statement.let_statement.Goals as goal

pub returns-clause-ok : goal.returns-clause-ok
returns-clause-ok c = rw (shown_let c.args.at c.in_ok-name_at.name_at c.in_ok-name_at.name c.in_ok-value.value) (let_parsed c.args.at c.in_ok-name_at.name_at c.in_ok-right.field-0-0 c.in_ok-end.field-0-0 c.in_ok-name_at.name (lexemes c.args.tokens.now) (lexemes c.in_ok-name_at.after_name.now) (lexemes c.in_ok-right.right.now) (lexemes c.in_ok-value.after.now) (lexemes c.in_ok-end.end.now) (shown_expr c.in_ok-value.value) c.in_ok-name_at.ensures.ok c.in_ok-right.ensures.ok c.in_ok-value.ensures.ok c.in_ok-end.ensures.ok)
