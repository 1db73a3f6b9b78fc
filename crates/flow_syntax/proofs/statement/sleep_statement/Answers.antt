use Rattle.flow_base.specs.Shown.{shown_expr}
use Rattle.flow_model.specs.Lexeme.{lexemes}
use Rattle.flow_syntax.proofs.ParsedPrograms.{sleep_parsed}
use Rattle.flow_syntax.proofs.ParsedShown.{shown_sleep}
use Rattle.flow_syntax.proofs.statement.sleep_statement.Goals as goal

pub returns-clause-ok : goal.returns-clause-ok
returns-clause-ok c = rw (shown_sleep c.args.at c.in_ok-delay.delay) (sleep_parsed c.args.at c.in_ok-end.field-0-0 (lexemes c.args.tokens.now) (lexemes c.in_ok-delay.after.now) (lexemes c.in_ok-end.end.now) (shown_expr c.in_ok-delay.delay) c.in_ok-delay.ensures.ok c.in_ok-end.ensures.ok)
