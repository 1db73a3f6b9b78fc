use Rattle.std.proofs.Common.{map}
use Rattle.flow_base.specs.Shown.{shown_expr}
use Rattle.flow_model.specs.Lexeme.{lexemes}
use Rattle.flow_syntax.proofs.ParsedPrograms.{called_parsed}
use Rattle.flow_syntax.proofs.statement.called.Goals as goal

pub returns-clause-ok : goal.returns-clause-ok
returns-clause-ok c = λ at into call_at. called_parsed at call_at c.in_ok-activity_at.activity_at c.in_ok-after_open.field-0-0 into c.in_ok-activity_at.activity (lexemes c.args.tokens.now) (lexemes c.in_ok-activity_at.after_name.now) (lexemes c.in_ok-after_open.after_open.now) (lexemes c.in_ok-list.after.now) (lexemes c.in_ok-retry.end.now) (map shown_expr c.in_ok-list.list.items) c.in_ok-retry.retry c.in_ok-activity_at.ensures.ok c.in_ok-after_open.ensures.ok c.in_ok-list.ensures.ok c.in_ok-retry.ensures.ok
