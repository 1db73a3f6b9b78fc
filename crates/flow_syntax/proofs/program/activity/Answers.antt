use Rattle.flow_model.specs.Lexeme.{lexemes}
use Rattle.flow_syntax.proofs.ParsedPrograms.{activity_parsed}
use Rattle.flow_syntax.proofs.program.activity.Goals as goal

pub returns-clause-ok : goal.returns-clause-ok
returns-clause-ok c = activity_parsed c.args.at c.in_ok-name_at.name_at c.in_ok-after_open.field-0-0 c.in_ok-after_arrow.field-0-0 c.in_ok-end.field-0-0 c.in_ok-name_at.name (lexemes c.args.tokens.now) (lexemes c.in_ok-name_at.after_name.now) (lexemes c.in_ok-after_open.after_open.now) (lexemes c.in_ok-takes.after_close.now) (lexemes c.in_ok-after_arrow.after_arrow.now) (lexemes c.in_ok-gives.after.now) (lexemes c.in_ok-end.end.now) c.in_ok-takes.takes.items c.in_ok-gives.gives c.in_ok-name_at.ensures.ok c.in_ok-after_open.ensures.ok c.in_ok-takes.ensures.ok c.in_ok-after_arrow.ensures.ok c.in_ok-gives.ensures.ok c.in_ok-end.ensures.ok
