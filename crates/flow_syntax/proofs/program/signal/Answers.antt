use Rattle.flow_model.specs.Lexeme.{lexemes}
use Rattle.flow_syntax.proofs.ParsedPrograms.{signal_parsed}
use Rattle.flow_syntax.proofs.program.signal.Goals as goal

pub returns-clause-ok : goal.returns-clause-ok
returns-clause-ok c = signal_parsed c.args.at c.in_ok-name_at.name_at c.in_ok-after_colon.field-0-0 c.in_ok-end.field-0-0 c.in_ok-name_at.name (lexemes c.args.tokens.now) (lexemes c.in_ok-name_at.after_name.now) (lexemes c.in_ok-after_colon.after_colon.now) (lexemes c.in_ok-carries.after.now) (lexemes c.in_ok-end.end.now) c.in_ok-carries.carries c.in_ok-name_at.ensures.ok c.in_ok-after_colon.ensures.ok c.in_ok-carries.ensures.ok c.in_ok-end.ensures.ok
