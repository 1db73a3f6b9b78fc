use Rattle.flow_model.specs.Lexeme.{lexemes}
use Rattle.flow_syntax.proofs.ParsedPrograms.{retry_parsed}
use Rattle.flow_syntax.proofs.statement.retry.Goals as goal

pub returns-clause-ok : goal.returns-clause-ok
returns-clause-ok c = λ at. retry_parsed at c.in_ok-tries_at.tries_at c.in_ok-tries_at.tries c.in_ok-after_every.field-0-0 c.in_ok-every_at.every_at c.in_ok-every_at.every (lexemes c.args.tokens.now) (lexemes c.in_ok-tries_at.after_tries.now) (lexemes c.in_ok-after_every.after_every.now) (lexemes c.in_ok-every_at.end.now) c.in_ok-tries_at.ensures.ok c.in_ok-after_every.ensures.ok c.in_ok-every_at.ensures.ok
