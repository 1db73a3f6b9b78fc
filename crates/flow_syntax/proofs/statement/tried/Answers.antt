use Rattle.std.proofs.lemmas.Result.{IfOk-weaker}
use Rattle.flow_model.specs.Lexeme.{lexemes}
use Rattle.flow_syntax.proofs.ParsedPrograms.{once_parsed}
use Rattle.flow_syntax.proofs.statement.tried.Goals as goal

pub returns-in-Some-clause-ok : goal.returns-in-Some-clause-ok
returns-in-Some-clause-ok c = IfOk-weaker c.retry.result _ _ (λ x h. rw c.in-Some.ensures.found (h c.in-Some.field-0-0)) c.retry.ensures.ok

pub returns-clause-ok : goal.returns-clause-ok
returns-clause-ok c = rw c.once.ensures (once_parsed (lexemes c.args.tokens.now) c.in_default.ensures.found)
