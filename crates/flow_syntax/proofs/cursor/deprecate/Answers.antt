use Rattle.std.proofs.Common.{refl, sym, ◌∙◌}
use Rattle.flow_model.specs.Lexeme.{lexeme, lexemes}
use Rattle.flow_syntax.proofs.ParsedPrograms.{deprecate_found, no_deprecate, one_is_none}
use Rattle.flow_syntax.proofs.cursor.deprecate.Goals as goal

pub returns-in_err-first-clause-found : goal.returns-in_err-first-clause-found
returns-in_err-first-clause-found c = rw (c.from_residual.ensures, c.in_err-first.ensures.found) refl

pub returns-in_err-second-clause-found : goal.returns-in_err-second-clause-found
returns-in_err-second-clause-found c =
    rw c.from_residual-in_err-second.ensures (one_is_none (lexeme c.in_ok-first.first.now) (lexemes c.args.tokens.now) (lexemes c.in_ok-first.rest.now) c.in_ok-first.ensures.found c.in_err-second.ensures.found)

pub returns-then-is_deprecated-clause-found : goal.returns-then-is_deprecated-clause-found
returns-then-is_deprecated-clause-found c =
    deprecate_found (lexeme c.in_ok-first.first.now) (lexeme c.in_ok-second.second.now) (lexemes c.args.tokens.now) (lexemes c.in_ok-first.rest.now) (lexemes c.in_ok-second.field-0-1.now)
    c.in_ok-first.ensures.found c.in_ok-second.ensures.found (sym c.is_deprecated.ensures ∙ c.if-is_deprecated.true)

pub returns-else-is_deprecated-clause-found : goal.returns-else-is_deprecated-clause-found
returns-else-is_deprecated-clause-found c =
    no_deprecate (lexeme c.in_ok-first.first.now) (lexeme c.in_ok-second.second.now) (lexemes c.args.tokens.now) (lexemes c.in_ok-first.rest.now) (lexemes c.in_ok-second.field-0-1.now)
    c.in_ok-first.ensures.found c.in_ok-second.ensures.found (sym c.is_deprecated.ensures ∙ c.if-is_deprecated.false)
