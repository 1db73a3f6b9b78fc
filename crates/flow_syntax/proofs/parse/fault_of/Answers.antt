use Rattle.std.proofs.Common.{◌∙◌}
use Rattle.flow_model.specs.Lexeme.{lexeme, lexemes}
use Rattle.std.proofs.Common.{inl, inr, refl}
use Rattle.flow_syntax.proofs.Faults.{stop_left, stops_at_token, stops_at_end, slice_end}
use Rattle.flow_syntax.proofs.parse.fault_of.Goals as goal

pub overflow_sub-tokens : goal.overflow_sub-tokens
overflow_sub-tokens c = stop_left c.args.tokens.now c.in-Unexpected.left (rw c.in-Unexpected.is at c.requires)

pub returns-in-Some : goal.returns-in-Some
returns-in-Some c = inr (inl (c.in-Some.token.now.from, refl, stops_at_token (lexemes c.args.tokens.now) c.in-Unexpected.left (lexeme c.in-Some.token.now) (lexemes c.in-Some.field-0-1.now) (rw c.in-Unexpected.is at c.requires) (slice_end c.args.tokens.now c.in-Unexpected.left ∙ c.in-Some.ensures.found)))

pub returns-in-None : goal.returns-in-None
returns-in-None c =
    let s = stops_at_end (lexemes c.args.tokens.now) c.in-Unexpected.left (rw c.in-Unexpected.is at c.requires) (slice_end c.args.tokens.now c.in-Unexpected.left ∙ c.in-None.ensures.found) in
    inr (inr (refl, s.0, s.1))
