use denote.Enum.Bare.{same_true, same_false}
use Rattle.std.proofs.Common.{◌≡◌, ◌∙◌, ◌∷◌, ap, sym}
use Rattle.flow_base.specs.contracts.token.Mark.{the_type}
use Rattle.flow_base.specs.declared.token.Mark.{Mark}
use Rattle.flow_model.specs.Lexeme.{lexemes}
use Rattle.flow_model.specs.Grammar.{marked}
use Rattle.flow_syntax.proofs.Parsed.{lacks_no_mark, lacks_other}
use Rattle.flow_syntax.proofs.cursor.eat.Goals as goal

pub returns-in_err-at-clause-found : goal.returns-in_err-at-clause-found
returns-in_err-at-clause-found c = rw c.from_residual.ensures (lacks_no_mark c.args.wanted (lexemes c.args.tokens.now) c.in_err-at.ensures.found)

pub returns-then-eq-clause-found : goal.returns-then-eq-clause-found
returns-then-eq-clause-found c =
    let same : c.in_ok-at.found ≡ c.args.wanted = same_true the_type tt c.in_ok-at.found c.args.wanted (sym (c.if-eq.ensures {u = tt})) in
    c.in_ok-at.ensures.found ∙ ap (λ (m : Mark). marked c.in_ok-at.at m ∷ lexemes c.in_ok-at.rest.now) same

pub returns-else-eq-clause-found : goal.returns-else-eq-clause-found
returns-else-eq-clause-found c =
    let differ : c.in_ok-at.found ≡ c.args.wanted → ⊥ = same_false the_type c.in_ok-at.found c.args.wanted (sym (c.if-eq.ensures {u = tt})) in
    lacks_other c.args.wanted c.in_ok-at.found c.in_ok-at.at (lexemes c.args.tokens.now) (lexemes c.in_ok-at.rest.now) c.in_ok-at.ensures.found differ
