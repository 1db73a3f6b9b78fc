use Rattle.std.proofs.Common.{◌≡◌, ◌+◌, ◌*◌, ◌<◌, List, ◌∷◌, length}
use Rattle.flow_base.specs.Shown.{shown_expr}
use Rattle.flow_model.specs.Lexeme.{lexemes}
use Rattle.flow_syntax.specs.Machine.{Symbol, fault}
use Rattle.flow_syntax.specs.Machine as m
use Rattle.flow_syntax.proofs.ParsedExpressions.{TermSoFar, SumSoFar, ConjSoFar, ExprSoFar}
use Rattle.flow_syntax.proofs.expression.+expression.Given as goal

abbrev pub decreases-parens : goal.decreases-parens
decreases-parens l = 10 * length l.tokens.now + 0

abbrev pub decreases-applied : goal.decreases-applied
decreases-applied l = 10 * length l.tokens.now + 1

abbrev pub decreases-prim : goal.decreases-prim
decreases-prim l = 10 * length l.tokens.now + 2

abbrev pub decreases-unary : goal.decreases-unary
decreases-unary l = 10 * length l.tokens.now + 3

abbrev pub decreases-term : goal.decreases-term
decreases-term l = 10 * length l.tokens.now + 4

abbrev pub decreases-sum : goal.decreases-sum
decreases-sum l = 10 * length l.tokens.now + 5

abbrev pub decreases-compared : goal.decreases-compared
decreases-compared l = 10 * length l.tokens.now + 6

abbrev pub decreases-negated : goal.decreases-negated
decreases-negated l = 10 * length l.tokens.now + 7

abbrev pub decreases-conjunction : goal.decreases-conjunction
decreases-conjunction l = 10 * length l.tokens.now + 8

abbrev pub decreases-expr : goal.decreases-expr
decreases-expr l = 10 * length l.tokens.now + 9

abbrev pub invariant-term-loop-operator : goal.invariant-term-loop-operator
invariant-term-loop-operator l =
    record {
      shorter : length l.rest < length l.tokens;
      whole : TermSoFar (lexemes l.tokens) (shown_expr l.left) (lexemes l.rest);
      machine : (owed : List Symbol) → fault (m.term ∷ owed) (lexemes l.tokens) ≡ fault (m.more_term ∷ owed) (lexemes l.rest);
    }

abbrev pub decreases-term-loop-operator : goal.decreases-term-loop-operator
decreases-term-loop-operator l = length l.rest

abbrev pub invariant-sum-loop-operator : goal.invariant-sum-loop-operator
invariant-sum-loop-operator l =
    record {
      shorter : length l.rest < length l.tokens;
      whole : SumSoFar (lexemes l.tokens) (shown_expr l.left) (lexemes l.rest);
      machine : (owed : List Symbol) → fault (m.sum ∷ owed) (lexemes l.tokens) ≡ fault (m.more_sum ∷ owed) (lexemes l.rest);
    }

abbrev pub decreases-sum-loop-operator : goal.decreases-sum-loop-operator
decreases-sum-loop-operator l = length l.rest

abbrev pub invariant-conjunction-loop-after : goal.invariant-conjunction-loop-after
invariant-conjunction-loop-after l =
    record {
      shorter : length l.rest < length l.tokens;
      whole : ConjSoFar (lexemes l.tokens) (shown_expr l.left) (lexemes l.rest);
      machine : (owed : List Symbol) → fault (m.conj ∷ owed) (lexemes l.tokens) ≡ fault (m.more_conj ∷ owed) (lexemes l.rest);
    }

abbrev pub decreases-conjunction-loop-after : goal.decreases-conjunction-loop-after
decreases-conjunction-loop-after l = length l.rest

abbrev pub invariant-expr-loop-after : goal.invariant-expr-loop-after
invariant-expr-loop-after l =
    record {
      shorter : length l.rest < length l.tokens;
      whole : ExprSoFar (lexemes l.tokens) (shown_expr l.left) (lexemes l.rest);
      machine : (owed : List Symbol) → fault (m.expr ∷ owed) (lexemes l.tokens) ≡ fault (m.more_expr ∷ owed) (lexemes l.rest);
    }

abbrev pub decreases-expr-loop-after : goal.decreases-expr-loop-after
decreases-expr-loop-after l = length l.rest
