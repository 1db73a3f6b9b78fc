use Rattle.std.proofs.Common.{◌≡◌, ◌<◌, List, ◌∷◌, length, map}
use Rattle.flow_base.specs.Shown.{shown_expr}
use Rattle.flow_model.specs.Lexeme.{lexemes}
use Rattle.flow_syntax.specs.Machine.{Symbol, fault}
use Rattle.flow_syntax.specs.Machine as m
use Rattle.flow_syntax.proofs.ParsedExpressions.{ArgumentsSoFar}
use Rattle.flow_syntax.proofs.expression.arguments.Given as goal

abbrev pub invariant-loop-after : goal.invariant-loop-after
invariant-loop-after l =
    record {
      shorter : length l.rest < length l.tokens;
      whole : ArgumentsSoFar (lexemes l.tokens) (map shown_expr l.list.items) (lexemes l.rest);
      machine : (owed : List Symbol) → fault (m.arguments ∷ owed) (lexemes l.tokens) ≡ fault (m.more_arguments ∷ owed) (lexemes l.rest);
    }

abbrev pub decreases-loop-after : goal.decreases-loop-after
decreases-loop-after l = length l.rest
