use Rattle.std.proofs.Common.{◌≡◌, ◌<◌, List, ◌∷◌, length}
use Rattle.flow_model.specs.Lexeme.{lexemes}
use Rattle.flow_syntax.specs.Machine.{Symbol, fault}
use Rattle.flow_syntax.specs.Machine as m
use Rattle.flow_syntax.proofs.ParsedPrograms.{TypesSoFar}
use Rattle.flow_syntax.proofs.program.types.Given as goal

abbrev pub invariant-loop-after : goal.invariant-loop-after
invariant-loop-after l =
    record {
      shorter : length l.rest < length l.tokens;
      whole : TypesSoFar (lexemes l.tokens) l.list.items (lexemes l.rest);
      machine : (owed : List Symbol) → fault (m.types ∷ owed) (lexemes l.tokens) ≡ fault (m.more_types ∷ owed) (lexemes l.rest);
    }

abbrev pub decreases-loop-after : goal.decreases-loop-after
decreases-loop-after l = length l.rest
