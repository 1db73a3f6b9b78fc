use Rattle.std.proofs.Common.{◌≡◌, ◌≤◌, List, ◌∷◌, length, map}
use Rattle.flow_base.specs.Shown.{shown_declaration}
use Rattle.flow_model.specs.Lexeme.{lexemes}
use Rattle.flow_syntax.specs.Machine.{Symbol, fault}
use Rattle.flow_syntax.specs.Machine as m
use Rattle.flow_syntax.proofs.ParsedPrograms.{BodySoFar}
use Rattle.flow_syntax.proofs.program.body.Given as goal

abbrev pub invariant-loop-declarations : goal.invariant-loop-declarations
invariant-loop-declarations l =
    record {
      shorter : length l.rest ≤ length l.tokens;
      whole : BodySoFar (lexemes l.tokens) (map shown_declaration l.declarations.items) (lexemes l.rest);
      machine : (owed : List Symbol) → fault (m.body ∷ owed) (lexemes l.tokens) ≡ fault (m.body ∷ owed) (lexemes l.rest);
    }

abbrev pub decreases-loop-declarations : goal.decreases-loop-declarations
decreases-loop-declarations l = length l.rest
