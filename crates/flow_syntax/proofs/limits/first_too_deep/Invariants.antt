use Rattle.std.proofs.Common.{◌≤◌, length}
use Rattle.flow_model.specs.Lexeme.{lexemes}
use Rattle.flow_syntax.specs.Faults.{WithinSoFar}
use Rattle.flow_syntax.proofs.limits.first_too_deep.Given as goal

abbrev pub invariant-loop-token : goal.invariant-loop-token
invariant-loop-token l =
    record {
      brackets : l.brackets ≤ 64;
      operators : l.operators ≤ 64;
      so_far : WithinSoFar (lexemes l.tokens) l.brackets l.operators (lexemes l.rest);
    }

abbrev pub decreases-loop-token : goal.decreases-loop-token
decreases-loop-token l = length l.rest
