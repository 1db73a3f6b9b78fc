use Rattle.std.proofs.Common.{◌≡◌, ◌+◌, ◌*◌, ◌≤◌, List, ◌∷◌, length, map}
use Rattle.flow_base.specs.Shown.{shown_stmt, shown_branch}
use Rattle.flow_model.specs.Lexeme.{lexemes}
use Rattle.flow_syntax.specs.Machine.{Symbol, fault}
use Rattle.flow_syntax.specs.Machine as m
use Rattle.flow_syntax.proofs.ParsedPrograms.{StatementsSoFar, BranchesSoFar}
use Rattle.flow_syntax.proofs.statement.+statement.Given as goal

abbrev pub decreases-block : goal.decreases-block
decreases-block l = 10 * length l.tokens.now + 0

abbrev pub decreases-else_tail : goal.decreases-else_tail
decreases-else_tail l = 10 * length l.tokens.now + 0

abbrev pub decreases-wait_tail : goal.decreases-wait_tail
decreases-wait_tail l = 10 * length l.tokens.now + 0

abbrev pub decreases-call_statement : goal.decreases-call_statement
decreases-call_statement l = 10 * length l.tokens.now + 0

abbrev pub decreases-wait_statement : goal.decreases-wait_statement
decreases-wait_statement l = 10 * length l.tokens.now + 0

abbrev pub decreases-right_side : goal.decreases-right_side
decreases-right_side l = 10 * length l.tokens.now + 0

abbrev pub decreases-while_statement : goal.decreases-while_statement
decreases-while_statement l = 10 * length l.tokens.now + 0

abbrev pub decreases-branches : goal.decreases-branches
decreases-branches l = 10 * length l.tokens.now + 1

abbrev pub decreases-parallel_statement : goal.decreases-parallel_statement
decreases-parallel_statement l = 10 * length l.tokens.now + 0

abbrev pub decreases-statement : goal.decreases-statement
decreases-statement l = 10 * length l.tokens.now + 0

abbrev pub decreases-choice : goal.decreases-choice
decreases-choice l = 10 * length l.tokens.now + 1

abbrev pub decreases-member : goal.decreases-member
decreases-member l = 10 * length l.tokens.now + 2

abbrev pub decreases-statements : goal.decreases-statements
decreases-statements l = 10 * length l.tokens.now + 3

abbrev pub invariant-statements-loop-at : goal.invariant-statements-loop-at
invariant-statements-loop-at l =
    record {
      shorter : length l.rest ≤ length l.tokens;
      whole : StatementsSoFar (lexemes l.tokens) (map shown_stmt l.list.items) (lexemes l.rest);
      machine : (owed : List Symbol) → fault (m.statements ∷ owed) (lexemes l.tokens) ≡ fault (m.statements ∷ owed) (lexemes l.rest);
    }

abbrev pub decreases-statements-loop-at : goal.decreases-statements-loop-at
decreases-statements-loop-at l = length l.rest

abbrev pub invariant-branches-loop-shut_at : goal.invariant-branches-loop-shut_at
invariant-branches-loop-shut_at l =
    record {
      shorter : length l.rest ≤ length l.tokens;
      whole : BranchesSoFar (lexemes l.tokens) (map shown_branch l.list.items) (lexemes l.rest);
      machine : (owed : List Symbol) → fault (m.more_branches ∷ owed) (lexemes l.tokens) ≡ fault (m.more_branches ∷ owed) (lexemes l.rest);
    }

abbrev pub decreases-branches-loop-shut_at : goal.decreases-branches-loop-shut_at
decreases-branches-loop-shut_at l = length l.rest
