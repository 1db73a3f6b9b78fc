-- Where a text stands behind a name `deprecate`. Of tokens without such a place the grammar reads what it read before there was
-- the statement: it needs no keyword.
use Rattle.std.specs.Prelude.{◌≡◌, Bool, true, false, ◌||◌, List, [], ◌∷◌}
use Rattle.flow_base.specs.Syntax.{Statement, Call, WaitSignalFor, If, While, Parallel, Patch, Deprecate, Block, End, Next, Otherwise, NoElse, Else, Branches, NoBranch, Branch, Program}
use Rattle.flow_model.specs.Lexeme.{Lexeme}
use Rattle.flow_model.specs.Grammar.{Reads}
use Rattle.flow_syntax.specs.Parsing.{begins_deprecate}

-- somewhere in the tokens a text stands behind that name
abbrev pub has_deprecate : List Lexeme → Bool
has_deprecate [] = false
has_deprecate (t ∷ ts) = begins_deprecate (t ∷ ts) || has_deprecate ts

-- a list has the statement, at any depth
abbrev mutual
  pub deprecates : Statement → Bool
  deprecates (Call at x activity_at a es r o) = else_deprecates o
  deprecates (WaitSignalFor at x signal_at n e b end) = block_deprecates b
  deprecates (If at e a a_end b b_end) = block_deprecates a || block_deprecates b
  deprecates (While at e b end) = block_deprecates b
  deprecates (Parallel at bs end) = branches_deprecate bs
  deprecates (Patch at id_at id a a_end b b_end) = block_deprecates a || block_deprecates b
  deprecates (Deprecate at id_at id) = true
  deprecates s = false

  pub block_deprecates : Block → Bool
  block_deprecates End = false
  block_deprecates (Next s b) = deprecates s || block_deprecates b

  pub else_deprecates : Otherwise → Bool
  else_deprecates NoElse = false
  else_deprecates (Else b end) = block_deprecates b

  pub branches_deprecate : Branches → Bool
  branches_deprecate NoBranch = false
  branches_deprecate (Branch at b end bs) = block_deprecates b || branches_deprecate bs

-- Tokens without a text behind that name are of no program that has the statement.
abbrev pub NoNameNoStatement : Type 0
NoNameNoStatement = (ts : List Lexeme) (p : Program) → Reads ts p → has_deprecate ts ≡ false → block_deprecates p.body ≡ false
