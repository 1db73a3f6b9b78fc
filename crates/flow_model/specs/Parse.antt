-- The first fault of a text, in the order of its tokens.
use Rattle.std.specs.Prelude.{◌≡◌, ℕ, List, [], ◌∷◌, ◌++◌}
use Rattle.flow_base.specs.Syntax as tree
use Rattle.flow_model.specs.Lexeme.{Lexeme}
use Rattle.flow_model.specs.Grammar.{Reads, Begins}
use Rattle.flow_model.specs.Limits.{Within}

-- E11 at a token: a program begins with the tokens before, and none with it too.
abbrev pub IsFirstUnfit : List Lexeme → ℕ → Type 0
IsFirstUnfit ts at = (before : List Lexeme) × (t : Lexeme) × (after : List Lexeme) × (ts ≡ before ++ (t ∷ after)) × Within before × Begins before × (Begins (before ++ (t ∷ [])) → ⊥) × (at ≡ t.at)

-- E11 at the end: a program begins so, and the tokens are none.
abbrev pub EndsEarly : List Lexeme → Type 0
EndsEarly ts = Within ts × Begins ts × ((p : tree.Program) → Reads ts p → ⊥)

-- E13: the token at this place passes a limit, the first one, and a program begins so.
abbrev pub IsFirstDeep : List Lexeme → ℕ → Type 0
IsFirstDeep ts at = (before : List Lexeme) × (t : Lexeme) × (after : List Lexeme) × (ts ≡ before ++ (t ∷ after)) × Within before × (Within (before ++ (t ∷ [])) → ⊥) × Begins (before ++ (t ∷ [])) × (at ≡ t.at)
