-- Lines that are written one after the other.
use Rattle.std.specs.Prelude.{ℕ, List, [], ◌∷◌, ◌++◌}

-- each thing on a line of its own, which is its text
abbrev pub lines_written : {A : Type 0} → (A → List ℕ) → List A → List ℕ
lines_written text [] = []
lines_written text (x ∷ later) = (text x ++ 10 ∷ []) ++ lines_written text later
