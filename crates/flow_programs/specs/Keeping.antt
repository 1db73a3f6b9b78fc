-- What is kept of the texts that were read: the list of them, the one that was asked for last first.
use Rattle.std.specs.Prelude.{◌≡◌, ◌⊎◌, ◌<◌, ℕ, ◌+◌, ◌-◌, Bool, true, false, cond, nat_lt, bytes_eq, List, [], ◌∷◌, length, remove, Some, slice_get}
use Rattle.flow_base.specs.Syntax.{Bytes}

-- what a text counts for
abbrev pub weight : Bytes → ℕ
weight t = length t + 1024

unfoldable pub total : List Bytes → ℕ
total [] = 0
total (t ∷ ts) = weight t + total ts

-- those before the first that doesn't fit into the room that is left
unfoldable pub fitting : ℕ → List Bytes → List Bytes
fitting room [] = []
fitting room (t ∷ ts) = cond (nat_lt room (weight t)) [] (t ∷ fitting (room - weight t) ts)

unfoldable pub is_kept : Bytes → List Bytes → Bool
is_kept text [] = false
is_kept text (t ∷ ts) = cond (bytes_eq t text) true (is_kept text ts)

-- the others
unfoldable pub without : Bytes → List Bytes → List Bytes
without text [] = []
without text (t ∷ ts) = cond (bytes_eq t text) ts (t ∷ without text ts)

-- the text stands at this place, and at none before it
pub record IsPlace (text : Bytes) (ts : List Bytes) (i : ℕ) : Type 0 where
  pub there : is_kept text ts ≡ true
  pub within : i < length ts
  pub at : slice_get ts i ≡ Some text
  pub others : remove ts i ≡ without text ts

-- A text that wasn't kept comes first, before those that fit beside it; or all is as it was, where it isn't kept.
abbrev pub IsKeptAnew : Bytes → ℕ → List Bytes → List Bytes → Type 0
IsKeptAnew text limit before behind = (behind ≡ text ∷ fitting (limit - weight text) before) ⊎ (behind ≡ before)
