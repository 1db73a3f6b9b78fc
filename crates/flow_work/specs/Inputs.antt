-- What is read.
use Rattle.std.specs.Prelude.{◌≡◌, ◌⊎◌, ℕ, List, [], ◌∷◌, ◌++◌, Option, Some, Bool, true, false, IfSome}
use Rattle.std.specs.List.{AllByRecursion}
use Rattle.flow_lines.specs.Answering.{FirstLine}
use Rattle.flow_work.specs.declared.input.InputMessage.{InputMessage}
use Rattle.flow_work.specs.declared.input.InputMessage.TheVariants as input

abbrev pub is_line : InputMessage → Bool
is_line (input.Line line) = true
is_line input.Ended = false
is_line input.Failed = false
is_line input.Stopped = false

-- What is read next of these bytes is their first line, and their end exactly where there are none. Where reading fails there is
-- nothing to tell of.
abbrev pub IsNext : List ℕ → InputMessage → Option (List ℕ) → Type 0
IsNext bytes (input.Line line) left = FirstLine bytes line.items left
IsNext bytes input.Ended left = (bytes ≡ []) × (left ≡ Some bytes)
IsNext bytes input.Failed left = Unit {0}
IsNext bytes input.Stopped left = ⊥

-- These were read of these bytes, where they are known, one after the other; and these are left.
abbrev pub Reads : Option (List ℕ) → List InputMessage → Option (List ℕ) → Type 0
Reads bytes [] left = left ≡ bytes
Reads bytes (x ∷ xs) left = (mid : Option (List ℕ)) × IfSome bytes (λ now. IsNext now x mid) × Reads mid xs left

abbrev pub IsALine : InputMessage → Type 0
IsALine x = is_line x ≡ true

-- What was read was taken, line by line, and behind the lines their end, which is no line; or nobody took any more, what was read last.
abbrev pub HasRead : Type 0 → Option (List ℕ) → Option (List ℕ) → (was now : List InputMessage) → Type 0
HasRead gone bytes left was now =
    (lines : List InputMessage) × (last : InputMessage) × AllByRecursion IsALine lines × Reads bytes (lines ++ last ∷ []) left
    × (((now ≡ was ++ lines ++ last ∷ []) × (is_line last ≡ false)) ⊎ ((now ≡ was ++ lines) × gone))

-- the lines of what was given
abbrev pub lines_in : List InputMessage → List (List ℕ)
lines_in [] = []
lines_in (input.Line line ∷ xs) = line.items ∷ lines_in xs
lines_in (input.Ended ∷ xs) = lines_in xs
lines_in (input.Failed ∷ xs) = lines_in xs
lines_in (input.Stopped ∷ xs) = lines_in xs

-- What was given is taken in, if it is a line.
abbrev pub Takes : InputMessage → (was now : List (List ℕ)) → Type 0
Takes (input.Line line) was now = now ≡ was ++ line.items ∷ []
Takes input.Ended was now = now ≡ was
Takes input.Failed was now = now ≡ was
Takes input.Stopped was now = now ≡ was
