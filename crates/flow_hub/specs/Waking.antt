-- Whom an answer wakes.
use Rattle.std.specs.Prelude.{ℕ, ◌≡◌, ◌<◌, ◌%◌, Bool, true, false, List, length, get_or, slice_index_or}
use Rattle.flow_hub.specs.declared.waits.Condition.{Condition}

-- each condition stands at its place
abbrev pub StandInPlace : List Condition → Type 0
StandInPlace cs = (i : ℕ) (e : Condition) → i < 128 → (slice_index_or cs i e).place ≡ i

-- nobody who waits at one of the first n conditions is to be woken any more
abbrev pub AreQuiet : List Bool → ℕ → Type 0
AreQuiet told n = (k : ℕ) (d : Bool) → k < n → k < length told → slice_index_or told k d ≡ false

-- who waits at the condition of this ticket is woken
abbrev pub Wakes : List Bool → ℕ → Type 0
Wakes told ticket = get_or told (ticket % 128) false ≡ true
