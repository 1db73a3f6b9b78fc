-- Runs, by their numbers.
use Rattle.std.specs.Prelude.{ℕ, Bool, List}
use Rattle.std.specs.List.{list_any}
use Rattle.std.specs.Ordering.{nat_cmp, is_eq}

abbrev pub is_same : ℕ → ℕ → Bool
is_same n m = is_eq (nat_cmp n m)

-- whether a run is one of these
abbrev pub is_over : List ℕ → ℕ → Bool
is_over runs n = list_any (λ (r : ℕ). is_same r n) runs
