-- Runs that are over, and how they are kept: as stretches of numbers.
use Rattle.std.specs.Prelude.{◌≡◌, ◌≤◌, ◌<◌, ℕ, zero, suc, Bool, true, false, ◌&&◌, not, List, Option, Some, None}
use Rattle.std.specs.List.{list_any}
use Rattle.std.specs.Ordering.{nat_cmp, is_eq}
use Rattle.std.specs.BTreeSet.{BTreeSet, contains}

abbrev pub is_same : ℕ → ℕ → Bool
is_same n m = is_eq (nat_cmp n m)

-- whether a run is one of these
abbrev pub is_over : List ℕ → ℕ → Bool
is_over runs n = list_any (λ (r : ℕ). is_same r n) runs

-- and whether the run before it is
abbrev pub was_over : List ℕ → ℕ → Bool
was_over runs zero = false
was_over runs (suc n) = is_over runs n

-- A stretch begins at each run of the list if the one before it isn't in it, and ends before each that isn't if the one before is.
pub record AreStretches (firsts ends : BTreeSet ℕ) (runs : List ℕ) : Type 0 where
  pub begun : (n : ℕ) → contains nat_cmp firsts n ≡ (is_over runs n && not (was_over runs n))
  pub ended : (n : ℕ) → contains nat_cmp ends n ≡ (not (is_over runs n) && was_over runs n)

-- the first number of a set after another one; none if there is none
abbrev pub IsNextIn : BTreeSet ℕ → ℕ → Option ℕ → Type 0
IsNextIn s n None = (q : ℕ) → contains nat_cmp s q ≡ true → n < q → ⊥
IsNextIn s n (Some m) = (n < m) × (contains nat_cmp s m ≡ true) × ((q : ℕ) → contains nat_cmp s q ≡ true → n < q → m ≤ q)
