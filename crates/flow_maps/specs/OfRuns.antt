-- Functions from the numbers of runs.
use Rattle.std.specs.Prelude.{ℕ, Bool, cond}
use Rattle.std.specs.Ordering.{nat_cmp, is_eq}

abbrev pub is_run : ℕ → ℕ → Bool
is_run run n = is_eq (nat_cmp run n)

-- one run has another value
abbrev pub replaced : {A : Type 0} → ℕ → A → (ℕ → A) → ℕ → A
replaced run x f n = cond (is_run run n) x (f n)
