-- How many lines an input has given.
use Rattle.std.proofs.Common.{◌≡◌, ℕ, ◌+◌, ◌≤◌, refl, ◌∙◌, arith, inl, inr}
use Rattle.std.specs.Prelude.{◌⊎◌, ◌^◌}
use Rattle.flow_lines.specs.Ends.{Gives}

pub gives_none : (n : ℕ) → Gives 0 n n
gives_none n = (omega arith, inl refl)

last_counted : (a b c : ℕ) → (b ≡ a) ⊎ (b + 2 ≤ 2 ^ 64) → (c ≡ b) ⊎ (c + 2 ≤ 2 ^ 64) → (c ≡ a) ⊎ (c + 2 ≤ 2 ^ 64)
last_counted a b c f (inr few) = inr few
last_counted a b c (inl e) (inl d) = inl (d ∙ e)
last_counted a b c (inr few) (inl d) = inr (omega (arith, few, d))

-- some lines and then some more
pub gives_on : (n m k a b c : ℕ) → k ≤ n + m → Gives n a b → Gives m b c → Gives k a c
gives_on n m k a b c less f g =
    let first : n + a ≤ b = f.0 in
    let later : m + b ≤ c = g.0 in
    (omega (arith, less, first, later), last_counted a b c f.1 g.1)
