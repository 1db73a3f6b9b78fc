-- Numbers in digits.
use Rattle.std.proofs.Common.{◌≡◌, ℕ, ◌<◌, ◌≤◌, List, [], ◌∷◌, Bool, true, false, cond, nat_le, Option, Some, None, pos, length, get_or, take, drop, take-append-drop, sym, ap, ◌∙◌, refl, arith}
use Rattle.std.specs.List.{fold}
use Rattle.std.proofs.lemmas.Bool.Decides.{nat_tests}
use Rattle.std.proofs.lemmas.List.Sums.{fold-append}
use Rattle.flow_base.specs.declared.token.Word.TheVariants as word
use Rattle.flow_model.specs.Tokens.{with_digit, number_of, number_word, has_leading_zero}

fold_grows : (bs : List ℕ) (n : ℕ) → n ≤ fold with_digit n bs
fold_grows [] n = omega arith
fold_grows (b ∷ bs) n = omega (arith, fold_grows bs (with_digit n b))

-- no later digit makes the number less
pub number_grows : (bs : List ℕ) (i : ℕ) → number_of (take i bs) ≤ number_of bs
number_grows bs i =
    let whole : number_of bs ≡ fold with_digit (number_of (take i bs)) (drop i bs) =
    ap (fold with_digit 0) (sym (take-append-drop i bs)) ∙ fold-append with_digit 0 (take i bs) (drop i bs) in
    omega (arith, whole, fold_grows (drop i bs) (number_of (take i bs)))

pub too_large : (bs : List ℕ) → 9223372036854775807 < number_of bs → number_word bs ≡ None
too_large bs h =
    let no : nat_le (number_of bs) 9223372036854775807 ≡ false = grind (arith, nat_tests) in
    step (has_leading_zero bs) (nat_le (number_of bs) 9223372036854775807) (Some (word.Int (pos (number_of bs)))) no
  where
    step : {A : Type 0} (u v : Bool) (x : Option A) → v ≡ false → cond u None (cond v x None) ≡ None
    step true v x e = refl
    step false v x e = ap (λ b. cond b x None) e

pub leading_zero : (bs : List ℕ) → 1 < length bs → get_or bs 0 0 ≡ 48 → has_leading_zero bs ≡ true
leading_zero [] long e = absurd (omega arith)
leading_zero (b ∷ []) long e = absurd (omega arith)
leading_zero (b ∷ c ∷ bs) long e = grind (arith, nat_tests)

pub no_leading_zero : (bs : List ℕ) → (1 < length bs → get_or bs 0 0 ≡ 48 → ⊥) → has_leading_zero bs ≡ false
no_leading_zero [] h = refl
no_leading_zero (b ∷ []) h = refl
no_leading_zero (b ∷ c ∷ bs) h =
    let other : b ≡ 48 → ⊥ = h (omega arith) in
    grind (arith, nat_tests)

pub in_range : (bs : List ℕ) → has_leading_zero bs ≡ false → number_of bs ≤ 9223372036854775807 → number_word bs ≡ Some (word.Int (pos (number_of bs)))
in_range bs e h =
    let yes : nat_le (number_of bs) 9223372036854775807 ≡ true = grind (arith, nat_tests) in
    step (has_leading_zero bs) (nat_le (number_of bs) 9223372036854775807) (Some (word.Int (pos (number_of bs)))) e yes
  where
    step : {A : Type 0} (u v : Bool) (x : Option A) → u ≡ false → v ≡ true → cond u None (cond v x None) ≡ x
    step u v x e f = ap (λ b. cond b None (cond v x None)) e ∙ ap (λ b. cond b x None) f
