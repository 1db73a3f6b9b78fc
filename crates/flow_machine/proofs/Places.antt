-- Elements of lists by their places.
use Rattle.std.proofs.Common.{◌≡◌, ℕ, zero, suc, ◌+◌, ◌-◌, List, [], ◌∷◌, ◌++◌, length, set, All, refl, ap, ◌∙◌, subst, arith, Option, Some, None, Bool, true, false, ⊎_elim, inl, inr}
use Rattle.std.specs.Prelude.{◌⊎◌, ◌≢◌, slice_get, nat_eq, if◌then◌else◌}
use Rattle.std.proofs.lemmas.Option.{slice_get_within, get_or_from_slice_get}
use Rattle.std.proofs.lemmas.Bool.Decides.{eqb_tells}
use Rattle.flow_model.specs.Book.{nth}

pub get_past : {A : Type 0} (xs ys : List A) (m j : ℕ) → m ≡ length xs + j → slice_get (xs ++ ys) m ≡ slice_get ys j
get_past [] ys m j e = let same : m ≡ j = omega (arith, e) in ap (slice_get ys) same
get_past (x ∷ xs) ys zero j e = absurd (omega (arith, e))
get_past (x ∷ xs) ys (suc m) j e = get_past xs ys m j (omega (arith, e))

pub get_kept : {A : Type 0} (xs ys : List A) (m : ℕ) (x : A) → slice_get xs m ≡ Some x → slice_get (xs ++ ys) m ≡ Some x
get_kept [] ys m x e = cc
get_kept (y ∷ xs) ys zero x e = e
get_kept (y ∷ xs) ys (suc m) x e = get_kept xs ys m x e

pub get_all : {A : Type 0} (P : A → Type 0) (xs : List A) (i : ℕ) (x : A) → slice_get xs i ≡ Some x → All P xs → P x
get_all P xs i x e h = subst P (get_or_from_slice_get xs i x x e) (h i x (slice_get_within xs i x e))

-- the number of an element and its place
pub nth_at : {A : Type 0} (xs : List A) (n m : ℕ) → n ≡ suc m → nth xs n ≡ slice_get xs m
nth_at {A} xs n m e =
    let less : n - 1 ≡ m = omega (arith, e) in
    let by : Bool → Option A = λ b. if b then None else slice_get xs (n - 1) in
    ⊎_elim (λ (t : (nat_eq n 0 ≡ true) × (n ≡ 0)). absurd (omega (arith, t.1, e)))
    (λ (t : (nat_eq n 0 ≡ false) × (n ≢ 0)). ap by t.0 ∙ ap (slice_get xs) less) (eqb_tells n 0)

pub nth_kept : {A : Type 0} (xs ys : List A) (n : ℕ) (x : A) → nth xs n ≡ Some x → nth (xs ++ ys) n ≡ Some x
nth_kept xs ys n x e =
    elim (nat_eq n 0) as (λ b. (if b then None else slice_get xs (n - 1)) ≡ Some x → (if b then None else slice_get (xs ++ ys) (n - 1)) ≡ Some x) [
      | true ↦ λ h. h
      | false ↦ λ h. get_kept xs ys (n - 1) x h
    ] e

pub nth_place : {A : Type 0} (xs : List A) (n : ℕ) (x : A) → nth xs n ≡ Some x → slice_get xs (n - 1) ≡ Some x
nth_place xs n x e =
    elim (nat_eq n 0) as (λ b. (if b then None else slice_get xs (n - 1)) ≡ Some x → slice_get xs (n - 1) ≡ Some x) [
      | true ↦ λ h. cc
      | false ↦ λ h. h
    ] e

-- what stands where one element was changed
pub get_set : {A : Type 0} (xs : List A) (i j : ℕ) (x y z : A) → slice_get xs i ≡ Some x → slice_get (set xs i y) j ≡ Some z
    → (slice_get xs j ≡ Some z) ⊎ ((slice_get xs j ≡ Some x) × (z ≡ y))
get_set [] i j x y z e h = cc
get_set (a ∷ xs) zero zero x y z e h = inr (e, cc)
get_set (a ∷ xs) zero (suc j) x y z e h = inl h
get_set (a ∷ xs) (suc i) zero x y z e h = inl h
get_set (a ∷ xs) (suc i) (suc j) x y z e h = get_set xs i j x y z e h

pub get_set_same : {A : Type 0} (xs : List A) (i : ℕ) (x y : A) → slice_get xs i ≡ Some x → slice_get (set xs i y) i ≡ Some y
get_set_same [] i x y e = cc
get_set_same (a ∷ xs) zero x y e = refl
get_set_same (a ∷ xs) (suc i) x y e = get_set_same xs i x y e

-- what stands in a list with one element more
pub get_push : {A : Type 0} (xs : List A) (y : A) (j : ℕ) (z : A) → slice_get (xs ++ y ∷ []) j ≡ Some z → (slice_get xs j ≡ Some z) ⊎ ((j ≡ length xs) × (z ≡ y))
get_push [] y zero z h = inr (refl, cc)
get_push [] y (suc j) z h = cc
get_push (x ∷ xs) y zero z h = inl h
get_push (x ∷ xs) y (suc j) z h =
    ⊎_elim (λ (a : slice_get xs j ≡ Some z). inl a) (λ (a : (j ≡ length xs) × (z ≡ y)). inr (ap suc a.0, a.1)) (get_push xs y j z h)
