-- Whether two books are the same.
use Rattle.std.proofs.Common.{◌≡◌, ℕ, zero, suc, refl, ap, ◌∙◌, inl, inr, arith}
use Rattle.std.specs.Prelude.{◌⊎◌}
use base.Stored.{Gv, gnil, gnum, gcons}
use Rattle.flow_model.specs.Book.{Book}
use Rattle.flow_commit.specs.Accounts.{book_code}

abbrev pub Decided : {A : Type 0} → A → A → Type 0
Decided x y = (x ≡ y) ⊎ (x ≡ y → ⊥)

number_of : Gv → ℕ → ℕ
number_of gnil n = n
number_of (gnum m) n = m
number_of (gcons a b) n = n

first_of : Gv → Gv → Gv
first_of gnil x = x
first_of (gnum m) x = x
first_of (gcons a b) x = a

second_of : Gv → Gv → Gv
second_of gnil x = x
second_of (gnum m) x = x
second_of (gcons a b) x = b

kind_of : Gv → ℕ
kind_of gnil = 0
kind_of (gnum m) = 1
kind_of (gcons a b) = 2

same_number : (n m : ℕ) → Decided n m
same_number zero zero = inl refl
same_number zero (suc m) = inr (λ e. absurd (omega (arith, e)))
same_number (suc n) zero = inr (λ e. absurd (omega (arith, e)))
same_number (suc n) (suc m) = elim (same_number n m) [
  | inl is ↦ inl (ap suc is)
  | inr other ↦ inr (λ e. other (omega (arith, e)))
]

other_kind : (x y : Gv) → (kind_of x ≡ kind_of y → ⊥) → Decided x y
other_kind x y other = inr (λ e. other (ap kind_of e))

same_tree : (x y : Gv) → Decided x y
unfolding number_of first_of second_of kind_of
same_tree gnil gnil = inl refl
same_tree gnil (gnum m) = other_kind gnil (gnum m) (λ e. omega (arith, e))
same_tree gnil (gcons a b) = other_kind gnil (gcons a b) (λ e. omega (arith, e))
same_tree (gnum n) gnil = other_kind (gnum n) gnil (λ e. omega (arith, e))
same_tree (gnum n) (gnum m) = elim (same_number n m) [
  | inl is ↦ inl (ap gnum is)
  | inr other ↦ inr (λ e. other (ap (λ x. number_of x n) e))
]
same_tree (gnum n) (gcons a b) = other_kind (gnum n) (gcons a b) (λ e. omega (arith, e))
same_tree (gcons a b) gnil = other_kind (gcons a b) gnil (λ e. omega (arith, e))
same_tree (gcons a b) (gnum m) = other_kind (gcons a b) (gnum m) (λ e. omega (arith, e))
same_tree (gcons a b) (gcons c d) = elim (same_tree a c) [
  | inl is ↦ elim (same_tree b d) [
    | inl also ↦ inl (ap (λ x. gcons x b) is ∙ ap (λ x. gcons c x) also)
    | inr other ↦ inr (λ e. other (ap (λ x. second_of x b) e))
  ]
  | inr other ↦ inr (λ e. other (ap (λ x. first_of x a) e))
]

pub same_book : (x y : Book) → Decided x y
same_book x y = elim (same_tree (book_code.code x) (book_code.code y)) [
  | inl is ↦ inl (book_code.inj x y is)
  | inr other ↦ inr (λ e. other (ap book_code.code e))
]
