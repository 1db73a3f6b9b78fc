-- The text of a run among the rows of texts.
use Rattle.std.proofs.Common.{◌≡◌, ℕ, zero, suc, ◌-◌, List, [], ◌∷◌, map, Option, Some, None, true, false, refl, ap, ◌∙◌, sym}
use Rattle.std.specs.Prelude.{if◌then◌else◌, nat_eq, option_map, slice_get}
use Rattle.flow_model.specs.Book.{nth}
use Rattle.flow_rows.specs.Told.{body_of}
use Rattle.flow_rows.specs.declared.rows.TextRow.{TextRow}

module _ {A B : Type 0} (f : A → B) where
  get_of : (xs : List A) (i : ℕ) → slice_get (map f xs) i ≡ option_map f (slice_get xs i)
  get_of [] i = refl
  get_of (x ∷ xs) zero = refl
  get_of (x ∷ xs) (suc i) = get_of xs i

  nth_of : (xs : List A) (n : ℕ) → nth (map f xs) n ≡ option_map f (nth xs n)
  nth_of xs n =
      elim (nat_eq n 0) as (λ b. (if b then None else slice_get (map f xs) (n - 1)) ≡ option_map f (if b then None else slice_get xs (n - 1))) [
        | true ↦ refl
        | false ↦ get_of xs (n - 1)
      ]

pub body_there : (rows : List TextRow) (m n : ℕ) (row : TextRow) → m ≡ n → nth rows m ≡ Some row → nth (map body_of rows) n ≡ Some row.body
body_there rows m n row same there = nth_of body_of rows n ∙ ap (λ k. option_map body_of (nth rows k)) (sym same) ∙ ap (option_map body_of) there

pub body_missing : (rows : List TextRow) (m n : ℕ) → m ≡ n → nth rows m ≡ None → nth (map body_of rows) n ≡ None
body_missing rows m n same none = nth_of body_of rows n ∙ ap (λ k. option_map body_of (nth rows k)) (sym same) ∙ ap (option_map body_of) none
