-- Runs that are read one after another, up to the last.
use Rattle.std.proofs.Common.{◌≡◌, ◌+◌, ℕ, zero, suc, List, [], ◌∷◌, ◌++◌, take, drop, Some, None, slice_get, refl, sym, ap, subst, ◌∙◌, arith}
use Rattle.flow_base.specs.declared.book.Run.{Run}
use Rattle.flow_model.specs.Book.{Book, nth}
use Rattle.flow_model.proofs.Logs.{nth_at}
use Rattle.flow_maps.specs.declared.maps.Maps.{Maps}
use Rattle.flow_maps.specs.Serving.{Serves}
use Rattle.flow_rows.proofs.WholeChanges.{some_is, nothing_is}

one_more : {A : Type 0} (xs : List A) (i : ℕ) (x : A) → slice_get xs i ≡ Some x → take i xs ++ x ∷ [] ≡ take (suc i) xs
one_more [] i x h = absurd (nothing_is x h)
one_more (y ∷ ys) zero x h = ap (λ z. z ∷ []) (sym (some_is y x h))
one_more (y ∷ ys) (suc i) x h = ap (λ zs. y ∷ zs) (one_more ys i x h)

all_taken : {A : Type 0} (xs : List A) (i : ℕ) → slice_get xs i ≡ None → take i xs ≡ xs
all_taken [] zero h = refl
all_taken [] (suc i) h = refl
all_taken (y ∷ ys) zero h = absurd (nothing_is y (sym h))
all_taken (y ∷ ys) (suc i) h = ap (λ zs. y ∷ zs) (all_taken ys i h)

-- the first runs of a book
abbrev pub first_of : Book → ℕ → Book
first_of b n = record { texts = b.texts; runs = take n b.runs }

-- What is known of the first runs is known of one more.
pub serves_more : (m : Maps) (b b' : Book) (i : ℕ) (r : Run) → b' ≡ b → nth b'.runs (i + 1) ≡ Some r → Serves m (record { texts = b.texts; runs = take i b.runs ++ r ∷ [] }) → Serves m (first_of b (i + 1))
serves_more m b b' i r same there h =
    let next : suc i ≡ i + 1 = omega arith in
    subst (λ rs. Serves m (record { texts = b.texts; runs = rs })) (one_more b.runs i r (sym (nth_at b.runs (i + 1) i (omega arith)) ∙ ap (λ (k : Book). nth k.runs (i + 1)) (sym same) ∙ there) ∙ ap (λ n. take n b.runs) next) h

-- And behind the last of them nothing is left.
pub serves_all : (m : Maps) (b b' : Book) (i : ℕ) → b' ≡ b → nth b'.runs (i + 1) ≡ None → Serves m (first_of b i) → Serves m b
serves_all m b b' i same none h =
    subst (λ rs. Serves m (record { texts = b.texts; runs = rs })) (all_taken b.runs i (sym (nth_at b.runs (i + 1) i (omega arith)) ∙ ap (λ (k : Book). nth k.runs (i + 1)) (sym same) ∙ none)) h

cut_at : {A : Type 0} (xs : List A) (i : ℕ) (x : A) → slice_get xs i ≡ Some x → drop i xs ≡ x ∷ drop (suc i) xs
cut_at [] i x h = absurd (nothing_is x h)
cut_at (y ∷ ys) zero x h = ap (λ z. z ∷ ys) (some_is y x h)
cut_at (y ∷ ys) (suc i) x h = cut_at ys i x h

none_behind : {A : Type 0} (xs : List A) (i : ℕ) → slice_get xs i ≡ None → drop i xs ≡ []
none_behind [] zero h = refl
none_behind [] (suc i) h = refl
none_behind (y ∷ ys) zero h = absurd (nothing_is y (sym h))
none_behind (y ∷ ys) (suc i) h = none_behind ys i h

module _ {G X : Type 0} (f : G → ℕ → List Run → X) (all : X) (b b' : Book) (i : ℕ) where
  -- What is gathered from one run more comes to the same with those that are left.
  pub gathers_more : (old new : G) (r : Run) → b' ≡ b → nth b'.runs (i + 1) ≡ Some r → ((rs : List Run) → f new (i + 1 + 1) rs ≡ f old (i + 1) (r ∷ rs)) → f old (i + 1) (drop i b.runs) ≡ all
      → f new (i + 1 + 1) (drop (i + 1) b.runs) ≡ all
  gathers_more old new r same there more was =
      let next : suc i ≡ i + 1 = omega arith in
      more (drop (i + 1) b.runs)
      ∙ ap (f old (i + 1)) (sym (cut_at b.runs i r (sym (nth_at b.runs (i + 1) i (omega arith)) ∙ ap (λ (k : Book). nth k.runs (i + 1)) (sym same) ∙ there) ∙ ap (λ n. r ∷ drop n b.runs) next))
      ∙ was

  -- And behind the last of them that is all.
  pub gathers_all : (g : G) (v : X) → b' ≡ b → nth b'.runs (i + 1) ≡ None → ((n : ℕ) → v ≡ f g n []) → f g (i + 1) (drop i b.runs) ≡ all → v ≡ all
  gathers_all g v same none ends was =
      ends (i + 1) ∙ ap (f g (i + 1)) (sym (none_behind b.runs i (sym (nth_at b.runs (i + 1) i (omega arith)) ∙ ap (λ (k : Book). nth k.runs (i + 1)) (sym same) ∙ none))) ∙ was
