-- The runs of a book by their numbers, where one of them changes, comes or goes.
use Rattle.std.specs.Prelude.{◌≡◌, ◌-◌, ◌+◌, ◌∷◌, ◌++◌}
use Rattle.flow_maps.proofs.Names.{ℕ, zero, suc, Bool, true, false, cond, List, [], length, Option, Some, None, slice_get, slice_set, refl, sym, ap, subst, ◌∙◌, true≢false, arith, Run, nth, nth_at, is_run, replaced, of_run}
use Rattle.flow_maps.proofs.Slots.{run_is, run_itself, not_true}

pub none_is : {A : Type 0} (x : A) → None ≡ Some x → ⊥
none_is x h = let same = h in cc

pub some_is : {A : Type 0} (x y : A) → Some x ≡ Some y → x ≡ y
some_is x y h = let same = h in cc

---- One value is another

-- what is made of it
pub of_at : {A B : Type 0} (g : A → B) (run : ℕ) (x : A) (f : ℕ → A) (n : ℕ) → g (replaced run x f n) ≡ replaced run (g x) (λ k. g (f k)) n
of_at g run x f n = by (is_run run n)
  where
    by : (v : Bool) → g (cond v x (f n)) ≡ cond v (g x) (g (f n))
    by true = refl
    by false = refl

pub here_at : {A : Type 0} (run : ℕ) (x : A) (f : ℕ → A) → replaced run x f run ≡ x
here_at run x f = ap (λ v. cond v x (f run)) (run_itself run)

-- it is what it was
pub same_at : {A : Type 0} (run : ℕ) (x : A) (f : ℕ → A) → f run ≡ x → (n : ℕ) → replaced run x f n ≡ f n
same_at run x f is n = by (is_run run n) refl
  where
    by : (v : Bool) → is_run run n ≡ v → cond v x (f n) ≡ f n
    by true own = sym is ∙ ap f (run_is run n own)
    by false other = refl

pub twice_at : {A : Type 0} (run : ℕ) (x y : A) (f : ℕ → A) (n : ℕ) → replaced run x (replaced run y f) n ≡ replaced run x f n
twice_at run x y f n = by (is_run run n)
  where
    by : (v : Bool) → cond v x (cond v y (f n)) ≡ cond v x (f n)
    by true = refl
    by false = refl

-- nothing is made of it that wasn't
pub same_view : {A B : Type 0} (g : A → B) (f : ℕ → A) (run : ℕ) (x : A) → g (f run) ≡ g x → (n : ℕ) → g (f n) ≡ g (replaced run x f n)
same_view g f run x is n = sym (of_at g run x f n ∙ same_at run (g x) (λ k. g (f k)) is n)

---- Lists

own_set : {A : Type 0} (rs : List A) (i : ℕ) (x y : A) → slice_get rs i ≡ Some x → slice_get (slice_set rs i y) i ≡ Some y
own_set [] i x y h = absurd (none_is x h)
own_set (r ∷ rs) zero x y h = refl
own_set (r ∷ rs) (suc i) x y h = own_set rs i x y h

other_set : {A : Type 0} (rs : List A) (i j : ℕ) (y : A) → (i ≡ j → ⊥) → slice_get (slice_set rs i y) j ≡ slice_get rs j
other_set [] i j y apart = refl
other_set (r ∷ rs) zero zero y apart = absurd (apart refl)
other_set (r ∷ rs) zero (suc j) y apart = refl
other_set (r ∷ rs) (suc i) zero y apart = refl
other_set (r ∷ rs) (suc i) (suc j) y apart = other_set rs i j y (λ e. apart (ap suc e))

own_more : {A : Type 0} (rs : List A) (r : A) → slice_get (rs ++ r ∷ []) (length rs) ≡ Some r
own_more [] r = refl
own_more (x ∷ rs) r = own_more rs r

other_more : {A : Type 0} (rs : List A) (r : A) (j : ℕ) → (length rs ≡ j → ⊥) → slice_get (rs ++ r ∷ []) j ≡ slice_get rs j
other_more [] r zero apart = absurd (apart refl)
other_more [] r (suc j) apart = refl
other_more (x ∷ rs) r zero apart = refl
other_more (x ∷ rs) r (suc j) apart = other_more rs r j (λ e. apart (ap suc e))

past : {A : Type 0} (rs : List A) → slice_get rs (length rs) ≡ None
past [] = refl
past (r ∷ rs) = past rs

never_zero : (k : ℕ) → is_run (suc k) zero ≡ false
never_zero k = not_true (is_run (suc k) zero) (λ own. absurd (let e = run_is (suc k) zero own in omega (arith, e)))

apart_by : (k j : ℕ) → is_run (suc k) (suc j) ≡ false → k ≡ j → ⊥
apart_by k j other same = true≢false (sym (subst (λ i. is_run (suc k) (suc i) ≡ true) same (run_itself (suc k))) ∙ other)

same_by : (k j : ℕ) → is_run (suc k) (suc j) ≡ true → k ≡ j
same_by k j own = let e = run_is (suc k) (suc j) own in omega (arith, e)

-- lists that are the same but for one
at_place : {A : Type 0} (rs ss : List A) (k : ℕ) (y : A) → slice_get ss k ≡ Some y → ((j : ℕ) → (k ≡ j → ⊥) → slice_get ss j ≡ slice_get rs j) → (q : ℕ) → nth ss q ≡ replaced (suc k) (Some y) (λ n. nth rs n) q
at_place rs ss k y here others zero = sym (ap (λ v. cond v (Some y) (nth rs zero)) (never_zero k))
at_place rs ss k y here others (suc j) = by (is_run (suc k) (suc j)) refl
  where
    by : (v : Bool) → is_run (suc k) (suc j) ≡ v → nth ss (suc j) ≡ cond v (Some y) (nth rs (suc j))
    by true own = nth_at ss (suc j) j refl ∙ ap (slice_get ss) (sym (same_by k j own)) ∙ here
    by false other = nth_at ss (suc j) j refl ∙ others j (apart_by k j other) ∙ sym (nth_at rs (suc j) j refl)

-- one is another
pub set_at : {A : Type 0} (rs : List A) (n : ℕ) (x y : A) → nth rs n ≡ Some x → (q : ℕ) → nth (slice_set rs (n - 1) y) q ≡ replaced n (Some y) (λ k. nth rs k) q
set_at rs zero x y there q = absurd (none_is x there)
set_at rs (suc k) x y there q =
    subst (λ i. nth (slice_set rs i y) q ≡ replaced (suc k) (Some y) (λ n. nth rs n) q) (let e : k ≡ suc k - 1 = omega arith in e)
    (at_place rs (slice_set rs k y) k y (own_set rs k x y (sym (nth_at rs (suc k) k refl) ∙ there)) (λ j apart. other_set rs k j y apart) q)

-- one more
pub more_at : {A : Type 0} (rs : List A) (r : A) (n : ℕ) → n ≡ length rs + 1 → (q : ℕ) → nth (rs ++ r ∷ []) q ≡ replaced n (Some r) (λ k. nth rs k) q
more_at rs r n at q =
    at_place rs (rs ++ r ∷ []) (length rs) r (own_more rs r) (λ j apart. other_more rs r j apart) q
    ∙ ap (λ m. replaced m (Some r) (λ k. nth rs k) q) (let e : suc (length rs) ≡ n = omega (arith, at) in e)

pub next_free : {A : Type 0} (rs : List A) (n : ℕ) → n ≡ length rs + 1 → nth rs n ≡ None
next_free rs n at = nth_at rs n (length rs) (let e : n ≡ suc (length rs) = omega (arith, at) in e) ∙ past rs

-- and one less
pub less_at : {A : Type 0} (rs : List A) (r : A) (n : ℕ) → n ≡ length rs + 1 → (q : ℕ) → nth rs q ≡ replaced n None (λ k. nth (rs ++ r ∷ []) k) q
less_at rs r n at q = by (is_run n q) refl
  where
    by : (v : Bool) → is_run n q ≡ v → nth rs q ≡ cond v None (nth (rs ++ r ∷ []) q)
    by true own = subst (λ k. nth rs k ≡ None) (run_is n q own) (next_free rs n at)
    by false other = sym (more_at rs r n at q ∙ ap (λ v. cond v (Some r) (nth rs q)) other)

pub longer : {A : Type 0} (rs : List A) (r : A) → length (rs ++ r ∷ []) ≡ length rs + 1
longer [] r = refl
longer (x ∷ rs) r = let e = longer rs r in omega (arith, e)

pub as_long : {A : Type 0} (rs : List A) (i : ℕ) (r : A) → length (slice_set rs i r) ≡ length rs
as_long [] i r = refl
as_long (x ∷ rs) zero r = refl
as_long (x ∷ rs) (suc i) r = ap suc (as_long rs i r)

---- What runs have

module _ {A : Type 0} (h : Run → List A) where
  pub at_set : (rs : List Run) (n : ℕ) (x y : Run) → nth rs n ≡ Some x → (q : ℕ) → of_run h (nth (slice_set rs (n - 1) y) q) ≡ cond (is_run n q) (h y) (of_run h (nth rs q))
  at_set rs n x y there q = ap (of_run h) (set_at rs n x y there q) ∙ of_at (of_run h) n (Some y) (λ k. nth rs k) q

  pub at_more : (rs : List Run) (r : Run) (q : ℕ) → of_run h (nth (rs ++ r ∷ []) q) ≡ cond (is_run (suc (length rs)) q) (h r) (of_run h (nth rs q))
  at_more rs r q = ap (of_run h) (more_at rs r (suc (length rs)) (omega arith) q) ∙ of_at (of_run h) (suc (length rs)) (Some r) (λ k. nth rs k) q
