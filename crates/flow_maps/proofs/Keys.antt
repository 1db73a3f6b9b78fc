-- What one name more or less makes of an index, and that what is found by it is the first.
use Rattle.std.specs.Prelude.{◌≡◌, ◌+◌, if◌then◌else◌, ◌∷◌}
use Rattle.flow_maps.proofs.Names.{ℕ, zero, suc, Bool, true, false, cond, List, [], Option, Some, None, is_some, slice_get, bytes_eq, refl, sym, ap, subst, ◌∙◌, true≢false, arith, update, bytes_eq-Decides, Bytes, Run, nth, first_from, nth_at, at_name, Index, is_key, name_of, IsFound, IsIndex, is_run, replaced}
use Rattle.flow_maps.proofs.Planning.{here_at}
use Rattle.flow_maps.proofs.Slots.{run_is, run_itself, not_true}

no_value : (o : Option ℕ) → is_some o ≡ false → o ≡ None
no_value None h = refl
no_value (Some n) h = absurd (true≢false h)

-- one run alone has it
only_one : (o : Option ℕ) (q : Bytes) (f : ℕ → Option Bytes) (a b : ℕ) → IsFound o q f → is_key q (f a) ≡ true → is_key q (f b) ≡ true → a ≡ b
only_one None q f a b h one two = absurd (true≢false (sym one ∙ h a))
only_one (Some m) q f a b h one two = h.1 a one ∙ sym (h.1 b two)

module _ (q : Bytes) (f : ℕ → Option Bytes) (run : ℕ) (x : Option Bytes) where
  -- another name comes or goes
  other_at : (o : Option ℕ) → is_key q x ≡ false → is_key q (f run) ≡ false → IsFound o q f → IsFound o q (replaced run x f)
  other_at None comes goes h = λ n. by n (is_run run n)
    where
      by : (n : ℕ) (v : Bool) → is_key q (cond v x (f n)) ≡ false
      by n true = comes
      by n false = h n
  other_at (Some m) comes goes h = (here (is_run run m) refl, λ n. there n (is_run run n))
    where
      here : (v : Bool) → is_run run m ≡ v → is_key q (cond v x (f m)) ≡ true
      here true own = absurd (true≢false (sym h.0 ∙ ap (λ n. is_key q (f n)) (sym (run_is run m own)) ∙ goes))
      here false other = h.0

      there : (n : ℕ) (v : Bool) → is_key q (cond v x (f n)) ≡ true → n ≡ m
      there n true has = absurd (true≢false (sym has ∙ comes))
      there n false has = h.1 n has

-- a run that had no name has this one, which none had
own_put : (q : Bytes) (f : ℕ → Option Bytes) (run number : ℕ) (k : Bytes) → number ≡ run → bytes_eq k q ≡ true → IsFound None q f → IsFound (Some number) q (replaced run (Some k) f)
own_put q f run number k is own nothing = (ap (λ n. is_key q (replaced run (Some k) f n)) is ∙ ap (is_key q) (here_at run (Some k) f) ∙ own, λ n. there n (is_run run n) refl)
  where
    there : (n : ℕ) (v : Bool) → is_run run n ≡ v → is_key q (cond v (Some k) (f n)) ≡ true → n ≡ number
    there n true here has = sym (is ∙ run_is run n here)
    there n false away has = absurd (true≢false (sym has ∙ nothing n))

-- it has it no more
own_out : (o : Option ℕ) (q : Bytes) (f : ℕ → Option Bytes) (run : ℕ) (k : Bytes) → f run ≡ Some k → bytes_eq k q ≡ true → IsFound o q f → IsFound None q (replaced run None f)
own_out o q f run k is own h n = there (is_run run n) refl
  where
    there : (v : Bool) → is_run run n ≡ v → is_key q (cond v None (f n)) ≡ false
    there true here = refl
    there false away = not_true (is_key q (f n)) (λ has. true≢false (sym (subst (λ i. is_run run i ≡ true) (only_one o q f run n h (ap (is_key q) is ∙ own) has) (run_itself run)) ∙ away))

module _ (m m' : Index) (k : Bytes) (f : ℕ → Option Bytes) (run : ℕ) (h : IsIndex m f) where
  pub name_put : (number : ℕ) → f run ≡ None → is_some (at_name m.map k) ≡ false → number ≡ run → ((q : Bytes) → at_name m'.map q ≡ update bytes_eq (at_name m.map) k (Some number) q) → IsIndex m' (replaced run (Some k) f)
  name_put number none free is updates q = subst (λ o. IsFound o q (replaced run (Some k) f)) (sym (updates q)) (go (bytes_eq k q) refl)
    where
      go : (v : Bool) → bytes_eq k q ≡ v → IsFound (cond v (Some number) (at_name m.map q)) q (replaced run (Some k) f)
      go true own = own_put q f run number k is own (subst (λ o. IsFound o q f) (subst (λ x. at_name m.map x ≡ None) ((bytes_eq-Decides k q).0 own) (no_value (at_name m.map k) free)) (h q))
      go false other = other_at q f run (Some k) (at_name m.map q) other (ap (is_key q) none) (h q)

  pub name_out : f run ≡ Some k → ((q : Bytes) → at_name m'.map q ≡ update bytes_eq (at_name m.map) k None q) → IsIndex m' (replaced run None f)
  name_out is updates q = subst (λ o. IsFound o q (replaced run None f)) (sym (updates q)) (go (bytes_eq k q) refl)
    where
      go : (v : Bool) → bytes_eq k q ≡ v → IsFound (cond v None (at_name m.map q)) q (replaced run None f)
      go true own = own_out (at_name m.map q) q f run k is own (h q)
      go false other = other_at q f run None (at_name m.map q) refl (ap (is_key q) is ∙ other) (h q)

---- What is found

module _ (key : Run → Option Bytes) (p : Run → Bool) (q : Bytes) (same : (r : Run) → is_key q (key r) ≡ p r) where
  abbrev has : Option Run → Bool
  has None = false
  has (Some r) = p r

  has_key : (o : Option Run) → is_key q (name_of key o) ≡ has o
  has_key None = refl
  has_key (Some r) = same r

  -- the same in a list whose first has number n
  abbrev IsFoundFrom : Option ℕ → ℕ → List Run → Type 0
  IsFoundFrom None n rs = (k : ℕ) → has (slice_get rs k) ≡ false
  IsFoundFrom (Some m) n rs = (j : ℕ) × (m ≡ n + j) × (has (slice_get rs j) ≡ true) × ((k : ℕ) → has (slice_get rs k) ≡ true → k ≡ j)

  found_from : (rs : List Run) (n : ℕ) (o : Option ℕ) → IsFoundFrom o n rs → o ≡ first_from p n rs
  found_from [] n None h = refl
  found_from [] n (Some m) (j, at, there, only) = absurd (true≢false (sym there))
  found_from (r ∷ rs) n None h = found_from rs (n + 1) None (λ k. h (suc k)) ∙ sym (ap (λ v. if v then Some n else first_from p (n + 1) rs) (h zero))
  found_from (r ∷ rs) n (Some m) (zero, at, there, only) = ap Some (let e : m ≡ n = omega (arith, at) in e) ∙ sym (ap (λ v. if v then Some n else first_from p (n + 1) rs) there)
  found_from (r ∷ rs) n (Some m) (suc j, at, there, only) =
      found_from rs (n + 1) (Some m) (j, omega (arith, at), there, λ k later. let e = only (suc k) later in omega (arith, e))
      ∙ sym (ap (λ v. if v then Some n else first_from p (n + 1) rs) (not_true (p r) (λ first. let e = only zero first in absurd (omega (arith, e)))))

  pub first_found : (o : Option ℕ) (rs : List Run) → IsFound o q (λ n. name_of key (nth rs n)) → o ≡ first_from p 1 rs
  first_found o rs h = found_from rs 1 o (by o h)
    where
      at : (k : ℕ) → has (slice_get rs k) ≡ is_key q (name_of key (nth rs (suc k)))
      at k = sym (ap (λ o. is_key q (name_of key o)) (nth_at rs (suc k) k refl) ∙ has_key (slice_get rs k))

      by : (o : Option ℕ) → IsFound o q (λ n. name_of key (nth rs n)) → IsFoundFrom o 1 rs
      by None h = λ k. at k ∙ h (suc k)
      by (Some zero) h = absurd (true≢false (sym h.0))
      by (Some (suc j)) h = (j, omega arith, at j ∙ h.0, λ k there. let e = h.1 (suc k) (sym (at k) ∙ there) in omega (arith, e))
