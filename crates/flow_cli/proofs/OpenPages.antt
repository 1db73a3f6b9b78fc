-- Open runs, so many after so many: behind them come those from the number of the next one on.
use Rattle.std.proofs.Common.{◌≡◌, ℕ, zero, suc, ◌+◌, ◌≤◌, ◌<◌, List, [], ◌∷◌, drop, Bool, true, false, refl, sym, ap, ◌∙◌, arith, Option, Some, None, ⊎_elim}
use Rattle.std.specs.Prelude.{nat_le, ◌&&◌, if◌then◌else◌}
use Rattle.std.proofs.lemmas.Bool.Decides.{leb_tells}
use Rattle.flow_base.specs.declared.book.Run.{Run}
use Rattle.flow_model.specs.Configuration.{is_open}
use Rattle.flow_model.specs.Open.{state_of}
use Rattle.flow_model.specs.Book.{open_from}
use Rattle.flow_model.specs.Apply.{first_number}

at_most : (m n : ℕ) → m ≤ n → nat_le m n ≡ true
at_most m n h = ⊎_elim (λ (t : (nat_le m n ≡ true) × (m ≤ n)). t.0) (λ (t : (nat_le m n ≡ false) × (n < m)). absurd (omega (arith, h, t.1))) (leb_tells m n)

is_more : (m n : ℕ) → n < m → nat_le m n ≡ false
is_more m n h = ⊎_elim (λ (t : (nat_le m n ≡ true) × (m ≤ n)). absurd (omega (arith, h, t.1))) (λ (t : (nat_le m n ≡ false) × (n < m)). t.0) (leb_tells m n)

both_hold : (m n : ℕ) (w : Bool) → (nat_le m n && w) ≡ true → m ≤ n
both_hold m n w e =
    ⊎_elim (λ (t : (nat_le m n ≡ true) × (m ≤ n)). t.1) (λ (t : (nat_le m n ≡ false) × (n < m)). (let clash : false ≡ true = sym (ap (λ v. v && w) t.0) ∙ e in absurd (cc))) (leb_tells m n)

other_holds : (m n k : ℕ) (w : Bool) → (nat_le m n && w) ≡ true → k ≤ n → (nat_le k n && w) ≡ true
other_holds m n k w e h = ap (λ v. v && w) (at_most k n h ∙ sym (at_most m n (both_hold m n w e))) ∙ e

-- where both numbers are passed it is the same which of them a list is from
same_from : (to from n : ℕ) (rs : List Run) → to ≤ n → from ≤ n → open_from to n rs ≡ open_from from n rs
same_from to from n [] h k = refl
same_from to from n (r ∷ rs) h k =
    let test : nat_le to n ≡ nat_le from n = at_most to n h ∙ sym (at_most from n k) in
    let rest : open_from to (n + 1) rs ≡ open_from from (n + 1) rs = same_from to from (n + 1) rs (omega (arith, h)) (omega (arith, k)) in
    λ i. if test i && is_open (state_of r.history) then (n, r) ∷ rest i else rest i

abbrev number_or : ℕ → Option ℕ → ℕ
number_or n None = n
number_or n (Some m) = m

-- what is left behind the first so many open runs, and how far on the next one is
abbrev pub Behind : ℕ → ℕ → List Run → ℕ → ℕ → Type 0
Behind from n rs k next = (open_from next n rs ≡ drop k (open_from from n rs)) × ((from + k ≤ next) × (n + k ≤ next))

one_behind : (from n next k : ℕ) (r : Run) (here there : List (ℕ × Run)) (t v : Bool) → (t ≡ true → from ≤ n) → (n < next → v ≡ false) → (t ≡ true → next ≤ n → v ≡ true) → (next ≤ n + 1 → from ≤ n + 1 → there ≡ here)
    → ((j : ℕ) → first_number (drop j here) ≡ Some next → (there ≡ drop j here) × ((from + j ≤ next) × (n + 1 + j ≤ next)))
    → first_number (drop k (if t then (n, r) ∷ here else here)) ≡ Some next
    → ((if v then (n, r) ∷ there else there) ≡ drop k (if t then (n, r) ∷ here else here)) × ((from + k ≤ next) × (n + k ≤ next))
one_behind from n next zero r here there true v passed late both same more e =
    let is : n ≡ next = ap (number_or 0) e in
    let from_n : from ≤ n = passed refl in
    let test : v ≡ true = both refl (omega (arith, is)) in
    let rest : there ≡ here = same (omega (arith, is)) (omega (arith, from_n)) in
    ((λ i. if test i then (n, r) ∷ rest i else rest i), (omega (arith, is, from_n), omega (arith, is)))
one_behind from n next (suc k) r here there true v passed late both same more e =
    let h = more k e in
    let from_n : from ≤ n = passed refl in
    let far : n + 1 + k ≤ next = h.1.1 in
    let test : v ≡ false = late (omega (arith, far)) in
    ((λ i. if test i then (n, r) ∷ there else there) ∙ h.0, (omega (arith, far, from_n), omega (arith, far)))
one_behind from n next k r here there false v passed late both same more e =
    let h = more k e in
    let far : n + 1 + k ≤ next = h.1.1 in
    let test : v ≡ false = late (omega (arith, far)) in
    ((λ i. if test i then (n, r) ∷ there else there) ∙ h.0, (h.1.0, omega (arith, far)))

late_test : (next n : ℕ) (w : Bool) → n < next → (nat_le next n && w) ≡ false
late_test next n w h = ap (λ v. v && w) (is_more next n h)

pub behind : (from n : ℕ) (rs : List Run) (k next : ℕ) → first_number (drop k (open_from from n rs)) ≡ Some next → Behind from n rs k next
behind from n [] zero next e = absurd (cc)
behind from n [] (suc k) next e = absurd (cc)
behind from n (r ∷ rs) k next e =
    let w = is_open (state_of r.history) in
    one_behind from n next k r (open_from from (n + 1) rs) (open_from next (n + 1) rs) (nat_le from n && w) (nat_le next n && w)
    (both_hold from n w) (late_test next n w) (other_holds from n next w) (λ h k. same_from next from (n + 1) rs h k)
    (λ j here. behind from (n + 1) rs j next here) e

-- none is left
pub none_behind : (ps : List (ℕ × Run)) → first_number ps ≡ None → ps ≡ []
none_behind [] e = refl
none_behind (p ∷ ps) e = absurd (cc)
