-- What may be attempted by a moment, listed by the runs that have something by then.
use Rattle.std.specs.Prelude.{◌≡◌, ◌≤◌, ◌<◌, ◌+◌, ◌-◌, ◌||◌, ◌∷◌, ◌++◌, ◌⊎◌, ◌&&◌}
use Rattle.flow_maps.proofs.Names.{ℕ, zero, suc, Bool, true, false, cond, List, [], filter, length, slice_get, refl, sym, ap, ◌∙◌, inl, inr, true≢false, arith, subst, Option, Some, None, nat_le, AllByRecursion, list_any, nat_cmp, is_gt, is_le, ordering_then, BTreeSet, contains, range_contains, nat_cmp_is, Excluded, Included, Less, Equal, Greater, cases_Bool, leb-true, leb-false, ranked, Run, OpenActivity, Book, nth, Has, nth_at, is_open_run, tasks_of, tasks_at, Slot, slot_cmp, is_slot, slot, date_of_task, HasSlots, part_within, is_run, Waiting, is_by, is_within, ready_of, ready_within, waiting, waiting_in, waiting_from, of_run}
use Rattle.std.specs.List.Sorted.{IsStrictlySortedBy}
use Rattle.flow_maps.proofs.Slots.{run_is, run_itself, not_true, slot_is, one_has, later}

-- each number is above those before it, and none is below the first one
abbrev Rises : ℕ → List ℕ → Type 0
Rises n [] = Unit {0}
Rises n (m ∷ ms) = (n ≤ m) × Rises (suc m) ms

abbrev among : List ℕ → ℕ → Bool
among ms n = list_any (is_run n) ms

none_below : (n m : ℕ) (ms : List ℕ) → Rises m ms → n < m → among ms n ≡ false
none_below n m [] rises less = refl
none_below n m (k ∷ ms) rises less =
    ap (λ v. v || among ms n) (not_true (is_run n k) (λ same. let is = run_is n k same in absurd (omega (arith, less, is, rises)))) ∙ none_below n (suc k) ms rises.1 (omega (arith, less, rises))

rises_from : (n m : ℕ) (ms : List ℕ) → n ≤ m → Rises m ms → Rises n ms
rises_from n m [] less rises = tt
rises_from n m (k ∷ ms) less rises = (omega (arith, less, rises), rises.1)

-- a number that isn't the first one is among the others
others : (n m : ℕ) (ms : List ℕ) → m < n → among ms n ≡ false → among (m ∷ ms) n ≡ false
others n m ms less none = ap (λ v. v || among ms n) (not_true (is_run n m) (λ same. let is = run_is n m same in absurd (omega (arith, less, is)))) ∙ none

others_among : (n m : ℕ) (ms : List ℕ) → m < n → among (m ∷ ms) n ≡ among ms n
others_among n m ms less = ap (λ v. v || among ms n) (not_true (is_run n m) (λ same. let is = run_is n m same in absurd (omega (arith, less, is))))

pub filter_on : (p : Waiting → Bool) (xs ys : List Waiting) → filter p (xs ++ ys) ≡ filter p xs ++ filter p ys
filter_on p [] ys = refl
filter_on p (x ∷ xs) ys = by (p x) (filter_on p xs ys)
  where
    by : (v : Bool) → filter p (xs ++ ys) ≡ filter p xs ++ filter p ys → cond v (x ∷ filter p (xs ++ ys)) (filter p (xs ++ ys)) ≡ cond v (x ∷ filter p xs) (filter p xs) ++ filter p ys
    by true is = ap (λ zs. x ∷ zs) is
    by false is = is

shift : (xs ys : List Waiting) (w : Waiting) → (xs ++ w ∷ []) ++ ys ≡ xs ++ w ∷ ys
shift [] ys w = refl
shift (x ∷ xs) ys w = ap (λ zs. x ∷ zs) (shift xs ys w)

-- one more of a run's activities, which is listed if it is ready
pub one_more : (p : Waiting → Bool) (n : ℕ) (xs ys : List Waiting) (t : OpenActivity) (ts ss : List OpenActivity) (all : List Waiting) → ts ≡ t ∷ ss → ys ≡ cond (p (n, t)) (xs ++ (n, t) ∷ []) xs
    → xs ++ filter p (waiting_in n ts) ≡ all → ys ++ filter p (waiting_in n ss) ≡ all
one_more p n xs ys t ts ss all first more was = ap (λ zs. zs ++ rest) more ∙ by (p (n, t)) ∙ sym (ap (λ us. xs ++ filter p (waiting_in n us)) first) ∙ was
  where
    rest : List Waiting
    rest = filter p (waiting_in n ss)

    by : (v : Bool) → cond v (xs ++ (n, t) ∷ []) xs ++ rest ≡ xs ++ cond v ((n, t) ∷ rest) rest
    by true = shift xs rest (n, t)
    by false = refl

module _ (p : Waiting → Bool) (g : ℕ → List OpenActivity) where
  -- what a run of a number has that is listed
  abbrev own : ℕ → List OpenActivity → List Waiting
  own n ts = filter p (waiting_in n ts)

  -- runs from a number on that aren't listed have nothing of it
  abbrev AreRest : ℕ → List ℕ → Type 0
  AreRest n ms = (k : ℕ) → n ≤ k → among ms k ≡ false → own k (g k) ≡ []

  rest_on : (n m : ℕ) (ms : List ℕ) → m < n → AreRest m (m ∷ ms) → AreRest n ms
  rest_on n m ms less rest k from none = rest k (omega (arith, less, from)) (others k m ms (omega (arith, less, from)) none)

  rest_from : (n m : ℕ) (ms : List ℕ) → n ≤ m → AreRest n ms → AreRest m ms
  rest_from n m ms less rest k from none = rest k (omega (arith, less, from)) none

  none_ready : (n : ℕ) (ms : List ℕ) → Rises n ms → ((k : ℕ) → n ≤ k → g k ≡ []) → ready_of p g ms ≡ []
  none_ready n [] rises none = refl
  none_ready n (m ∷ ms) rises none =
      ap (λ ts. own m ts ++ ready_of p g ms) (none m rises.0) ∙ none_ready (suc m) ms rises.1 (λ k from. none k (omega (arith, from, rises)))

  all_ready : (rs : List Run) (n : ℕ) (ms : List ℕ) → Rises n ms → ((k : ℕ) → g (n + k) ≡ of_run tasks_of (slice_get rs k)) → AreRest n ms → ready_of p g ms ≡ filter p (waiting_from n rs)
  all_ready [] n ms rises are rest = none_ready n ms rises (λ k from. ap g (let e : k ≡ n + (k - n) = omega (arith, from) in e) ∙ are (k - n))
  all_ready (r ∷ rs) n [] rises are rest =
      let here : own n r.tasks ≡ [] = ap (own n) (sym (are zero) ∙ ap g (omega arith)) ∙ rest n (omega arith) refl in
      all_ready rs (n + 1) [] tt (λ k. ap g (omega arith) ∙ are (suc k)) (rest_from n (n + 1) [] (omega arith) rest) ∙ ap (λ ws. ws ++ filter p (waiting_from (n + 1) rs)) (sym here)
      ∙ sym (filter_on p (waiting_in n r.tasks) (waiting_from (n + 1) rs))
  all_ready (r ∷ rs) n (m ∷ ms) rises are rest = elim (cases_Bool (nat_le m n)) [
    | inl low ↦
        let below = leb-true m n low in
        let same : m ≡ n = omega (arith, below, rises) in
        let tasks : g m ≡ r.tasks = ap g (omega (arith, same)) ∙ are zero in
        let next : n + 1 ≤ suc m = omega (arith, same) in
        ap (λ ts. own m ts ++ ready_of p g ms) tasks ∙ ap (λ k. own k r.tasks ++ ready_of p g ms) same
        ∙ ap (λ ws. own n r.tasks ++ ws) (all_ready rs (n + 1) ms (rises_from (n + 1) (suc m) ms next rises.1) (λ k. ap g (omega arith) ∙ are (suc k)) (rest_on (n + 1) m ms (omega (arith, same)) (rest_from n m (m ∷ ms) rises.0 rest)))
        ∙ sym (filter_on p (waiting_in n r.tasks) (waiting_from (n + 1) rs))
    | inr high ↦
        let less = leb-false m n high in
        let here : own n r.tasks ≡ [] = ap (own n) (sym (are zero) ∙ ap g (omega arith)) ∙ rest n (omega arith) (none_below n m (m ∷ ms) (omega arith, rises.1) less) in
        all_ready rs (n + 1) (m ∷ ms) (omega (arith, less), rises.1) (λ k. ap g (omega arith) ∙ are (suc k)) (rest_from n (n + 1) (m ∷ ms) (omega arith) rest)
        ∙ ap (λ ws. ws ++ filter p (waiting_from (n + 1) rs)) (sym here)
        ∙ sym (filter_on p (waiting_in n r.tasks) (waiting_from (n + 1) rs))
  ]

  -- Listed by runs in order, of which each has what the book has, it is all that the book has of it, where the others have nothing.
  all_listed : (b : Book) (ms : List ℕ) → Rises 0 ms → ((n : ℕ) → g n ≡ tasks_at b n) → AreRest 0 ms → ready_of p g ms ≡ filter p (waiting b)
  all_listed b ms rises are rest = go ms rises rest
    where
      from_one : (ms : List ℕ) → Rises 1 ms → AreRest 1 ms → ready_of p g ms ≡ filter p (waiting b)
      from_one ms rises rest = all_ready b.runs 1 ms rises (λ k. are (1 + k) ∙ ap (of_run tasks_of) (nth_at b.runs (1 + k) k (omega arith))) rest

      go : (ms : List ℕ) → Rises 0 ms → AreRest 0 ms → ready_of p g ms ≡ filter p (waiting b)
      go [] rises rest = from_one [] tt (rest_from 0 1 [] (omega arith) rest)
      go (m ∷ ms) rises rest = elim (cases_Bool (nat_le 1 m)) [
        | inl high ↦ from_one (m ∷ ms) (leb-true 1 m high, rises.1) (rest_from 0 1 (m ∷ ms) (omega arith) rest)
        | inr low ↦
            let zeroth : m ≡ 0 = let less = leb-false 1 m low in omega (arith, less) in
            ap (λ ts. own m ts ++ ready_of p g ms) (ap g zeroth ∙ are zero)
            ∙ from_one ms (rises_from 1 (suc m) ms (omega (arith, zeroth)) rises.1) (rest_on 1 m ms (omega (arith, zeroth)) (rest_from 0 m (m ∷ ms) (omega arith) rest))
      ]

---- How many there are

abbrev pub in_open : Option Run → Bool
in_open None = false
in_open (Some r) = is_open_run r

-- numbers that rise, and are those of the open runs from a number on, are as many as these
many_open : (rs : List Run) (n : ℕ) (ms : List ℕ) → Rises n ms → ((k : ℕ) → among ms (n + k) ≡ in_open (slice_get rs k)) → length ms ≡ length (filter is_open_run rs)
many_open [] n [] rises are = refl
many_open [] n (m ∷ ms) rises are =
    let at : n + (m - n) ≡ m = omega (arith, rises) in
    absurd (true≢false (sym (subst (λ k. among (m ∷ ms) k ≡ true) (sym at) (ap (λ v. v || among ms m) (run_itself m))) ∙ are (m - n)))
many_open (r ∷ rs) n [] rises are = many_open rs (n + 1) [] tt (λ k. are (suc k)) ∙ ap (λ v. length (cond v (r ∷ filter is_open_run rs) (filter is_open_run rs))) (are zero)
many_open (r ∷ rs) n (m ∷ ms) rises are = elim (cases_Bool (nat_le m n)) [
  | inl low ↦
      let below = leb-true m n low in
      let same : m ≡ n = omega (arith, below, rises) in
      let here : is_open_run r ≡ true = sym (are zero) ∙ ap (among (m ∷ ms)) (let e : n + zero ≡ m = omega (arith, same) in e) ∙ ap (λ v. v || among ms m) (run_itself m) in
      let rest = many_open rs (n + 1) ms (rises_from (n + 1) (suc m) ms (omega (arith, same)) rises.1) (λ k. sym (others_among (n + 1 + k) m ms (omega (arith, same))) ∙ ap (among (m ∷ ms)) (let e : n + 1 + k ≡ n + suc k = omega arith in e) ∙ are (suc k)) in
      ap suc rest ∙ ap (λ v. length (cond v (r ∷ filter is_open_run rs) (filter is_open_run rs))) (sym here)
  | inr high ↦
      let less = leb-false m n high in
      let none : is_open_run r ≡ false = sym (are zero) ∙ ap (among (m ∷ ms)) (let e : n + zero ≡ n = omega arith in e) ∙ none_below n m (m ∷ ms) (omega arith, rises.1) less in
      many_open rs (n + 1) (m ∷ ms) (omega (arith, less), rises.1) (λ k. ap (among (m ∷ ms)) (let e : n + 1 + k ≡ n + suc k = omega arith in e) ∙ are (suc k))
      ∙ ap (λ v. length (cond v (r ∷ filter is_open_run rs) (filter is_open_run rs))) (sym none)
]

---- Of a set

above_all : (n : ℕ) (ks : List ℕ) → AllByRecursion (λ k. nat_cmp n k ≡ Less) ks → AllByRecursion (λ k. suc n ≤ k) ks
above_all n [] all = tt
above_all n (k ∷ ks) all = (ranked n k Less (sym all.0), above_all n ks all.1)

none_lower : (ks : List ℕ) → AllByRecursion (λ k. 0 ≤ k) ks
none_lower [] = tt
none_lower (k ∷ ks) = (omega arith, none_lower ks)

sorted_rise : (n : ℕ) (ks : List ℕ) → AllByRecursion (λ k. n ≤ k) ks → IsStrictlySortedBy nat_cmp ks → Rises n ks
unfolding IsStrictlySortedBy
sorted_rise n [] all sorted = tt
sorted_rise n (k ∷ ks) all sorted = (all.0, sorted_rise (suc k) ks (above_all k ks sorted.0) sorted.1)

---- By the slots between two moments

-- a slot of a part has its run among those of the part
in_part : (ks : List Slot) (p : Slot → Bool) (q : Slot) → list_any (is_slot q) ks ≡ true → p q ≡ true → list_any (λ (s : Slot). is_run s.1 q.1) (filter p ks) ≡ true
in_part [] p q h is = absurd (true≢false (sym h))
in_part (k ∷ ks) p q h is = by (is_slot q k) refl (in_part ks p q) h
  where
    found : List Slot → Bool
    found ss = list_any (λ (s : Slot). is_run s.1 q.1) ss

    more : (v : Bool) → found (filter p ks) ≡ true → found (cond v (k ∷ filter p ks) (filter p ks)) ≡ true
    more true is = later (is_run k.1 q.1) (found (filter p ks)) is
    more false is = is

    by : (v : Bool) → is_slot q k ≡ v → (list_any (is_slot q) ks ≡ true → p q ≡ true → found (filter p ks) ≡ true) → (v || list_any (is_slot q) ks) ≡ true → found (filter p (k ∷ ks)) ≡ true
    by true same rest h =
        let e = slot_is q k same in
        ap (λ v. found (cond v (k ∷ filter p ks) (filter p ks))) (ap p (sym e) ∙ is) ∙ ap (λ v. v || found (filter p ks)) (ap (λ (s : Slot). is_run s.1 q.1) (sym e) ∙ run_itself q.1)
    by false same rest h = more (p k) (rest h is)

from_zeros : (n m : ℕ) → is_le (ordering_then (ordering_then Equal (nat_cmp 0 n)) (nat_cmp 0 m)) ≡ true
from_zeros n m = elim (n_is n) [ inl h ↦ rw (sym (nat_cmp_is 0 n Equal h)) (last m) | inr h ↦ rw (sym (nat_cmp_is 0 n Less h)) refl ]
  where
    n_is : (k : ℕ) → (0 ≡ k) ⊎ (0 < k)
    n_is zero = inl refl
    n_is (suc k) = inr (omega arith)

    last : (k : ℕ) → is_le (nat_cmp 0 k) ≡ true
    last k = elim (n_is k) [ inl h ↦ rw (sym (nat_cmp_is 0 k Equal h)) refl | inr h ↦ rw (sym (nat_cmp_is 0 k Less h)) refl ]

-- a slot no sooner than a moment
from_first : (first : ℕ) (q : Slot) → (first ≡ q.0) ⊎ (first < q.0) → is_le (slot_cmp (first, 0, 0) q) ≡ true
from_first first q (inl same) = rw (sym (nat_cmp_is first q.0 Equal same)) (from_zeros q.1 q.2)
from_first first q (inr less) = rw (sym (nat_cmp_is first q.0 Less less)) refl

same_or_less : (m n : ℕ) → m ≤ n → (m ≡ n) ⊎ (m < n)
same_or_less m n h = elim (cases_Bool (nat_le n m)) [
  | inl low ↦ let below = leb-true n m low in inl (omega (arith, h, below))
  | inr high ↦ inr (let less = leb-false n m high in omega (arith, less))
]

in_time : (first at : ℕ) (q : Slot) → first ≤ q.0 → q.0 ≤ at → range_contains slot_cmp (Included (first, 0, 0)) (Excluded (at + 1, 0, 0)) q ≡ true
in_time first at q low less = rw (from_first first q (same_or_less first q.0 low), sym (nat_cmp_is (at + 1) q.0 Greater (omega (arith, less)))) refl

-- what slots are looked at begins no later than it ends
pub is_forward : (first at : ℕ) → first ≤ at + 1 → is_gt (slot_cmp (first, 0, 0) (at + 1, 0, 0)) ≡ false
is_forward first at low = elim (same_or_less first (at + 1) low) [
  | inl same ↦ rw (sym (nat_cmp_is first (at + 1) Equal same)) refl
  | inr less ↦ rw (sym (nat_cmp_is first (at + 1) Less less)) refl
]

none_own : (p : Waiting → Bool) (n : ℕ) (ts : List OpenActivity) → ((t : OpenActivity) → Has ts t → p (n, t) ≡ false) → filter p (waiting_in n ts) ≡ []
none_own p n [] never = refl
none_own p n (t ∷ ts) never =
    ap (λ v. cond v ((n, t) ∷ filter p (waiting_in n ts)) (filter p (waiting_in n ts))) (never t (inl refl)) ∙ none_own p n ts (λ x has. never x (inr has))

both_are : (v w : Bool) → (v && w) ≡ true → (v ≡ true) × (w ≡ true)
both_are true w h = (refl, h)
both_are false w h = absurd (true≢false (sym h))

-- A run that no slot between the moments is of has nothing then.
none_by_slots : (s : BTreeSet Slot) (g : ℕ → List OpenActivity) (first since at n : ℕ) → first ≤ since → HasSlots date_of_task s g → list_any (λ (q : Slot). is_run q.1 n) (part_within first at s.keys) ≡ false
    → filter (is_within since at) (waiting_in n (g n)) ≡ []
none_by_slots s g first since at n low h none = none_own (is_within since at) n (g n) never
  where
    never : (t : OpenActivity) → Has (g n) t → is_within since at (n, t) ≡ false
    never t has = not_true (is_within since at (n, t)) (λ is.
        let q : Slot = slot date_of_task n t in
        let both = both_are (nat_le since t.ready) (is_by at (n, t)) is in
        let late = leb-true since t.ready both.0 in
        let there : contains slot_cmp s q ≡ true = h q ∙ one_has date_of_task n (g n) t has in
        true≢false (sym (in_part s.keys (range_contains slot_cmp (Included (first, 0, 0)) (Excluded (at + 1, 0, 0))) q there (in_time first at q (omega (arith, low, late)) (leb-true t.ready at both.1))) ∙ none))

-- what is listed of the runs that slots between the moments are of
pub listed_by : (s : BTreeSet Slot) (b : Book) (first since at : ℕ) (g : ℕ → List OpenActivity) (ms : List ℕ) → first ≤ since → HasSlots date_of_task s (tasks_at b) → ((n : ℕ) → g n ≡ tasks_at b n) → IsStrictlySortedBy nat_cmp ms
    → ((n : ℕ) → list_any (is_run n) ms ≡ list_any (λ (q : Slot). is_run q.1 n) (part_within first at s.keys)) → ready_of (is_within since at) g ms ≡ ready_within since at b
listed_by s b first since at g ms low h are sorted runs =
    all_listed (is_within since at) g b ms (sorted_rise 0 ms (none_lower ms) sorted) are
    (λ n from none. ap (λ ts. filter (is_within since at) (waiting_in n ts)) (are n) ∙ none_by_slots s (tasks_at b) first since at n low h (sym (runs n) ∙ none))

-- how many runs are open, by the numbers of those that are, in order
pub open_many : (rs : List Run) (ms : List ℕ) → IsStrictlySortedBy nat_cmp ms → ((n : ℕ) → among ms n ≡ in_open (nth rs n)) → length ms ≡ length (filter is_open_run rs)
open_many rs ms sorted are = go ms (sorted_rise 0 ms (none_lower ms) sorted) are
  where
    from_one : (ms : List ℕ) → Rises 1 ms → ((n : ℕ) → among ms n ≡ in_open (nth rs n)) → length ms ≡ length (filter is_open_run rs)
    from_one ms rises are = many_open rs 1 ms rises (λ k. are (1 + k) ∙ ap in_open (nth_at rs (1 + k) k (omega arith)))

    go : (ms : List ℕ) → Rises 0 ms → ((n : ℕ) → among ms n ≡ in_open (nth rs n)) → length ms ≡ length (filter is_open_run rs)
    go [] rises are = from_one [] tt are
    go (m ∷ ms) rises are = elim (cases_Bool (nat_le 1 m)) [
      | inl high ↦ from_one (m ∷ ms) (leb-true 1 m high, rises.1) are
      | inr low ↦
          let zeroth : 0 ≡ m = let less = leb-false 1 m low in omega (arith, less) in
          absurd (true≢false (sym (subst (λ k. among (m ∷ ms) k ≡ true) (sym zeroth) (ap (λ v. v || among ms m) (run_itself m))) ∙ are 0))
    ]

-- what is listed where nothing is left
pub end_of : (p : Waiting → Bool) (g : ℕ → List OpenActivity) (ws : List Waiting) (ms : List ℕ) (all : List Waiting) → ms ≡ [] → ws ++ ready_of p g ms ≡ all → ws ≡ all
end_of p g ws ms all none is = sym (nil_right ws) ∙ ap (λ ns. ws ++ ready_of p g ns) (sym none) ∙ is
  where
    nil_right : (ws : List Waiting) → ws ++ [] ≡ ws
    nil_right [] = refl
    nil_right (w ∷ ws) = ap (λ xs. w ∷ xs) (nil_right ws)
