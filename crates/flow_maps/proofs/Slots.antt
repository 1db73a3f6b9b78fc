-- What becomes of timers in order of their dues, and that the first of them is the one that is due first.
use Rattle.std.specs.Prelude.{◌≡◌, ◌≢◌, ◌≤◌, ◌<◌, ◌∷◌, ◌&&◌, ◌||◌, ◌⊎◌}
use Rattle.flow_maps.proofs.Names.{ℕ, zero, suc, List, [], length, Bool, true, false, cond, not, Option, Some, None, slice_get, refl, sym, ap, ◌∙◌, subst, inl, inr, true≢false, arith, list_any, nat_cmp, is_eq, is_gt, ordering_then, Ordering, Less, Equal, Greater, BTreeSet, contains, btree_set_len, ranked, nat_cmp_total, tied_itself, nat_cmp_is, Due, Run, Timer, Book, nth, least_due, timers_left, nth_at, Slot, slot_cmp, is_slot, slot, due_of, date_of_timer, has_slot, HasSlots, is_run, of_run, timers_of, timers_at, Before, IsLeast, Has, InRuns, the_least, runs_least}

---- Numbers and slots

equal_is : (x y : ℕ) (o : Ordering) → o ≡ nat_cmp x y → is_eq o ≡ true → x ≡ y
equal_is x y Less is h = absurd (true≢false (sym h))
equal_is x y Equal is h = ranked x y Equal is
equal_is x y Greater is h = absurd (true≢false (sym h))

pub run_is : (run n : ℕ) → is_run run n ≡ true → run ≡ n
run_is run n h = equal_is run n (nat_cmp run n) refl h

pub run_itself : (run : ℕ) → is_run run run ≡ true
run_itself run = ap is_eq (tied_itself nat_cmp_total run)

pub both_eq : (o p : Ordering) → is_eq (ordering_then o p) ≡ true → (is_eq o ≡ true) × (is_eq p ≡ true)
both_eq Less p h = absurd (true≢false (sym h))
both_eq Equal p h = (refl, h)
both_eq Greater p h = absurd (true≢false (sym h))

pub slot_is : (x y : Slot) → is_slot x y ≡ true → x ≡ y
slot_is x y h =
    let outer = both_eq (ordering_then (nat_cmp x.0 y.0) (nat_cmp x.1 y.1)) (nat_cmp x.2 y.2) h in
    let inner = both_eq (nat_cmp x.0 y.0) (nat_cmp x.1 y.1) outer.0 in
    let due = run_is x.0 y.0 inner.0 in
    let run = run_is x.1 y.1 inner.1 in
    let id = run_is x.2 y.2 outer.1 in
    λ i. (due i, run i, id i)

slot_itself : (x : Slot) → is_slot x x ≡ true
slot_itself x = rw (tied_itself nat_cmp_total x.0, tied_itself nat_cmp_total x.1, tied_itself nat_cmp_total x.2) refl

---- What one run has goes or comes

pub not_true : (b : Bool) → b ≢ true → b ≡ false
not_true true h = absurd (h refl)
not_true false h = refl

gone : (b : Bool) → (b && not b) ≡ false
gone true = refl
gone false = refl

stays : (b c : Bool) → c ≡ false → (b && not c) ≡ b
stays true c h = ap not h
stays false c h = refl

comes : (b c : Bool) → b ≡ false → (b || c) ≡ c
comes true c h = absurd (true≢false h)
comes false c h = refl

kept : (b c : Bool) → c ≡ false → (b || c) ≡ b
kept true c h = refl
kept false c h = h

module _ {T : Type 0} (date : T → ℕ × ℕ) where
  -- a run has no slot of another one
  other_run : (run : ℕ) (ts : List T) (q : Slot) → is_run run q.1 ≡ false → has_slot date run ts q ≡ false
  other_run run [] q other = refl
  other_run run (t ∷ ts) q other =
      let none : is_slot (slot date run t) q ≡ false = not_true (is_slot (slot date run t) q) (λ is. true≢false (sym (rw (sym (ap (λ (s : Slot). s.1) (slot_is (slot date run t) q is))) (run_itself run)) ∙ other)) in
      rw none (other_run run ts q other)

  module _ (f : ℕ → List T) (run : ℕ) (q : Slot) where
    pub slots_gone : (b c : Bool) → b ≡ has_slot date q.1 (f q.1) q → c ≡ (b && not (has_slot date run (f run) q)) → c ≡ has_slot date q.1 (cond (is_run run q.1) [] (f q.1)) q
    slots_gone b c was is = by (is_run run q.1) refl
      where
        by : (v : Bool) → is_run run q.1 ≡ v → c ≡ has_slot date q.1 (cond v [] (f q.1)) q
        by true own = is ∙ ap (λ x. x && not (has_slot date run (f run) q)) (was ∙ ap (λ n. has_slot date n (f n) q) (sym (run_is run q.1 own))) ∙ gone (has_slot date run (f run) q)
        by false other = is ∙ stays b (has_slot date run (f run) q) (other_run run (f run) q other) ∙ was

    pub slots_more : (ts : List T) (b c : Bool) → f run ≡ [] → b ≡ has_slot date q.1 (f q.1) q → c ≡ (b || has_slot date run ts q) → c ≡ has_slot date q.1 (cond (is_run run q.1) ts (f q.1)) q
    slots_more ts b c none was is = by (is_run run q.1) refl
      where
        by : (v : Bool) → is_run run q.1 ≡ v → c ≡ has_slot date q.1 (cond v ts (f q.1)) q
        by true own =
            let same = run_is run q.1 own in
            is ∙ comes b (has_slot date run ts q) (was ∙ ap (λ xs. has_slot date q.1 xs q) (ap f (sym same) ∙ none)) ∙ ap (λ n. has_slot date n ts q) same
        by false other = is ∙ kept b (has_slot date run ts q) (other_run run ts q other) ∙ was

---- The first

pub later : (v w : Bool) → w ≡ true → (v || w) ≡ true
later true w h = refl
later false w h = h

module _ {T : Type 0} (date : T → ℕ × ℕ) where
  pub has_one : (run : ℕ) (ts : List T) (q : Slot) → has_slot date run ts q ≡ true → (t : T) × Has ts t × (slot date run t ≡ q)
  has_one run [] q h = absurd (true≢false (sym h))
  has_one run (t ∷ ts) q h = by (is_slot (slot date run t) q) refl (has_one run ts q) h
    where
      by : (v : Bool) → is_slot (slot date run t) q ≡ v → (has_slot date run ts q ≡ true → (x : T) × Has ts x × (slot date run x ≡ q)) → (v || has_slot date run ts q) ≡ true → (x : T) × Has (t ∷ ts) x × (slot date run x ≡ q)
      by true is others h = (t, inl refl, slot_is (slot date run t) q is)
      by false is others h = let more = others h in (more.0, inr more.1, more.2)

  pub one_has : (run : ℕ) (ts : List T) (t : T) → Has ts t → has_slot date run ts (slot date run t) ≡ true
  one_has run [] t has = absurd has
  one_has run (x ∷ ts) t (inl same) = rw (ap (λ (y : T). is_slot (slot date run x) (slot date run y)) same ∙ slot_itself (slot date run x)) refl
  one_has run (x ∷ ts) t (inr has) = later (is_slot (slot date run x) (slot date run t)) (has_slot date run ts (slot date run t)) (one_has run ts t has)

abbrev slot_of : Due → Slot
slot_of d = (d.due, d.run, d.id)

nothing_is : {A : Type 0} (x : A) → None ≡ Some x → ⊥
nothing_is x h = let same = h in cc

of_nth : (rs : List Run) (n : ℕ) (q : Slot) → has_slot date_of_timer n (of_run timers_of (nth rs n)) q ≡ true → InRuns 1 rs (record { due = q.0; run = n; id = q.2 })
of_nth rs zero q h = absurd (true≢false (sym h))
of_nth rs (suc k) q h = by (slice_get rs k) refl (subst (λ o. has_slot date_of_timer (suc k) (of_run timers_of o) q ≡ true) (nth_at rs (suc k) k refl) h)
  where
    by : (o : Option Run) → slice_get rs k ≡ o → has_slot date_of_timer (suc k) (of_run timers_of o) q ≡ true → InRuns 1 rs (record { due = q.0; run = suc k; id = q.2 })
    by None is h = absurd (true≢false (sym h))
    by (Some r) is h =
        let it = has_one date_of_timer (suc k) (timers_left r.history) q h in
        (k, suc k, r, is, omega arith, (it.0, it.1, λ i. record { due = (sym it.2 i).0; run = suc k; id = (sym it.2 i).2 }))

runs_have : (rs : List Run) (d : Due) → InRuns 1 rs d → has_slot date_of_timer d.run (of_run timers_of (nth rs d.run)) (slot_of d) ≡ true
runs_have rs d (k, m, r, there, place, (t, has, is)) =
    let here : m ≡ suc k = omega (arith, place) in
    let run : d.run ≡ suc k = ap (λ (x : Due). x.run) is ∙ here in
    subst (λ (x : Due). has_slot date_of_timer x.run (of_run timers_of (nth rs x.run)) (slot_of x) ≡ true) (sym is)
    (subst (λ n. has_slot date_of_timer n (of_run timers_of (nth rs n)) (t.due, n, t.id) ≡ true) (sym here) (subst (λ o. has_slot date_of_timer (suc k) (of_run timers_of o) (slot date_of_timer (suc k) t) ≡ true) (sym (nth_at rs (suc k) k refl ∙ there)) (one_has date_of_timer (suc k) (timers_left r.history) t has)))

before_gt : (k : Slot) (d : Due) → Before d (due_of k) → is_gt (slot_cmp k (slot_of d)) ≡ true
before_gt k d (inl less) = rw (sym (nat_cmp_is k.0 d.due Greater less)) refl
before_gt k d (inr (due, inl less)) = rw (sym (nat_cmp_is k.0 d.due Equal (sym due)), sym (nat_cmp_is k.1 d.run Greater less)) refl
before_gt k d (inr (due, inr (run, less))) = rw (sym (nat_cmp_is k.0 d.due Equal (sym due)), sym (nat_cmp_is k.1 d.run Equal (sym run)), sym (nat_cmp_is k.2 d.id Greater less)) refl

none_by : (p : Slot → Bool) (ks : List Slot) → (0 < length ks → ⊥) → list_any p ks ≡ false
none_by p [] none = refl
none_by p (k ∷ ks) none = absurd (none (omega arith))

pub none_in : (s : BTreeSet Slot) → (0 < btree_set_len s → ⊥) → (q : Slot) → contains slot_cmp s q ≡ false
none_in s none q = none_by (is_slot q) s.keys none

module _ (s : BTreeSet Slot) (b : Book) (at : ℕ) (h : HasSlots date_of_timer s (timers_at b)) where
  abbrev OfBook : Due → Type 0
  OfBook d = ⊥ ⊎ InRuns 1 b.runs d

  by_book : IsLeast at OfBook (least_due b at)
  by_book = runs_least at 1 b.runs (λ d. ⊥) None (λ d none by. none)

  there : (d : Due) → OfBook d → contains slot_cmp s (slot_of d) ≡ true
  there d (inl none) = absurd none
  there d (inr has) = h (slot_of d) ∙ runs_have b.runs d has

  pub none_due : ((q : Slot) → contains slot_cmp s q ≡ false) → None ≡ least_due b at
  none_due none = the_least at OfBook None (least_due b at) (λ d has by. true≢false (sym (there d has) ∙ none (slot_of d))) by_book

  module _ (k : Slot) (least : (q : Slot) → contains slot_cmp s q ≡ true → is_gt (slot_cmp k q) ≡ false) where
    never_before : (d : Due) → OfBook d → Before d (due_of k) → ⊥
    never_before d has before = true≢false (sym (before_gt k d before) ∙ least (slot_of d) (there d has))

    pub later_due : at < k.0 → None ≡ least_due b at
    later_due late = the_least at OfBook None (least_due b at) (λ d has by. never_before d has (inl (omega (arith, late, by)))) by_book

    pub first_due : contains slot_cmp s k ≡ true → k.0 ≤ at → Some (due_of k) ≡ least_due b at
    first_due has by = the_least at OfBook (Some (due_of k)) (least_due b at) (inr (of_nth b.runs k.1 k (sym (h k) ∙ has)), by, λ d other soon. never_before d other) by_book
