-- When there is more to be done, by the slots that come next.
use Rattle.std.specs.Prelude.{◌≡◌, ◌≤◌, ◌<◌, ◌+◌, if◌then◌else◌, ◌∷◌, ◌++◌, ◌⊎◌}
use Rattle.flow_maps.proofs.Names.{ℕ, zero, suc, Bool, true, false, List, [], Option, Some, None, slice_get, refl, sym, ap, subst, ◌∙◌, inl, inr, true≢false, arith, nat_lt, IfSome, nat_cmp, is_gt, ordering_then, BTreeSet, contains, IsKeyRangeOf, IsKeyInRange, IsLeBy, Included, Unbounded, Ordering, Less, Equal, Greater, ranked, cases_Bool, ltb-true, ltb-false, lt-ltb, le-ltb, Run, OpenActivity, Book, Has, nth_at, tasks_of, tasks_at, Slot, slot_cmp, slot, date_of_task, HasSlots, IsNext, Waiting, waiting, waiting_in, waiting_from, sooner, with_next, with_ready, soonest, of_run}
use Rattle.flow_maps.proofs.Slots.{has_one, not_true, one_has}

---- The lesser of moments

no_later : (at : ℕ) (best : Option ℕ) (ws : List Waiting) → ((w : Waiting) → Has ws w → nat_lt at w.1.ready ≡ false) → soonest at best ws ≡ best
no_later at best [] never = refl
no_later at best (w ∷ ws) never = ap (λ b. soonest at b ws) (ap (λ v. if v then sooner best w.1.ready else best) (never w (inl refl))) ∙ no_later at best ws (λ x has. never x (inr has))

lesser : (r m : ℕ) → m ≤ r → sooner (Some r) m ≡ Some m
lesser r m less = elim (cases_Bool (nat_lt m r)) [
  | inl is ↦ ap (λ v. if v then Some m else Some r) is
  | inr isnt ↦ ap (λ v. if v then Some m else Some r) isnt ∙ ap Some (let e : r ≡ m = (let above = ltb-false m r isnt in omega (arith, less, above)) in e)
]

-- a moment that is no sooner makes no difference to a sooner one
pub passed : (best : Option ℕ) (r m : ℕ) → m ≤ r → sooner (sooner best r) m ≡ sooner best m
passed None r m less = lesser r m less
passed (Some n) r m less = elim (cases_Bool (nat_lt r n)) [
  | inl is ↦
      let below = ltb-true r n is in
      ap (λ o. sooner o m) (ap (λ v. if v then Some r else Some n) is) ∙ lesser r m less ∙ sym (lesser n m (omega (arith, below, less)))
  | inr isnt ↦ ap (λ o. sooner o m) (ap (λ v. if v then Some r else Some n) isnt)
]

-- nor one that comes again
pub again : (best : Option ℕ) (m r : ℕ) → m ≤ r → sooner (sooner best m) r ≡ sooner best m
again None m r less = ap (λ v. if v then Some r else Some m) (le-ltb r m less)
again (Some n) m r less = elim (cases_Bool (nat_lt m n)) [
  | inl is ↦ ap (λ o. sooner o r) (ap (λ v. if v then Some m else Some n) is) ∙ ap (λ v. if v then Some r else Some m) (le-ltb r m less) ∙ sym (ap (λ v. if v then Some m else Some n) is)
  | inr isnt ↦
      let above = ltb-false m n isnt in
      ap (λ o. sooner o r) (ap (λ v. if v then Some m else Some n) isnt) ∙ ap (λ v. if v then Some r else Some n) (le-ltb r n (omega (arith, above, less))) ∙ sym (ap (λ v. if v then Some m else Some n) isnt)
]

module _ (at m : ℕ) where
  -- nothing is ready after `at` and before `m`
  abbrev NoneBetween : List Waiting → Type 0
  NoneBetween ws = (w : Waiting) → Has ws w → nat_lt at w.1.ready ≡ true → m ≤ w.1.ready

  settled : (best : Option ℕ) (ws : List Waiting) → NoneBetween ws → soonest at (sooner best m) ws ≡ sooner best m
  settled best [] none = refl
  settled best (w ∷ ws) none = ap (λ b. soonest at b ws) (by (nat_lt at w.1.ready) refl) ∙ settled best ws (λ x has. none x (inr has))
    where
      by : (v : Bool) → nat_lt at w.1.ready ≡ v → (if v then sooner (sooner best m) w.1.ready else sooner best m) ≡ sooner best m
      by true is = again best m w.1.ready (none w (inl refl) is)
      by false is = refl

  found : (best : Option ℕ) (ws : List Waiting) → at < m → NoneBetween ws → (w : Waiting) → Has ws w → w.1.ready ≡ m → soonest at best ws ≡ sooner best m
  found best [] less none w has is = absurd has
  found best (x ∷ ws) less none w (inl same) is =
      let ready : x.1.ready ≡ m = ap (λ (y : Waiting). y.1.ready) (sym same) ∙ is in
      ap (λ b. soonest at b ws) (ap (λ r. if nat_lt at r then sooner best r else best) ready ∙ ap (λ v. if v then sooner best m else best) (lt-ltb at m less)) ∙ settled best ws (λ y has. none y (inr has))
  found best (x ∷ ws) less none w (inr has) is = found (with_ready at best x) ws less (λ y more. none y (inr more)) w has is ∙ by (nat_lt at x.1.ready) refl
    where
      by : (v : Bool) → nat_lt at x.1.ready ≡ v → sooner (if v then sooner best x.1.ready else best) m ≡ sooner best m
      by true later = passed best x.1.ready m (none x (inl refl) later)
      by false later = refl

---- What waits stands in slots

in_first : (ws vs : List Waiting) (w : Waiting) → Has ws w → Has (ws ++ vs) w
in_first [] vs w has = absurd has
in_first (x ∷ ws) vs w (inl same) = inl same
in_first (x ∷ ws) vs w (inr has) = inr (in_first ws vs w has)

in_second : (ws vs : List Waiting) (w : Waiting) → Has vs w → Has (ws ++ vs) w
in_second [] vs w has = has
in_second (x ∷ ws) vs w has = inr (in_second ws vs w has)

in_either : (ws vs : List Waiting) (w : Waiting) → Has (ws ++ vs) w → Has ws w ⊎ Has vs w
in_either [] vs w has = inr has
in_either (x ∷ ws) vs w (inl same) = inl (inl same)
in_either (x ∷ ws) vs w (inr has) = elim (in_either ws vs w has) [ inl here ↦ inl (inr here) | inr there ↦ inr there ]

of_one : (n : ℕ) (ts : List OpenActivity) (w : Waiting) → Has (waiting_in n ts) w → (w.0 ≡ n) × Has ts w.1
of_one n [] w has = absurd has
of_one n (t ∷ ts) w (inl same) = (ap (λ (y : Waiting). y.0) same, inl (ap (λ (y : Waiting). y.1) same))
of_one n (t ∷ ts) w (inr has) = let it = of_one n ts w has in (it.0, inr it.1)

one_of : (n : ℕ) (ts : List OpenActivity) (t : OpenActivity) → Has ts t → Has (waiting_in n ts) (n, t)
one_of n [] t has = absurd has
one_of n (x ∷ ts) t (inl same) = inl (ap (λ y. (n, y)) same)
one_of n (x ∷ ts) t (inr has) = inr (one_of n ts t has)

of_runs : (rs : List Run) (n : ℕ) (w : Waiting) → Has (waiting_from n rs) w → (k : ℕ) × (w.0 ≡ n + k) × Has (of_run tasks_of (slice_get rs k)) w.1
of_runs [] n w has = absurd has
of_runs (r ∷ rs) n w has = elim (in_either (waiting_in n r.tasks) (waiting_from (n + 1) rs) w has) [
  | inl here ↦ let it = of_one n r.tasks w here in (zero, (omega (arith, it.0)), it.1)
  | inr there ↦ let it = of_runs rs (n + 1) w there in (suc it.0, (omega (arith, it.1)), it.2)
]

in_runs : (rs : List Run) (n k : ℕ) (t : OpenActivity) → Has (of_run tasks_of (slice_get rs k)) t → Has (waiting_from n rs) (n + k, t)
in_runs [] n k t has = absurd has
in_runs (r ∷ rs) n zero t has = subst (λ m. Has (waiting_from n (r ∷ rs)) (m, t)) (let e : n ≡ n + zero = omega arith in e) (in_first (waiting_in n r.tasks) (waiting_from (n + 1) rs) (n, t) (one_of n r.tasks t has))
in_runs (r ∷ rs) n (suc k) t has =
    subst (λ m. Has (waiting_from n (r ∷ rs)) (m, t)) (let e : (n + 1) + k ≡ n + suc k = omega arith in e) (in_second (waiting_in n r.tasks) (waiting_from (n + 1) rs) ((n + 1) + k, t) (in_runs rs (n + 1) k t has))

pub waits_at : (b : Book) (w : Waiting) → Has (waiting b) w → Has (tasks_at b w.0) w.1
waits_at b w has =
    let it = of_runs b.runs 1 w has in
    subst (λ n. Has (tasks_at b n) w.1) (sym it.1) (subst (λ o. Has (of_run tasks_of o) w.1) (sym (nth_at b.runs (1 + it.0) it.0 (omega arith))) it.2)

pub at_waits : (b : Book) (n : ℕ) (t : OpenActivity) → Has (tasks_at b n) t → Has (waiting b) (n, t)
at_waits b zero t has = absurd has
at_waits b (suc k) t has =
    subst (λ m. Has (waiting b) (m, t)) (let e : 1 + k ≡ suc k = omega arith in e) (in_runs b.runs 1 k t (subst (λ o. Has (of_run tasks_of o) t) (nth_at b.runs (suc k) k refl) has))

module _ (s : BTreeSet Slot) (b : Book) (at : ℕ) (h : HasSlots date_of_task s (tasks_at b)) where
  has_place : (w : Waiting) → Has (waiting b) w → contains slot_cmp s (slot date_of_task w.0 w.1) ≡ true
  has_place w has = h (slot date_of_task w.0 w.1) ∙ one_has date_of_task w.0 (tasks_at b w.0) w.1 (waits_at b w has)

  none_next : (best : Option ℕ) → IsNext at s None → best ≡ soonest at best (waiting b)
  none_next best none = sym (no_later at best (waiting b) (λ w has. not_true (nat_lt at w.1.ready) (λ later. none (slot date_of_task w.0 w.1) (has_place w has) (ltb-true at w.1.ready later))))

  some_next : (best : Option ℕ) (m : ℕ) → IsNext at s (Some m) → sooner best m ≡ soonest at best (waiting b)
  some_next best m next =
      let q = next.1.0 in
      let it = has_one date_of_task q.1 (tasks_at b q.1) q (sym (h q) ∙ next.1.1) in
      sym (found at m best (waiting b) next.0 (λ w has later. next.2 (slot date_of_task w.0 w.1) (has_place w has) (ltb-true at w.1.ready later)) (q.1, it.0) (at_waits b q.1 it.0 it.1) (ap (λ (x : Slot). x.0) it.2 ∙ next.1.2))

  pub next_is : (best o : Option ℕ) → IsNext at s o → with_next best o ≡ soonest at best (waiting b)
  next_is best None next = none_next best next
  next_is best (Some m) next = some_next best m next

---- The first slot after a moment

not_before : (x y : Slot) → is_gt (slot_cmp x y) ≡ false → x.0 ≤ y.0
not_before x y h = by (nat_cmp x.0 y.0) refl h
  where
    by : (o : Ordering) → o ≡ nat_cmp x.0 y.0 → is_gt (ordering_then (ordering_then o (nat_cmp x.1 y.1)) (nat_cmp x.2 y.2)) ≡ false → x.0 ≤ y.0
    by Less is h = let less = ranked x.0 y.0 Less is in omega (arith, less)
    by Equal is h = let same = ranked x.0 y.0 Equal is in omega (arith, same)
    by Greater is h = absurd (true≢false h)

not_above : (x y : ℕ) → x ≤ y → is_gt (nat_cmp x y) ≡ false
not_above x y less = by (nat_cmp x y) refl
  where
    by : (o : Ordering) → o ≡ nat_cmp x y → is_gt o ≡ false
    by Less is = refl
    by Equal is = refl
    by Greater is = absurd (let more = ranked x y Greater is in omega (arith, more, less))

neither : (o p : Ordering) → is_gt o ≡ false → is_gt p ≡ false → is_gt (ordering_then o p) ≡ false
neither Less p h i = refl
neither Equal p h i = i
neither Greater p h i = absurd (true≢false h)

after : (at : ℕ) (q : Slot) → at < q.0 → is_gt (slot_cmp (at + 1, 0, 0) q) ≡ false
after at q less = neither (ordering_then (nat_cmp (at + 1) q.0) (nat_cmp 0 q.1)) (nat_cmp 0 q.2) (neither (nat_cmp (at + 1) q.0) (nat_cmp 0 q.1) (not_above (at + 1) q.0 (omega (arith, less))) (not_above 0 q.1 (omega arith))) (not_above 0 q.2 (omega arith))

module _ (s : BTreeSet Slot) (r : List Slot) (at : ℕ) (h : IsKeyRangeOf slot_cmp (Included (at + 1, 0, 0)) Unbounded s r) where
  pub next_none : r ≡ [] → IsNext at s None
  next_none none q has less = true≢false (sym has ∙ h.5 none q (after at q less, tt))

  pub next_some : (k : Slot) (t : List Slot) → r ≡ k ∷ t → (m : ℕ) → m ≡ k.0 → IsNext at s (Some m)
  next_some k t is m same =
      let first = subst (λ xs. IfSome (slice_get xs 0) (IsKeyInRange slot_cmp (Included (at + 1, 0, 0)) Unbounded s)) is h.1 in
      let from : at + 1 ≤ k.0 = not_before (at + 1, 0, 0) k first.0.0 in (
        (omega (arith, from, same)),
        (k, first.1, sym same),
        λ q has less.
            let below : k.0 ≤ q.0 = not_before k q (subst (λ xs. IfSome (slice_get xs 0) (λ (x : Slot). IsLeBy slot_cmp x q)) is (h.2 q (after at q less, tt) has)) in omega (arith, below, same),
      )
