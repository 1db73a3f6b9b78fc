-- Which of some dues is the least, and which is the least of a book: what timers in memory and rows of timers are held against.
use Rattle.std.proofs.Common.{◌≡◌, ℕ, zero, suc, ◌+◌, ◌≤◌, ◌<◌, List, [], ◌∷◌, Bool, true, false, ◌&&◌, ◌||◌, if◌then◌else◌, Option, Some, None, nat_eq, slice_get, refl, sym, ap, ◌∙◌, subst, inl, inr, true≢false, arith}
use Rattle.std.specs.Prelude.{◌⊎◌, nat_lt, nat_le}
use Rattle.std.specs.Cmp.Derive.{both_true}
use Rattle.std.proofs.lemmas.Bool.{cases_Bool, ltb-true, leb-true, leb-false, le-leb, lt-ltb, eqb-true, eq-eqb}
use Rattle.flow_base.specs.declared.book.Due.{Due}
use Rattle.flow_base.specs.declared.book.Run.{Run}
use Rattle.flow_base.specs.declared.book.Timer.{Timer}
use Rattle.flow_model.specs.Book.{Book, is_before, lesser, least_of, least_from, least_due}
use Rattle.flow_model.specs.Open.{timers_left}

nothing_is : {A : Type 0} (x : A) → None ≡ Some x → ⊥
nothing_is x h = let same = h in cc

some_is : {A : Type 0} (x y : A) → Some x ≡ Some y → x ≡ y
some_is x y h = let same = h in cc

-- the lesser of what was found before and of a timer, where it is due by a moment
abbrev pub with_due : ℕ → Option Due → Due → Option Due
with_due at best d = if nat_le d.due at then Some (lesser best d) else best

---- The order of dues

abbrev pub Before : Due → Due → Type 0
Before a b = (a.due < b.due) ⊎ ((a.due ≡ b.due) × ((a.run < b.run) ⊎ ((a.run ≡ b.run) × (a.id < b.id))))

one_of : (v w : Bool) → (v || w) ≡ true → (v ≡ true) ⊎ (w ≡ true)
one_of true w h = inl refl
one_of false w h = inr h

two_of : (v w : Bool) → (v && w) ≡ true → (v ≡ true) × (w ≡ true)
two_of true w h = (refl, h)
two_of false w h = absurd (true≢false (sym h))

pub before_so : (a b : Due) → is_before a b ≡ true → Before a b
before_so a b h = elim (one_of (nat_lt a.due b.due) _ h) [
  | inl less ↦ inl (ltb-true a.due b.due less)
  | inr more ↦
      let same = two_of (nat_eq a.due b.due) _ more in
      inr (
        eqb-true a.due b.due same.0,
        elim (one_of (nat_lt a.run b.run) _ same.1) [
          | inl less ↦ inl (ltb-true a.run b.run less)
          | inr last ↦ let alike = two_of (nat_eq a.run b.run) _ last in inr (eqb-true a.run b.run alike.0, ltb-true a.id b.id alike.1)
        ],
      )
]

or_later : (v w : Bool) → w ≡ true → (v || w) ≡ true
or_later true w h = refl
or_later false w h = h

pub so_before : (a b : Due) → Before a b → is_before a b ≡ true
so_before a b (inl less) = rw (lt-ltb a.due b.due less) refl
so_before a b (inr (same, inl less)) =
    or_later (nat_lt a.due b.due) _ (both_true (eq-eqb a.due b.due same) (rw (lt-ltb a.run b.run less) refl))
so_before a b (inr (same, inr (alike, less))) =
    or_later (nat_lt a.due b.due) _ (both_true (eq-eqb a.due b.due same) (or_later (nat_lt a.run b.run) _ (both_true (eq-eqb a.run b.run alike) (lt-ltb a.id b.id less))))

not_before : (a b : Due) → is_before a b ≡ false → Before a b → ⊥
not_before a b not_so before = true≢false (sym (so_before a b before) ∙ not_so)

same_due : (a b : Due) → (Before a b → ⊥) → (Before b a → ⊥) → a ≡ b
same_due a b one two =
    let due : a.due ≡ b.due = grind arith in
    let run : a.run ≡ b.run = grind arith in
    let id : a.id ≡ b.id = grind arith in
    λ i. record { due = due i; run = run i; id = id i }

never_itself : (a : Due) → Before a a → ⊥
never_itself a h = grind arith

not_both : (a b : Due) → Before a b → Before b a → ⊥
not_both a b one two = grind arith

still_before : (a b c : Due) → (Before a c → ⊥) → Before a b → (Before c b → ⊥) → ⊥
still_before a b c none one two = grind arith

---- The least of some dues, of those by a moment

abbrev pub IsLeast : ℕ → (Due → Type 0) → Option Due → Type 0
IsLeast at S None = (d : Due) → S d → d.due ≤ at → ⊥
IsLeast at S (Some m) = S m × (m.due ≤ at) × ((d : Due) → S d → d.due ≤ at → Before d m → ⊥)

abbrev pub And : (Due → Type 0) → Due → Due → Type 0
And S x d = S d ⊎ (d ≡ x)

module _ (at : ℕ) where
  pub the_least : (S : Due → Type 0) (o p : Option Due) → IsLeast at S o → IsLeast at S p → o ≡ p
  the_least S None None h k = refl
  the_least S None (Some m) h k = absurd (h m k.0 k.1)
  the_least S (Some m) None h k = absurd (k m h.0 h.1)
  the_least S (Some m) (Some n) h k = ap Some (same_due m n (k.2 m h.0 h.1) (h.2 n k.0 k.1))

  pub same_least : (S T : Due → Type 0) → ((d : Due) → d.due ≤ at → S d → T d) → ((d : Due) → d.due ≤ at → T d → S d) → (o : Option Due) → IsLeast at S o → IsLeast at T o
  same_least S T there back None h = λ d it by. h d (back d by it) by
  same_least S T there back (Some m) h = (there m h.1 h.0, h.1, λ d it by. h.2 d (back d by it) by)

  -- one that isn't due yet changes nothing
  later : (S : Due → Type 0) (x : Due) → nat_le x.due at ≡ false → (o : Option Due) → IsLeast at S o → IsLeast at (And S x) o
  later S x not_so = same_least S (And S x) (λ d by it. inl it) (λ d by it. elim it [
    | inl it ↦ it
    | inr is ↦ absurd (let past = leb-false x.due at not_so in let same = ap (λ (y : Due). y.due) is in omega (arith, past, same, by))
  ])

  lesser_of : (S : Due → Type 0) (m x : Due) (v : Bool) → is_before m x ≡ v → x.due ≤ at → IsLeast at S (Some m) → IsLeast at (And S x) (Some (if v then m else x))
  lesser_of S m x true is by h = (
    inl h.0,
    h.1,
    λ d it by' before. elim it [
      | inl it ↦ h.2 d it by' before
      | inr same ↦ not_both m x (before_so m x is) (subst (λ y. Before y m) same before)
    ],
  )
  lesser_of S m x false is by h = (
    inr refl,
    by,
    λ d it by' before. elim it [
      | inl it ↦ still_before d x m (h.2 d it by') before (not_before m x is)
      | inr same ↦ never_itself x (subst (λ y. Before y x) same before)
    ],
  )

  pub one_more : (S : Due → Type 0) (best : Option Due) (x : Due) → IsLeast at S best → IsLeast at (And S x) (with_due at best x)
  one_more S best x h = elim (cases_Bool (nat_le x.due at)) [
    | inl by ↦ rw by (first best (leb-true x.due at by) h)
    | inr not_so ↦ rw not_so (later S x not_so best h)
  ]
    where
      first : (best : Option Due) → x.due ≤ at → IsLeast at S best → IsLeast at (And S x) (Some (lesser best x))
      first None by h = (
        inr refl,
        by,
        λ d it by' before. elim it [
          | inl it ↦ h d it by'
          | inr same ↦ never_itself x (subst (λ y. Before y x) same before)
        ],
      )
      first (Some m) by h = lesser_of S m x (is_before m x) refl by h

---- What is in a list

abbrev pub Has : {A : Type 0} → List A → A → Type 0
Has [] x = ⊥
Has (y ∷ ys) x = (x ≡ y) ⊎ Has ys x

---- The least by the runs

abbrev pub due_at : ℕ → Timer → Due
due_at n t = record { due = t.due; run = n; id = t.id }

abbrev pub InTimers : ℕ → List Timer → Due → Type 0
InTimers n ts d = (t : Timer) × Has ts t × (d ≡ due_at n t)

timers_least : (at n : ℕ) (ts : List Timer) (S : Due → Type 0) (best : Option Due) → IsLeast at S best → IsLeast at (λ d. S d ⊎ InTimers n ts d) (least_of at n best ts)
timers_least at n [] S best h = same_least at S _ (λ d by it. inl it) (λ d by it. elim it [ inl it ↦ it | inr none ↦ absurd none.1 ]) best h
timers_least at n (t ∷ ts) S best h =
    same_least at (λ d. And S (due_at n t) d ⊎ InTimers n ts d) _ (λ d by it. elim it [
      | inl (inl it) ↦ inl it
      | inl (inr same) ↦ inr (t, inl refl, same)
      | inr more ↦ inr (more.0, inr more.1, more.2)
    ]) (λ d by it. elim it [
      | inl it ↦ inl (inl it)
      | inr (y, inl same, is) ↦ inl (inr (is ∙ ap (due_at n) same))
      | inr (y, inr has, is) ↦ inr (y, has, is)
    ]) _ (timers_least at n ts (And S (due_at n t)) (with_due at best (due_at n t)) (one_more at S best (due_at n t) h))

-- of the run that stands at a place, where the first has number n
abbrev pub InRuns : ℕ → List Run → Due → Type 0
InRuns n rs d = (k m : ℕ) × (r : Run) × (slice_get rs k ≡ Some r) × (m ≡ n + k) × InTimers m (timers_left r.history) d

pub runs_least : (at n : ℕ) (rs : List Run) (S : Due → Type 0) (best : Option Due) → IsLeast at S best → IsLeast at (λ d. S d ⊎ InRuns n rs d) (least_from at n best rs)
runs_least at n [] S best h = same_least at S _ (λ d by it. inl it) (λ d by it. elim it [ inl it ↦ it | inr (k, m, r, there, is, more) ↦ absurd (nothing_is r there) ]) best h
runs_least at n (x ∷ xs) S best h =
    let ts = timers_left x.history in
    same_least at (λ d. (S d ⊎ InTimers n ts d) ⊎ InRuns (n + 1) xs d) _ (λ d by it. elim it [
      | inl (inl it) ↦ inl it
      | inl (inr here) ↦ inr (zero, n, x, refl, omega arith, here)
      | inr (k, m, r, there, is, more) ↦ inr (suc k, m, r, there, omega (arith, is), more)
    ]) (λ d by it. elim it [
      | inl it ↦ inl (inl it)
      | inr (zero, m, r, there, is, more) ↦ inl (inr (subst (λ i. InTimers i ts d) (let same : m ≡ n = omega (arith, is) in same) (subst (λ (y : Run). InTimers m (timers_left y.history) d) (sym (some_is x r there)) more)))
      | inr (suc k, m, r, there, is, more) ↦ inr (k, m, r, there, omega (arith, is), more)
    ]) _ (runs_least at (n + 1) xs (λ d. S d ⊎ InTimers n ts d) (least_of at n best ts) (timers_least at n ts S best h))
