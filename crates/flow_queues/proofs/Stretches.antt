-- Stretches of runs: what they say of a run, and what becomes of them if one more is over.
use Rattle.std.proofs.Common.{◌≡◌, ◌≢◌, ◌≤◌, ◌<◌, ◌+◌, ◌-◌, ℕ, zero, suc, Bool, true, false, cond, ◌&&◌, ◌||◌, not, List, [], ◌∷◌, ◌++◌, Some, None, slice_get, refl, sym, ap, ◌∙◌, subst, arith, true≢false}
use Rattle.std.specs.Prelude.{IfSome}
use Rattle.std.specs.List.{list_any}
use Rattle.std.specs.Ordering.{nat_cmp, is_eq, is_gt}
use Rattle.std.proofs.Common.{Ordering, Less, Equal, Greater}
use Rattle.std.proofs.lemmas.Cmp.{ranked, nat_cmp_total, tied_itself}
use Rattle.std.specs.BTreeMap.Range.{IsLeBy}
use Rattle.std.specs.BTreeSet.{BTreeSet, contains, IsKeyInRange, IsKeyRangeOf}
use Rattle.std.specs.declared.ops.Bound.TheVariants.{Included, Unbounded}
use Rattle.flow_queues.specs.Over.{AreStretches, IsNextIn, is_over, is_same, was_over}

---- Numbers

equal_is : (x y : ℕ) (o : Ordering) → o ≡ nat_cmp x y → is_eq o ≡ true → x ≡ y
equal_is x y Less is h = absurd (true≢false (sym h))
equal_is x y Equal is h = ranked x y Equal is
equal_is x y Greater is h = absurd (true≢false (sym h))

pub same_is : (n m : ℕ) → is_same n m ≡ true → n ≡ m
same_is n m h = equal_is n m (nat_cmp n m) refl h

pub same_itself : (n : ℕ) → is_same n n ≡ true
same_itself n = ap is_eq (tied_itself nat_cmp_total n)

pub not_true : (b : Bool) → b ≢ true → b ≡ false
not_true true h = absurd (h refl)
not_true false h = refl

pub not_same : (n m : ℕ) → (n ≡ m → ⊥) → is_same n m ≡ false
not_same n m apart = not_true (is_same n m) (λ is. apart (same_is n m is))

not_above : (x y : ℕ) → x ≤ y → is_gt (nat_cmp x y) ≡ false
not_above x y less = by (nat_cmp x y) refl
  where
    by : (o : Ordering) → o ≡ nat_cmp x y → is_gt o ≡ false
    by Less is = refl
    by Equal is = refl
    by Greater is = absurd (let more = ranked x y Greater is in omega (arith, more, less))

not_before : (x y : ℕ) → is_gt (nat_cmp x y) ≡ false → x ≤ y
not_before x y h = by (nat_cmp x y) refl h
  where
    by : (o : Ordering) → o ≡ nat_cmp x y → is_gt o ≡ false → x ≤ y
    by Less is h = let less = ranked x y Less is in omega (arith, less)
    by Equal is h = let same = ranked x y Equal is in omega (arith, same)
    by Greater is h = absurd (true≢false h)

---- Lists of runs

or_false : (a : Bool) → (a || false) ≡ a
or_false true = refl
or_false false = refl

or_assoc : (a b c : Bool) → (a || (b || c)) ≡ ((a || b) || c)
or_assoc true b c = refl
or_assoc false b c = refl

pub over_both : (xs ys : List ℕ) (n : ℕ) → is_over (xs ++ ys) n ≡ (is_over xs n || is_over ys n)
over_both [] ys n = refl
over_both (x ∷ xs) ys n = ap (λ b. is_same x n || b) (over_both xs ys n) ∙ or_assoc (is_same x n) (is_over xs n) (is_over ys n)

pub over_last : (xs : List ℕ) (x n : ℕ) → is_over (xs ++ x ∷ []) n ≡ (is_over xs n || is_same x n)
over_last xs x n = over_both xs (x ∷ []) n ∙ ap (λ b. is_over xs n || b) (or_false (is_same x n))

first_true : (a b : Bool) → a ≡ true → (a || b) ≡ true
first_true true b h = refl
first_true false b h = absurd (true≢false (sym h))

abbrev bound : List ℕ → ℕ
bound [] = 0
bound (x ∷ xs) = suc x + bound xs

-- past all of them none is there
beyond : (xs : List ℕ) (n : ℕ) → bound xs ≤ n → is_over xs n ≡ false
beyond [] n past = refl
beyond (x ∷ xs) n past =
    ap (λ b. b || is_over xs n) (not_same x n (λ same. absurd (omega (arith, past, same)))) ∙ beyond xs n (omega (arith, past))

---- The next number of a set

module _ (s : BTreeSet ℕ) (r : List ℕ) (at : ℕ) (h : IsKeyRangeOf nat_cmp (Included (at + 1)) Unbounded s r) where
  pub next_none : r ≡ [] → IsNextIn s at None
  next_none none q has less = true≢false (sym has ∙ h.5 none q (not_above (at + 1) q (omega (arith, less)), tt))

  pub next_some : (k : ℕ) (t : List ℕ) → r ≡ k ∷ t → IsNextIn s at (Some k)
  next_some k t is =
      let first = subst (λ xs. IfSome (slice_get xs 0) (IsKeyInRange nat_cmp (Included (at + 1)) Unbounded s)) is h.1 in
      let from : at + 1 ≤ k = not_before (at + 1) k first.0.0 in (
        (omega (arith, from)),
        first.1,
        λ q has less. not_before k q (subst (λ xs. IfSome (slice_get xs 0) (λ (x : ℕ). IsLeBy nat_cmp x q)) is (h.2 q (not_above (at + 1) q (omega (arith, less)), tt) has)),
      )

---- What stretches say of a run

and_not : (a b : Bool) → (not a && b) ≡ false → b ≡ true → a ≡ true
and_not true b h is = refl
and_not false true h is = absurd (true≢false h)
and_not false false h is = absurd (true≢false (sym is))

and_is : (a b : Bool) → (a && not b) ≡ false → b ≡ false → a ≡ false
and_is false b h is = refl
and_is true true h is = absurd (true≢false is)
and_is true false h is = absurd (true≢false h)

was_true : (a b : Bool) → (not a && b) ≡ true → b ≡ true
was_true true b h = absurd (true≢false (sym h))
was_true false b h = h

was_false : (a b : Bool) → (a && not b) ≡ true → b ≡ false
was_false false b h = absurd (true≢false (sym h))
was_false true true h = absurd (true≢false (sym h))
was_false true false h = refl

module _ (firsts ends : BTreeSet ℕ) (runs : List ℕ) (h : AreStretches firsts ends runs) where
  -- where no stretch ends, what is over is so on
  on : (run k : ℕ) → ((q : ℕ) → contains nat_cmp ends q ≡ true → run < q → q ≤ run + k → ⊥) → is_over runs run ≡ true → is_over runs (run + k) ≡ true
  on run zero none is = let here : run + zero ≡ run = omega arith in subst (λ n. is_over runs n ≡ true) (sym here) is
  on run (suc k) none is =
      let before = on run k (λ q has more less. none q has more (omega (arith, less))) is in
      let next : run + suc k ≡ suc (run + k) = omega arith in
      let no_end : contains nat_cmp ends (suc (run + k)) ≡ false = not_true (contains nat_cmp ends (suc (run + k))) (λ has. none (suc (run + k)) has (omega arith) (omega arith)) in
      subst (λ n. is_over runs n ≡ true) (sym next) (and_not (is_over runs (suc (run + k))) (is_over runs (run + k)) (sym (h.ended (suc (run + k))) ∙ no_end) before)

  -- where none begins, what isn't over isn't
  off : (run k : ℕ) → ((q : ℕ) → contains nat_cmp firsts q ≡ true → run < q → q ≤ run + k → ⊥) → is_over runs run ≡ false → is_over runs (run + k) ≡ false
  off run zero none is = let here : run + zero ≡ run = omega arith in subst (λ n. is_over runs n ≡ false) (sym here) is
  off run (suc k) none is =
      let before = off run k (λ q has more less. none q has more (omega (arith, less))) is in
      let next : run + suc k ≡ suc (run + k) = omega arith in
      let no_first : contains nat_cmp firsts (suc (run + k)) ≡ false = not_true (contains nat_cmp firsts (suc (run + k))) (λ has. none (suc (run + k)) has (omega arith) (omega arith)) in
      subst (λ n. is_over runs n ≡ false) (sym next) (and_is (is_over runs (suc (run + k))) (is_over runs (run + k)) (sym (h.begun (suc (run + k))) ∙ no_first) before)

  -- no stretch ends after it
  pub none_ends : (run : ℕ) → IsNextIn ends run None → false ≡ is_over runs run
  none_ends run none = sym (not_true (is_over runs run) (λ is.
      let later = on run (bound runs) (λ q has more less. none q has more) is in
      true≢false (sym later ∙ beyond runs (run + bound runs) (omega arith))))

  -- the run before the end of a stretch is over
  before_end : (e : ℕ) → contains nat_cmp ends e ≡ true → was_over runs e ≡ true
  before_end e has = was_true (is_over runs e) (was_over runs e) (sym (h.ended e) ∙ has)

  before_first : (f : ℕ) → contains nat_cmp firsts f ≡ true → was_over runs f ≡ false
  before_first f has = was_false (is_over runs f) (was_over runs f) (sym (h.begun f) ∙ has)

  -- one ends after it, and none begins before that
  ends_first : (run e : ℕ) → run < e → was_over runs e ≡ true → ((q : ℕ) → contains nat_cmp firsts q ≡ true → run < q → q < e → ⊥) → true ≡ is_over runs run
  ends_first run zero less was none = absurd (omega (arith, less))
  ends_first run (suc e) less was none = by (is_over runs run) refl
    where
      by : (v : Bool) → is_over runs run ≡ v → true ≡ v
      by true is = refl
      by false is =
          let there : run + (e - run) ≡ e = omega (arith, less) in
          let still = off run (e - run) (λ q has more up. none q has more (omega (arith, up, there))) is in
          absurd (true≢false (sym was ∙ subst (λ n. is_over runs n ≡ false) there still))

  pub only_ends : (run e : ℕ) → IsNextIn ends run (Some e) → IsNextIn firsts run None → true ≡ is_over runs run
  only_ends run e end none = ends_first run e end.0 (before_end e end.1) (λ q has more less. none q has more)

  begins_first : (run f : ℕ) → run < f → was_over runs f ≡ false → ((q : ℕ) → contains nat_cmp ends q ≡ true → run < q → q < f → ⊥) → false ≡ is_over runs run
  begins_first run zero less was none = absurd (omega (arith, less))
  begins_first run (suc f) less was none = by (is_over runs run) refl
    where
      by : (v : Bool) → is_over runs run ≡ v → false ≡ v
      by false is = refl
      by true is =
          let there : run + (f - run) ≡ f = omega (arith, less) in
          let still = on run (f - run) (λ q has more up. none q has more (omega (arith, up, there))) is in
          absurd (true≢false (sym (subst (λ n. is_over runs n ≡ true) there still) ∙ was))

  -- one ends after it, and another begins
  pub both_next : (run e f : ℕ) (v : Bool) → IsNextIn ends run (Some e) → IsNextIn firsts run (Some f) → (v ≡ true → e < f) → (v ≡ false → f ≤ e) → v ≡ is_over runs run
  both_next run e f true end first less more = ends_first run e end.0 (before_end e end.1) (λ q has later up.
      let least = first.2 q has later in let before = less refl in absurd (omega (arith, least, before, up)))
  both_next run e f false end first less more = begins_first run f first.0 (before_first f first.1) (λ q has later up.
      let least = end.2 q has later in let after = more refl in absurd (omega (arith, least, after, up)))

  ---- One more

  module _ (run : ℕ) where
    over_now : (n : ℕ) → is_over (runs ++ run ∷ []) n ≡ (is_over runs n || is_same run n)
    over_now n = over_last runs run n

    -- one that was over
    pub again : is_over runs run ≡ true → AreStretches firsts ends (runs ++ run ∷ [])
    again is = record {
      begun = λ n. h.begun n ∙ ap (λ v. v && not (was_over runs n)) (same n) ∙ ap (λ v. is_over (runs ++ run ∷ []) n && not v) (same_was n);
      ended = λ n. h.ended n ∙ ap (λ v. not v && was_over runs n) (same n) ∙ ap (λ v. not (is_over (runs ++ run ∷ []) n) && v) (same_was n);
    }
      where
        same : (n : ℕ) → is_over runs n ≡ is_over (runs ++ run ∷ []) n
        same n = by (is_same run n) refl ∙ sym (over_now n)
          where
            by : (v : Bool) → is_same run n ≡ v → is_over runs n ≡ (is_over runs n || v)
            by true own = ap (is_over runs) (sym (same_is run n own)) ∙ is ∙ sym (first_true (is_over runs n) true (ap (is_over runs) (sym (same_is run n own)) ∙ is))
            by false other = sym (or_false (is_over runs n))

        same_was : (n : ℕ) → was_over runs n ≡ was_over (runs ++ run ∷ []) n
        same_was zero = refl
        same_was (suc n) = same n

    module _ (out : is_over runs run ≡ false) (begins closes : Bool) (begins_is : begins ≡ not (contains nat_cmp ends run)) (closes_is : closes ≡ not (contains nat_cmp firsts (run + 1))) where
      next_is : run + 1 ≡ suc run
      next_is = omega arith

      -- whether the run before it is over
      old_end : contains nat_cmp ends run ≡ was_over runs run
      old_end = h.ended run ∙ ap (λ v. not v && was_over runs run) out

      old_first : contains nat_cmp firsts run ≡ false
      old_first = h.begun run ∙ ap (λ v. v && not (was_over runs run)) out

      -- whether the run after it is
      next_first : contains nat_cmp firsts (suc run) ≡ is_over runs (suc run)
      next_first = h.begun (suc run) ∙ ap (λ v. is_over runs (suc run) && not v) out ∙ yes (is_over runs (suc run))
        where
          yes : (b : Bool) → (b && true) ≡ b
          yes true = refl
          yes false = refl

      next_end : contains nat_cmp ends (suc run) ≡ false
      next_end = h.ended (suc run) ∙ ap (λ v. not (is_over runs (suc run)) && v) out ∙ no (not (is_over runs (suc run)))
        where
          no : (b : Bool) → (b && false) ≡ false
          no true = refl
          no false = refl

      begins_so : begins ≡ not (was_over runs run)
      begins_so = begins_is ∙ ap not old_end

      closes_so : closes ≡ not (is_over runs (suc run))
      closes_so = closes_is ∙ ap (λ n. not (contains nat_cmp firsts n)) next_is ∙ ap not next_first

      abbrev all : List ℕ
      all = runs ++ run ∷ []

      now_own : is_over all run ≡ true
      now_own = over_now run ∙ later (is_over runs run) (is_same run run) (same_itself run)
        where
          later : (a b : Bool) → b ≡ true → (a || b) ≡ true
          later true b h = refl
          later false b h = h

      now_other : (n : ℕ) → is_same run n ≡ false → is_over all n ≡ is_over runs n
      now_other n other = over_now n ∙ ap (λ v. is_over runs n || v) other ∙ or_false (is_over runs n)

      was_own : was_over all run ≡ was_over runs run
      was_own = by run refl
        where
          by : (n : ℕ) → run ≡ n → was_over all n ≡ was_over runs n
          by zero is = refl
          by (suc n) is = now_other n (not_same run n (λ same. absurd (omega (arith, is, same))))

      was_next : was_over all (suc run) ≡ true
      was_next = now_own

      was_other : (n : ℕ) → is_same (suc run) n ≡ false → was_over all n ≡ was_over runs n
      was_other zero other = refl
      was_other (suc n) other = now_other n (not_true (is_same run n) (λ own. true≢false (sym (subst (λ m. is_same (suc run) (suc m) ≡ true) (same_is run n own) (same_itself (suc run))) ∙ other)))

      ---- The stretches after it

      module _ (f1 f2 e1 e2 : BTreeSet ℕ)
          (puts_f : (q : ℕ) → contains nat_cmp f1 q ≡ cond (begins && is_same run q) true (contains nat_cmp firsts q))
          (puts_e : (q : ℕ) → contains nat_cmp e1 q ≡ cond (closes && is_same (run + 1) q) true (contains nat_cmp ends q))
          (takes_e : (q : ℕ) → contains nat_cmp e2 q ≡ cond (not begins && is_same run q) false (contains nat_cmp e1 q))
          (takes_f : (q : ℕ) → contains nat_cmp f2 q ≡ cond (not closes && is_same (run + 1) q) false (contains nat_cmp f1 q)) where
        first_of : (q : ℕ) (own next : Bool) → is_same run q ≡ own → is_same (run + 1) q ≡ next → contains nat_cmp f2 q ≡ cond (not closes && next) false (cond (begins && own) true (contains nat_cmp firsts q))
        first_of q own next o n = takes_f q ∙ ap (λ v. cond (not closes && v) false (contains nat_cmp f1 q)) n ∙ ap (λ v. cond (not closes && next) false v) (puts_f q ∙ ap (λ v. cond (begins && v) true (contains nat_cmp firsts q)) o)

        end_of : (q : ℕ) (own next : Bool) → is_same run q ≡ own → is_same (run + 1) q ≡ next → contains nat_cmp e2 q ≡ cond (not begins && own) false (cond (closes && next) true (contains nat_cmp ends q))
        end_of q own next o n = takes_e q ∙ ap (λ v. cond (not begins && v) false (contains nat_cmp e1 q)) o ∙ ap (λ v. cond (not begins && own) false v) (puts_e q ∙ ap (λ v. cond (closes && v) true (contains nat_cmp ends q)) n)

        -- at the run itself
        never : (c x : Bool) → cond (c && false) false x ≡ x
        never true x = refl
        never false x = refl

        never_put : (c x : Bool) → cond (c && false) true x ≡ x
        never_put true x = refl
        never_put false x = refl

        put_here : (b p : Bool) → b ≡ not p → cond (b && true) true false ≡ not p
        put_here true p is = is
        put_here false p is = is

        take_here : (b p : Bool) → b ≡ not p → cond (not b && true) false p ≡ false
        take_here true true is = absurd (true≢false is)
        take_here true false is = refl
        take_here false p is = refl

        take_there : (c o : Bool) → c ≡ not o → cond (not c && true) false o ≡ false
        take_there true true is = absurd (true≢false is)
        take_there true false is = refl
        take_there false o is = refl

        put_there : (c o : Bool) → c ≡ not o → cond (c && true) true false ≡ not o
        put_there true o is = is
        put_there false o is = is

        no_next : is_same (run + 1) run ≡ false
        no_next = not_same (run + 1) run (λ same. absurd (omega (arith, same)))

        no_own : is_same run (suc run) ≡ false
        no_own = not_same run (suc run) (λ same. absurd (omega (arith, same)))

        is_next : is_same (run + 1) (suc run) ≡ true
        is_next = ap (λ n. is_same n (suc run)) next_is ∙ same_itself (suc run)

        begun_own : contains nat_cmp f2 run ≡ (is_over all run && not (was_over all run))
        begun_own = first_of run true false (same_itself run) no_next ∙ never (not closes) (cond (begins && true) true (contains nat_cmp firsts run)) ∙ ap (λ v. cond (begins && true) true v) old_first ∙ put_here begins (was_over runs run) begins_so
            ∙ ap not (sym was_own) ∙ ap (λ v. v && not (was_over all run)) (sym now_own)

        ended_own : contains nat_cmp e2 run ≡ (not (is_over all run) && was_over all run)
        ended_own = end_of run true false (same_itself run) no_next ∙ ap (λ v. cond (not begins && true) false v) (never_put closes (contains nat_cmp ends run) ∙ old_end) ∙ take_here begins (was_over runs run) begins_so
            ∙ ap (λ v. not v && was_over all run) (sym now_own)

        begun_next : contains nat_cmp f2 (suc run) ≡ (is_over all (suc run) && not (was_over all (suc run)))
        begun_next = first_of (suc run) false true no_own is_next ∙ ap (λ v. cond (not closes && true) false v) (never_put begins (contains nat_cmp firsts (suc run)) ∙ next_first) ∙ take_there closes (is_over runs (suc run)) closes_so
            ∙ sym (none (is_over all (suc run))) ∙ ap (λ v. is_over all (suc run) && not v) (sym was_next)
          where
            none : (b : Bool) → (b && false) ≡ false
            none true = refl
            none false = refl

        ended_next : contains nat_cmp e2 (suc run) ≡ (not (is_over all (suc run)) && was_over all (suc run))
        ended_next = end_of (suc run) false true no_own is_next ∙ never (not begins) (cond (closes && true) true (contains nat_cmp ends (suc run))) ∙ ap (λ v. cond (closes && true) true v) next_end ∙ put_there closes (is_over runs (suc run)) closes_so
            ∙ ap not (sym (now_other (suc run) no_own)) ∙ sym (yes (not (is_over all (suc run)))) ∙ ap (λ v. not (is_over all (suc run)) && v) (sym was_next)
          where
            yes : (b : Bool) → (b && true) ≡ b
            yes true = refl
            yes false = refl

        module _ (q : ℕ) (own : is_same run q ≡ false) (next : is_same (suc run) q ≡ false) where
          other_next : is_same (run + 1) q ≡ false
          other_next = ap (λ n. is_same n q) next_is ∙ next

          begun_other : contains nat_cmp f2 q ≡ (is_over all q && not (was_over all q))
          begun_other = first_of q false false own other_next ∙ never (not closes) (cond (begins && false) true (contains nat_cmp firsts q)) ∙ never_put begins (contains nat_cmp firsts q) ∙ h.begun q
              ∙ ap (λ v. v && not (was_over runs q)) (sym (now_other q own)) ∙ ap (λ v. is_over all q && not v) (sym (was_other q next))

          ended_other : contains nat_cmp e2 q ≡ (not (is_over all q) && was_over all q)
          ended_other = end_of q false false own other_next ∙ never (not begins) (cond (closes && false) true (contains nat_cmp ends q)) ∙ never_put closes (contains nat_cmp ends q) ∙ h.ended q
              ∙ ap (λ v. not v && was_over runs q) (sym (now_other q own)) ∙ ap (λ v. not (is_over all q) && v) (sym (was_other q next))

        pub joined : AreStretches f2 e2 all
        joined = record { begun = λ q. begun_at q (is_same run q) refl; ended = λ q. ended_at q (is_same run q) refl }
          where
            begun_by : (q : ℕ) → is_same run q ≡ false → (v : Bool) → is_same (suc run) q ≡ v → contains nat_cmp f2 q ≡ (is_over all q && not (was_over all q))
            begun_by q own true next = subst (λ n. contains nat_cmp f2 n ≡ (is_over all n && not (was_over all n))) (same_is (suc run) q next) begun_next
            begun_by q own false next = begun_other q own next

            begun_at : (q : ℕ) (v : Bool) → is_same run q ≡ v → contains nat_cmp f2 q ≡ (is_over all q && not (was_over all q))
            begun_at q true own = subst (λ n. contains nat_cmp f2 n ≡ (is_over all n && not (was_over all n))) (same_is run q own) begun_own
            begun_at q false own = begun_by q own (is_same (suc run) q) refl

            ended_by : (q : ℕ) → is_same run q ≡ false → (v : Bool) → is_same (suc run) q ≡ v → contains nat_cmp e2 q ≡ (not (is_over all q) && was_over all q)
            ended_by q own true next = subst (λ n. contains nat_cmp e2 n ≡ (not (is_over all n) && was_over all n)) (same_is (suc run) q next) ended_next
            ended_by q own false next = ended_other q own next

            ended_at : (q : ℕ) (v : Bool) → is_same run q ≡ v → contains nat_cmp e2 q ≡ (not (is_over all q) && was_over all q)
            ended_at q true own = subst (λ n. contains nat_cmp e2 n ≡ (not (is_over all n) && was_over all n)) (same_is run q own) ended_own
            ended_at q false own = ended_by q own (is_same (suc run) q) refl

    -- what was put is taken back
    pub taken_back : (b : Bool) (f1 f2 : BTreeSet ℕ) → is_over runs run ≡ false → ((q : ℕ) → contains nat_cmp f1 q ≡ cond (b && is_same run q) true (contains nat_cmp firsts q))
        → ((q : ℕ) → contains nat_cmp f2 q ≡ cond (b && is_same run q) false (contains nat_cmp f1 q)) → (q : ℕ) → contains nat_cmp f2 q ≡ contains nat_cmp firsts q
    taken_back b f1 f2 out puts takes q = takes q ∙ ap (λ v. cond (b && is_same run q) false v) (puts q) ∙ by (b && is_same run q) refl
      where
        own_of : (x y : Bool) → (x && y) ≡ true → y ≡ true
        own_of true y e = e
        own_of false y e = absurd (true≢false (sym e))

        by : (v : Bool) → (b && is_same run q) ≡ v → cond v false (cond v true (contains nat_cmp firsts q)) ≡ contains nat_cmp firsts q
        by true is = sym (subst (λ n. contains nat_cmp firsts n ≡ false) (same_is run q (own_of b (is_same run q) is)) (h.begun run ∙ ap (λ v. v && not (was_over runs run)) out))
        by false is = refl

  -- other sets of the same numbers
  pub alike : (f e : BTreeSet ℕ) → ((q : ℕ) → contains nat_cmp f q ≡ contains nat_cmp firsts q) → ((q : ℕ) → contains nat_cmp e q ≡ contains nat_cmp ends q) → AreStretches f e runs
  alike f e same_f same_e = record { begun = λ n. same_f n ∙ h.begun n; ended = λ n. same_e n ∙ h.ended n }

-- no stretch, if no run is over
pub none_over : (f e : BTreeSet ℕ) → f.keys ≡ [] → e.keys ≡ [] → AreStretches f e []
none_over f e no_f no_e = record { begun = λ n. ap (λ ks. list_any (λ k. is_eq (nat_cmp n k)) ks) no_f; ended = λ n. ap (λ ks. list_any (λ k. is_eq (nat_cmp n k)) ks) no_e ∙ sym (nothing n) }
  where
    nothing : (n : ℕ) → was_over [] n ≡ false
    nothing zero = refl
    nothing (suc n) = refl
