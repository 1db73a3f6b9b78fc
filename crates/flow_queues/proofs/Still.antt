-- What the keys of runs that are over leave, and that what is posted is so by what they leave.
use Rattle.std.proofs.Common.{◌≡◌, ◌≤◌, ◌+◌, ◌||◌, ◌&&◌, not, ℕ, Bool, true, false, cond, List, [], ◌∷◌, ◌++◌, filter, Some, None, slice_get, refl, sym, ap, ◌∙◌, subst, arith, true≢false}
use Rattle.std.specs.Prelude.{IfSome}
use Rattle.std.specs.List.{list_any}
use Rattle.std.specs.Ordering.{nat_cmp, is_eq, is_gt, ordering_then}
use Rattle.std.specs.Cmp.{nat_cmp_is}
use Rattle.std.proofs.Common.{Ordering, Less, Equal, Greater}
use Rattle.std.proofs.lemmas.Cmp.{ranked, nat_cmp_total, tied_itself}
use Rattle.std.specs.BTreeSet.{BTreeSet, contains, IsKeyInRange, IsKeyRangeOf}
use Rattle.std.specs.declared.ops.Bound.TheVariants.{Excluded, Included}
use Rattle.flow_base.specs.declared.task.Task.{Task}
use Rattle.flow_base.specs.Keys.{Key, key_of}
use Rattle.flow_queues.specs.Posting.{HasOthers, HasStill, IsFirstOf, apart_of, has_key, is_key, is_of, key_cmp, names_of}
use Rattle.flow_queues.proofs.Once.{key_is, off}

---- Numbers

not_below : (x y : ℕ) → x ≤ y → is_gt (nat_cmp x y) ≡ false
not_below x y less = by (nat_cmp x y) refl
  where
    by : (o : Ordering) → o ≡ nat_cmp x y → is_gt o ≡ false
    by Less is = refl
    by Equal is = refl
    by Greater is = absurd (let more = ranked x y Greater is in omega (arith, more, less))

pub same_number : (x y : ℕ) → is_eq (nat_cmp x y) ≡ true → x ≡ y
same_number x y h = by (nat_cmp x y) refl h
  where
    by : (o : Ordering) → o ≡ nat_cmp x y → is_eq o ≡ true → x ≡ y
    by Less is h = off h
    by Equal is h = ranked x y Equal is
    by Greater is h = off h

or_false : (a : Bool) → (a || false) ≡ a
or_false true = refl
or_false false = refl

-- a run is the one of a list
pub own_run : (run n : ℕ) → is_of (run ∷ []) n ≡ true → n ≡ run
own_run run n is = sym (same_number run n (sym (or_false (is_eq (nat_cmp run n))) ∙ is))

pub is_own : (run n : ℕ) → n ≡ run → is_of (run ∷ []) n ≡ true
is_own run n same = or_false (is_eq (nat_cmp run n)) ∙ ap (λ m. is_eq (nat_cmp run m)) same ∙ ap is_eq (tied_itself nat_cmp_total run)

---- The keys of a run stand next to each other

pub forward : (run : ℕ) → is_gt (key_cmp (run, 0, 0) (run + 1, 0, 0)) ≡ false
forward run = rw (sym (nat_cmp_is run (run + 1) Less (omega arith))) refl

from_start : (run : ℕ) (k : Key) → is_gt (key_cmp (run, 0, 0) k) ≡ false → run ≤ k.0
from_start run k h = by (nat_cmp run k.0) refl h
  where
    by : (o : Ordering) → o ≡ nat_cmp run k.0 → is_gt (ordering_then (ordering_then o (nat_cmp 0 k.1)) (nat_cmp 0 k.2)) ≡ false → run ≤ k.0
    by Less is h = let less = ranked run k.0 Less is in omega (arith, less)
    by Equal is h = let same = ranked run k.0 Equal is in omega (arith, same)
    by Greater is h = absurd (true≢false h)

never_less : (x : ℕ) → nat_cmp x 0 ≡ Less → ⊥
never_less x h = let less = ranked x 0 Less (sym h) in absurd (omega (arith, less))

none_less : (o p : Ordering) → (o ≡ Less → ⊥) → (p ≡ Less → ⊥) → ordering_then o p ≡ Less → ⊥
none_less Less p one two h = one refl
none_less Equal p one two h = two h
none_less Greater p one two h = off (ap is_gt (sym h) ∙ refl)

to_end : (run : ℕ) (k : Key) → key_cmp k (run + 1, 0, 0) ≡ Less → k.0 ≤ run
to_end run k h = by (nat_cmp k.0 (run + 1)) refl h
  where
    by : (o : Ordering) → o ≡ nat_cmp k.0 (run + 1) → ordering_then (ordering_then o (nat_cmp k.1 0)) (nat_cmp k.2 0) ≡ Less → k.0 ≤ run
    by Less is h = let less = ranked k.0 (run + 1) Less is in omega (arith, less)
    by Equal is h = absurd (none_less (nat_cmp k.1 0) (nat_cmp k.2 0) (never_less k.1) (never_less k.2) h)
    by Greater is h = absurd (true≢false (ap is_gt h))

neither : (o p : Ordering) → is_gt o ≡ false → is_gt p ≡ false → is_gt (ordering_then o p) ≡ false
neither Less p h i = refl
neither Equal p h i = i
neither Greater p h i = absurd (true≢false h)

within_start : (run : ℕ) (q : Key) → q.0 ≡ run → is_gt (key_cmp (run, 0, 0) q) ≡ false
within_start run q own =
    neither (ordering_then (nat_cmp run q.0) (nat_cmp 0 q.1)) (nat_cmp 0 q.2)
    (neither (nat_cmp run q.0) (nat_cmp 0 q.1) (not_below run q.0 (omega (arith, own))) (not_below 0 q.1 (omega arith))) (not_below 0 q.2 (omega arith))

within_end : (run : ℕ) (q : Key) → q.0 ≡ run → key_cmp q (run + 1, 0, 0) ≡ Less
within_end run q own = rw (sym (nat_cmp_is q.0 (run + 1) Less (omega (arith, own)))) refl

module _ (s : BTreeSet Key) (r : List Key) (run : ℕ) (h : IsKeyRangeOf key_cmp (Included (run, 0, 0)) (Excluded (run + 1, 0, 0)) s r) where
  pub first_none : r ≡ [] → IsFirstOf run s None
  first_none none q own = h.5 none q (within_start run q own, within_end run q own)

  pub first_some : (k : Key) (t : List Key) → r ≡ k ∷ t → IsFirstOf run s (Some k)
  first_some k t is =
      let first = subst (λ xs. IfSome (slice_get xs 0) (IsKeyInRange key_cmp (Included (run, 0, 0)) (Excluded (run + 1, 0, 0)) s)) is h.1 in
      let low = from_start run k first.0.0 in
      let high = to_end run k first.0.1 in
      (omega (arith, low, high), first.1)

---- What is let go of

and_false : (a : Bool) → (a && false) ≡ false
and_false true = refl
and_false false = refl

and_true : (a : Bool) → (a && true) ≡ a
and_true true = refl
and_true false = refl

-- one key of the run fewer
pub one_fewer : (now next : BTreeSet Key) (k : Key) (run : ℕ) (q : Key) → k.0 ≡ run → contains key_cmp next q ≡ cond (is_key k q) false (contains key_cmp now q)
    → (contains key_cmp next q && not (is_of (run ∷ []) q.0)) ≡ (contains key_cmp now q && not (is_of (run ∷ []) q.0))
one_fewer now next k run q own drops = ap (λ v. v && not (is_of (run ∷ []) q.0)) drops ∙ by (is_key k q) refl
  where
    by : (v : Bool) → is_key k q ≡ v → (cond v false (contains key_cmp now q) && not (is_of (run ∷ []) q.0)) ≡ (contains key_cmp now q && not (is_of (run ∷ []) q.0))
    by true is =
        let its : is_of (run ∷ []) q.0 ≡ true = is_own run q.0 (ap (λ (x : Key). x.0) (sym (key_is k q is)) ∙ own) in
        sym (ap (λ v. contains key_cmp now q && not v) its ∙ and_false (contains key_cmp now q))
    by false is = refl

-- none is left
pub none_left : (old now : BTreeSet Key) (run : ℕ) (q : Key) → IsFirstOf run now None → (contains key_cmp now q && not (is_of (run ∷ []) q.0)) ≡ (contains key_cmp old q && not (is_of (run ∷ []) q.0))
    → contains key_cmp now q ≡ (contains key_cmp old q && not (is_of (run ∷ []) q.0))
none_left old now run q none same = by (is_of (run ∷ []) q.0) refl ∙ same
  where
    by : (v : Bool) → is_of (run ∷ []) q.0 ≡ v → contains key_cmp now q ≡ (contains key_cmp now q && not v)
    by true is = none q (own_run run q.0 is) ∙ sym (and_false (contains key_cmp now q))
    by false is = sym (and_true (contains key_cmp now q))

-- and those of another run
pub gone_next : (c x y : Bool) → ((c && not x) && not y) ≡ (c && not (x || y))
gone_next false x y = refl
gone_next true true y = refl
gone_next true false y = refl

-- of no run none is let go of
pub none_gone : (now : BTreeSet Key) (q : Key) → contains key_cmp now q ≡ (contains key_cmp now q && not (is_of [] q.0))
none_gone now q = sym (and_true (contains key_cmp now q))

---- A set of the keys that may still come

pub none_still : (gone : List ℕ) (s : BTreeSet Key) → s.keys ≡ [] → HasStill gone s []
none_still gone s none q = ap (λ ks. list_any (λ k. is_eq (key_cmp q k)) ks) none

-- the same of another set of the same keys
pub still_alike : (gone : List ℕ) (s n : BTreeSet Key) (ts : List Task) → ((q : Key) → contains key_cmp n q ≡ contains key_cmp s q) → HasStill gone s ts → HasStill gone n ts
still_alike gone s n ts same h q = same q ∙ h q

pub of_both : (runs more : List ℕ) (n : ℕ) → is_of (runs ++ more) n ≡ (is_of runs n || is_of more n)
of_both [] more n = refl
of_both (r ∷ runs) more n = ap (λ b. is_eq (nat_cmp r n) || b) (of_both runs more n) ∙ by (is_eq (nat_cmp r n)) (is_of runs n) (is_of more n)
  where
    by : (a b c : Bool) → (a || (b || c)) ≡ ((a || b) || c)
    by true b c = refl
    by false b c = refl

-- and when the keys of further runs are let go of
pub still_without : (gone runs : List ℕ) (s n : BTreeSet Key) (ts : List Task) → ((q : Key) → contains key_cmp n q ≡ (contains key_cmp s q && not (is_of runs q.0))) → HasStill gone s ts → HasStill (gone ++ runs) n ts
still_without gone runs s n ts drops h q =
    drops q ∙ ap (λ v. v && not (is_of runs q.0)) (h q) ∙ gone_next (has_key ts q) (is_of gone q.0) (is_of runs q.0) ∙ ap (λ v. has_key ts q && not v) (sym (of_both gone runs q.0))

-- of other runs it knows all that was posted
pub others_still : (gone : List ℕ) (s : BTreeSet Key) (ts : List Task) → HasStill gone s ts → HasOthers gone s ts
others_still gone s ts h q out = h q ∙ ap (λ v. has_key ts q && not v) out ∙ and_true (has_key ts q)

---- Tasks of other runs

apart_first : (a b : Bool) → (a || b) ≡ false → (a ≡ false) × (b ≡ false)
apart_first true b e = absurd (true≢false e)
apart_first false b e = (refl, e)

-- if none is of these runs, none is left out
pub all_apart : (gone : List ℕ) (ts : List Task) → names_of gone ts ≡ false → apart_of gone ts ≡ ts
all_apart gone [] apart = refl
all_apart gone (t ∷ ts) apart =
    let own = apart_first (is_of gone t.run) (names_of gone ts) apart in
    ap (λ v. cond (not v) (t ∷ apart_of gone ts) (apart_of gone ts)) own.0 ∙ ap (λ us. t ∷ us) (all_apart gone ts own.1)

-- of no run none is
pub none_named : (ts : List Task) → names_of [] ts ≡ false
none_named [] = refl
none_named (t ∷ ts) = none_named ts
