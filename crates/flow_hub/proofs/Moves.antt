-- Each step at the table keeps its rule.
use Rattle.std.proofs.Common.{◌≡◌, ◌≢◌, ◌⊎◌, ℕ, zero, suc, ◌+◌, ◌<◌, ◌≤◌, ◌==◌, if◌then◌else◌, Option, Some, None, List, [], ◌∷◌, ◌++◌, length, set, slice_index, Bool, true, false, true≢false, inl, inr, refl, sym, ap, ◌∙◌, subst, ⊎_elim, arith}
use Rattle.std.proofs.lemmas.Bool.Decides.{nat_tests}
use prog.Atomic.{either}
use mathlib.Core.Option.{none, some, some-ne-none, some-injective}
use lib.ListN.{get_elem?}
use Rattle.atomic_table.specs.Table.{Me, step, Allows, Enters, Splits, Joins, keeps, opening}
use Rattle.atomic_table.proofs.Lists.{at_set, at_snoc}
use Rattle.flow_hub.specs.declared.known.HubFacts.{HubFacts}
use Rattle.flow_hub.specs.declared.seats.Sight.{Sight}
use Rattle.flow_hub.specs.Knowing.{nothing, IsBefore, IsSamePart, with_member}
use Rattle.flow_hub.specs.Seating.{opener, nobody, Fits, IsApart, AreNumbered, Kept, Knows, owed_in, AreOwed, owed_after, IsOwing, added, adding, admitting, Adds, Admits, Looks, lent, keeps_left, handed_back, hands_left, handed_over, keeping, seeing}
use Rattle.flow_hub.proofs.Growing.{before_self, before_trans, before_all, same_part, part_of, enrolls_on, enrolls_part, grows_by, part_by}

off : false ≡ true → ⊥
off e = true≢false (sym e)

abbrev pick : Bool → ℕ → ℕ → ℕ
pick true x y = x
pick false x y = y

pick_then : (p : Bool) (x y : ℕ) → p ≡ true → x ≡ pick p x y
pick_then true x y e = refl
pick_then false x y e = absurd (off e)

pick_else : (p : Bool) (x y i : ℕ) → i ≡ y → (p ≡ true → ⊥) → i ≡ pick p x y
pick_else true x y i e never = absurd (never refl)
pick_else false x y i e never = e

no_number : (n : ℕ) → None ≡ Some n → ⊥
no_number n e = subst (λ o. here o) e tt
  where
    here : Option ℕ → Type 0
    here None = Unit {0}
    here (Some _) = ⊥

number_is : (m n : ℕ) → Some m ≡ Some n → m ≡ n
number_is m n e = ap there e
  where
    there : Option ℕ → ℕ
    there None = m
    there (Some k) = k

-- what stood at one seat stands at another
abbrev moved : (ℕ → ℕ) → ℕ → ℕ → ℕ → ℕ
moved seat by to n = if seat n == by then to else seat n

moved_here : (seat : ℕ → ℕ) (by to n : ℕ) → seat n ≡ by → moved seat by to n ≡ to
moved_here seat by to n is = let same : (seat n == by) ≡ true = grind (arith, nat_tests) in rw same refl

moved_else : (seat : ℕ → ℕ) (by to n : ℕ) → seat n ≢ by → moved seat by to n ≡ seat n
moved_else seat by to n away = let other : (seat n == by) ≡ false = grind (arith, nat_tests) in rw other refl

-- one number more, at this seat
abbrev more : (ℕ → ℕ) → ℕ → ℕ → ℕ → ℕ
more seat m by n = if n == m then by else seat n

more_here : (seat : ℕ → ℕ) (m by n : ℕ) → m ≡ n → more seat m by n ≡ by
more_here seat m by n is = let same : (n == m) ≡ true = grind (arith, nat_tests) in rw same refl

more_else : (seat : ℕ → ℕ) (m by n : ℕ) → n < m → more seat m by n ≡ seat n
more_else seat m by n less = let other : (n == m) ≡ false = grind (arith, nat_tests) in rw other refl

-- at the end of a longer list stands what was added, and its number is the old length
at_end : {A : Type 0} (xs : List A) (w u : A) (j : ℕ) → get_elem? (xs ++ w ∷ []) j ≡ some u → (get_elem? xs j ≡ some u) ⊎ ((j ≡ length xs) × (w ≡ u))
at_end [] w u zero e = inr (refl, some-injective _ _ e)
at_end [] w u (suc j) e = absurd (some-ne-none u (sym e))
at_end (v ∷ xs) w u zero e = inl e
at_end (v ∷ xs) w u (suc j) e = ⊎_elim (λ t. inl t) (λ (t : (j ≡ length xs) × (w ≡ u)). inr (ap suc t.0, t.1)) (at_end xs w u j e)

---- The numbers of submitters

-- what one seat must show of its number
abbrev IsSeat : ℕ → (ℕ → ℕ) → ℕ → Sight → Type 0
IsSeat members seat by v = ((n : ℕ) → v.member ≡ Some n → (n < members) × (seat n ≡ by)) × IsApart v

without : (members : ℕ) (seat : ℕ → ℕ) (by : ℕ) (w : Sight) → w.member ≡ None → IsSeat members seat by w
without members seat by w none' = ((λ n is. absurd (no_number n (sym none' ∙ is))), (λ n m is. absurd (no_number n (sym none' ∙ is))))

met_none : (w : Sight) → w.met ≡ None → IsApart w
met_none w none' n is = absurd (no_number n (sym none' ∙ is))

seats_set : (members : ℕ) (seat : ℕ → ℕ) (views : List Sight) (by : ℕ) (w : Sight) → ((j : ℕ) (u : Sight) → j ≢ by → get_elem? views j ≡ some u → IsSeat members seat j u) → IsSeat members seat by w
    → (j : ℕ) (u : Sight) → get_elem? (set views by w) j ≡ some u → IsSeat members seat j u
seats_set members seat views by w others mine j u e =
    ⊎_elim
    (λ (x : (j ≡ by) × (w ≡ u)). subst (λ (y : ℕ × Sight). IsSeat members seat y.0 y.1) (λ i. (sym x.0 i, x.1 i)) mine)
    (λ (x : (j ≢ by) × (get_elem? views j ≡ some u)). others j u x.0 x.1)
    (at_set views by j w u e)

-- the seat has the number that it had, and more submitters may be known of
numbers_stay : (m m' by : ℕ) (views : List Sight) (v w : Sight) → get_elem? views by ≡ some v → w.member ≡ v.member → (IsApart v → IsApart w) → m ≤ m' → AreNumbered m views → AreNumbered m' (set views by w)
numbers_stay m m' by views v w at same apart le (seat, all) = (
  seat,
  seats_set m' seat views by w
      (λ j u away e. let f = all j u e in ((λ n is. let t = f.0 n is in (grown n t.0, t.1)), f.1))
      (let f = all by v at in ((λ n is. let t = f.0 n (sym same ∙ is) in (grown n t.0, t.1)), apart f.1)),
)
  where
    grown : (n : ℕ) → n < m → n < m'
    grown n less = omega arith

-- the seat has no number
numbers_drop : (m by : ℕ) (views : List Sight) (w : Sight) → w.member ≡ None → AreNumbered m views → AreNumbered m (set views by w)
numbers_drop m by views w none' (seat, all) = (seat, seats_set m seat views by w (λ j u away e. all j u e) (without m seat by w none'))

-- a further seat without a number
numbers_more : (m : ℕ) (views : List Sight) (w : Sight) → w.member ≡ None → AreNumbered m views → AreNumbered m (views ++ w ∷ [])
numbers_more m views w none' (seat, all) = (seat, λ j u e. ⊎_elim (λ t. all j u t) (λ (t : (j ≡ length views) × (w ≡ u)). without m seat j u (ap (λ (x : Sight). x.member) (sym t.1) ∙ none')) (at_end views w u j e))

-- the number goes to a further seat
numbers_move : (m by : ℕ) (views : List Sight) (v left right : Sight) → get_elem? views by ≡ some v → left.member ≡ None → right.member ≡ v.member → right.met ≡ None
    → AreNumbered m views → AreNumbered m (set views by left ++ right ∷ [])
numbers_move m by views v left right at none' same unmet (seat, all) = (moved seat by to, λ j u e. ⊎_elim (λ t. others j u t) (λ (t : (j ≡ to) × (right ≡ u)). subst (λ (y : ℕ × Sight). IsSeat m (moved seat by to) y.0 y.1) (λ i. (sym t.0 i, t.1 i)) mine) (at_end (set views by left) right u j e))
  where
    to : ℕ
    to = length (set views by left)

    mine : IsSeat m (moved seat by to) to right
    mine = ((λ n is. let t = (all by v at).0 n (sym same ∙ is) in (t.0, moved_here seat by to n t.1)), met_none right unmet)

    others : (j : ℕ) (u : Sight) → get_elem? (set views by left) j ≡ some u → IsSeat m (moved seat by to) j u
    others = seats_set m (moved seat by to) views by left (λ j u away e. let f = all j u e in ((λ n is. let t = f.0 n is in (t.0, moved_else seat by to n (λ q. away (sym t.1 ∙ q)) ∙ t.1)), f.1)) (without m (moved seat by to) by left none')

-- the seat has the number that nobody had
numbers_next : (m m' by : ℕ) (views : List Sight) (w : Sight) → w.member ≡ Some m → w.met ≡ None → m < m' → AreNumbered m views → AreNumbered m' (set views by w)
numbers_next m m' by views w named unmet less (seat, all) = (
  more seat m by,
  seats_set m' (more seat m by) views by w
      (λ j u away e. let f = all j u e in ((λ n is. let t = f.0 n is in (grown n t.0, more_else seat m by n t.0 ∙ t.1)), f.1))
      ((λ n is. let same = number_is m n (sym named ∙ is) in (subst (λ x. x < m') same less, more_here seat m by n same)), met_none w unmet),
)
  where
    grown : (n : ℕ) → n < m → n < m'
    grown n below = omega arith

-- the seat has met another one, which is spent
numbers_meet : (m by other : ℕ) (views : List Sight) (v u : Sight) → get_elem? views by ≡ some v → other ≢ by → get_elem? (set views by (lent v u)) other ≡ some u
    → AreNumbered m views → AreNumbered m (set (set views by (lent v u)) other nobody)
numbers_meet m by other views v u at away there (seat, all) = numbers_drop m other (set views by (lent v u)) nobody refl (seat, seats_set m seat views by (lent v u) (λ j x apart e. all j x e) ((all by v at).0, two))
  where
    theirs : IsSeat m seat other u
    theirs = ⊎_elim (λ (t : (other ≡ by) × (lent v u ≡ u)). absurd (away t.0)) (λ (t : (other ≢ by) × (get_elem? views other ≡ some u)). all other u t.1) (at_set views by other (lent v u) u there)

    two : IsApart (lent v u)
    two n is mine = away (sym (theirs.0 n is).1 ∙ ((all by v at).0 n mine).1)

---- The steps

nobody_fits : (a b c : ℕ) (now : HubFacts) (by : ℕ) → Fits a b c now by nobody
nobody_fits a b c now by = ((λ k. absurd (off k)), (λ p. absurd (off p)), (λ g. absurd (off g)), before_all now)

fits_set : (a b c : ℕ) (now : HubFacts) (views : List Sight) (by : ℕ) (w : Sight) → ((j : ℕ) (u : Sight) → j ≢ by → get_elem? views j ≡ some u → Fits a b c now j u) → Fits a b c now by w
    → (j : ℕ) (u : Sight) → get_elem? (set views by w) j ≡ some u → Fits a b c now j u
fits_set a b c now views by w others mine j u e =
    ⊎_elim
    (λ (x : (j ≡ by) × (w ≡ u)). subst (λ (y : ℕ × Sight). Fits a b c now y.0 y.1) (λ i. (sym x.0 i, x.1 i)) mine)
    (λ (x : (j ≢ by) × (get_elem? views j ≡ some u)). others j u x.0 x.1)
    (at_set views by j w u e)

---- What is owed

owed_set : (views : List Sight) (by : ℕ) (v w : Sight) → get_elem? views by ≡ some v → owed_in (set views by w) + v.owed ≡ owed_in views + w.owed
owed_set [] zero v w at = absurd (some-ne-none v (sym at))
owed_set [] (suc by) v w at = absurd (some-ne-none v (sym at))
owed_set (x ∷ xs) zero v w at = let same : x.owed ≡ v.owed = ap (λ (y : Sight). y.owed) (some-injective _ _ at) in omega (arith, same)
owed_set (x ∷ xs) (suc by) v w at = let rest = owed_set xs by v w at in omega (arith, rest)

owed_end : (views : List Sight) (w : Sight) → owed_in (views ++ w ∷ []) ≡ owed_in views + w.owed
owed_end [] w = omega arith
owed_end (x ∷ xs) w = let rest = owed_end xs w in omega (arith, rest)

owed_one : (views : List Sight) (by : ℕ) (v : Sight) → get_elem? views by ≡ some v → v.owed ≤ owed_in views
owed_one views by v at = let rest = owed_set views by v nobody at in omega (arith, rest)

-- as much is owed to the seat
owes_still : (now : HubFacts) (views : List Sight) (by : ℕ) (v w : Sight) → get_elem? views by ≡ some v → w.owed ≡ v.owed → AreOwed now views → AreOwed now (set views by w)
owes_still now views by v w at same h = let one = owed_set views by v w at in omega (arith, one, same, h)

-- a further seat to which nothing is owed
owes_more : (now : HubFacts) (views : List Sight) (w : Sight) → w.owed ≡ 0 → AreOwed now views → AreOwed now (views ++ w ∷ [])
owes_more now views w none' h = let one = owed_end views w in omega (arith, one, none', h)

-- what is owed to one seat is owed to a further one
owes_moved : (now : HubFacts) (views : List Sight) (by : ℕ) (v w u : Sight) → get_elem? views by ≡ some v → w.owed + u.owed ≡ v.owed → AreOwed now views → AreOwed now (set views by w ++ u ∷ [])
owes_moved now views by v w u at same h =
    let one = owed_set views by v w at in
    let two = owed_end (set views by w) u in
    omega (arith, one, two, same, h)

-- what is owed to two seats is owed to one of them
owes_both : (now : HubFacts) (views : List Sight) (by other : ℕ) (v w u : Sight) → get_elem? views by ≡ some v → get_elem? (set views by w) other ≡ some u → w.owed ≡ v.owed + u.owed
    → AreOwed now views → AreOwed now (set (set views by w) other nobody)
owes_both now views by other v w u at there same h =
    let one = owed_set views by v w at in
    let two = owed_set (set views by w) other u nobody there in
    omega (arith, one, two, same, h)

-- what is owed behind a store
owes_after : (now k : HubFacts) (views : List Sight) (by : ℕ) (v w : Sight) → get_elem? views by ≡ some v → IsOwing v.owed now k → w.owed ≡ owed_after v.owed now k → AreOwed now views → AreOwed k (set views by w)
owes_after now k views by v w at owing is h = let one = owed_set views by v w at in omega (arith, one, owing, is, h)

-- no more is owed to a seat than what wasn't fetched
owed_below : (now all : HubFacts) (views : List Sight) (by : ℕ) (v : Sight) → get_elem? views by ≡ some v → all ≡ now → AreOwed now views → v.owed + all.fetched ≤ length all.asked
owed_below now all views by v at same h =
    let one = owed_one views by v at in
    let asked = ap (λ (l : HubFacts). length l.asked) same in
    let fetched = ap (λ (l : HubFacts). l.fetched) same in
    omega (arith, one, asked, fetched, h)

-- where nothing was asked for and nothing fetched
pub owing_same : (n : ℕ) (old new : HubFacts) → new.asked ≡ old.asked → new.fetched ≡ old.fetched → IsOwing n old new
owing_same n old new asked fetched = let long = ap length asked in omega (arith, long, fetched)

pub owed_same : (n : ℕ) (old new : HubFacts) → new.asked ≡ old.asked → new.fetched ≡ old.fetched → owed_after n old new ≡ n
owed_same n old new asked fetched = let long = ap length asked in omega (arith, long, fetched)

-- where one more was asked for
pub owing_more : (n : ℕ) (old new : HubFacts) → length new.asked ≡ length old.asked + 1 → new.fetched ≡ old.fetched → IsOwing n old new
owing_more n old new asked fetched = omega (arith, asked, fetched)

pub owed_more : (n : ℕ) (old new : HubFacts) → length new.asked ≡ length old.asked + 1 → new.fetched ≡ old.fetched → owed_after n old new ≡ n + 1
owed_more n old new asked fetched = omega (arith, asked, fetched)

-- where one more was fetched
pub owing_less : (n : ℕ) (old new : HubFacts) → 1 ≤ n → new.asked ≡ old.asked → new.fetched ≡ old.fetched + 1 → IsOwing n old new
owing_less n old new some' asked fetched = let long = ap length asked in omega (arith, some', long, fetched)

pub owed_less : (n : ℕ) (old new : HubFacts) → 1 ≤ n → new.asked ≡ old.asked → new.fetched ≡ old.fetched + 1 → owed_after n old new + 1 ≡ n
owed_less n old new some' asked fetched = let long = ap length asked in omega (arith, some', long, fetched)

-- what the seat that asked is left with, behind the three steps under the lock
pub hands_back : (v w x y z : Sight) (k : HubFacts) → v.owed ≡ 0 → x ≡ lent v w → y ≡ adding x k → z ≡ handed_back y → z ≡ seeing w.pubs w.gives (owed_after w.owed v.all k) k
hands_back v w x y z k none' e f h =
    let here : v.owed + w.owed ≡ w.owed = omega (arith, none') in
    h ∙ (ap handed_back (f ∙ ap (λ u. adding u k) e) ∙ ap (λ n. seeing w.pubs w.gives (owed_after n v.all k) k) here)

pub seeing_by : (pubs gives : Bool) (m n : ℕ) (k : HubFacts) (v : Sight) → v ≡ seeing pubs gives m k → m ≡ n → v ≡ seeing pubs gives n k
seeing_by pubs gives m n k v e f = e ∙ ap (λ i. seeing pubs gives i k) f

pub begins : Kept (opening (0 ∷ []) [] opener)
begins = (0, 0, 0, nothing, refl, one, ((λ n. 0), unnamed), refl)
  where
    unnamed : (by : ℕ) (v : Sight) → get_elem? (opener ∷ []) by ≡ some v → IsSeat 0 (λ n. 0) by v
    unnamed zero v e = subst (IsSeat 0 (λ n. 0) 0) (some-injective _ _ e) (without 0 (λ n. 0) 0 opener refl)
    unnamed (suc by) v e = absurd (some-ne-none v (sym e))

    one : (by : ℕ) (v : Sight) → get_elem? (opener ∷ []) by ≡ some v → Fits 0 0 0 nothing by v
    one zero v e = subst (Fits 0 0 0 nothing 0) (some-injective _ _ e) ((λ _. (refl, refl)), (λ _. (refl, same_part nothing)), (λ _. (refl, refl)), before_self nothing)
    one (suc by) v e = absurd (some-ne-none v (sym e))

-- what a store under the lock leaves in the seat, and what it tells
abbrev Leaves : Sight → Option ℕ → HubFacts → ℕ → Me HubFacts Sight → Type 0
Leaves v member k n w = (w ≡ (added v member k, [])) × Knows v

-- where the seat keeps, and publishes unless the publisher's part stays, and gives out unless what is given out stays, all that is
-- known may grow, as far as the rule of the numbers holds
stores : (by old new : ℕ) (v : Sight) (k : HubFacts) (member : Option ℕ) → v.keeps ≡ true → (v.pubs ≡ true) ⊎ IsSamePart k v.all → (v.gives ≡ true) ⊎ (k.given ≡ v.all.given)
    → IsBefore v.all k → length v.all.history ≡ old → length k.history ≡ new → IsOwing v.owed v.all k
    → ((views : List Sight) → get_elem? views by ≡ some v → AreNumbered v.all.members views → AreNumbered k.members (set views by (added v member k)))
    → Allows Kept 0 by (v, []) 0 (λ n. either (n == old) new n) (Leaves v member k)
stores by old new v k member keeping may may_give grows was is owing numbered s h homes at small =
    let a = h.0 in
    let b = h.1 in
    let c = h.2 in
    let now = h.3 in
    let mine = h.5 by v at in
    let same : v.all ≡ now = (mine.0 keeping).1 in
    let w = added v member k in
    let n = slice_index s.words 0 in
    let found : n ≡ old = ap (λ ws. slice_index ws 0) h.4 ∙ (ap (λ m. length m.history) (sym same) ∙ was) in
    let stored : either (n == old) new n ≡ new = either_same n old new found in
    let words : set s.words 0 (either (n == old) new n) ≡ length k.history ∷ [] = ap (λ ws. set ws 0 (either (n == old) new n)) h.4 ∙ ap (λ m. m ∷ []) (stored ∙ sym is) in
    let others : (j : ℕ) (u : Sight) → j ≢ by → get_elem? s.views j ≡ some u → Fits a b c k j u =
    λ j u apart e.
    let f = h.5 j u e in (
      (λ kept. absurd (apart ((f.0 kept).0 ∙ sym (mine.0 keeping).0))),
      (λ pub'. ⊎_elim (λ both. absurd (apart ((f.1 pub').0 ∙ sym (mine.1 both).0)))
          (λ (part : IsSamePart k v.all).
          ((f.1 pub').0, (part_of u.was now v.all k (f.1 pub').1 same part))) may),
      (λ gives. ⊎_elim (λ both. absurd (apart ((f.2 gives).0 ∙ sym (mine.2 both).0)))
          (λ (part : k.given ≡ v.all.given).
          ((f.2 gives).0, ((f.2 gives).1 ∙ (ap (λ (m : HubFacts). m.given) (sym same) ∙ sym part)))) may_give),
      before_trans u.was now k f.3 (subst (λ m. IsBefore m k) same grows),
    ) in (
      w,
      keeps,
      tt,
      (
        a,
        b,
        c,
        k,
        words,
        fits_set a b c k s.views by w others ((λ kept. ((mine.0 kept).0, refl)), (λ pub'. ((mine.1 pub').0, same_part k)), (λ gives. ((mine.2 gives).0, refl)), before_self k),
        numbered s.views at (subst (λ (m : HubFacts). AreNumbered m.members s.views) (sym same) h.6),
        owes_after v.all k s.views by v w at owing refl (subst (λ (m : HubFacts). AreOwed m s.views) (sym same) h.7),
      ),
      (
        refl,
        (
          subst (λ m. IsBefore v.was m) (sym same) mine.3,
          (λ pub'. subst (λ m. IsSamePart v.was m) (sym same) (mine.1 pub').1),
          (λ gives. (mine.2 gives).1 ∙ ap (λ (m : HubFacts). m.given) (sym same)),
          owed_below now v.all s.views by v at same h.7,
        ),
      ),
    )
  where
    either_same : (n old new : ℕ) → n ≡ old → either (n == old) new n ≡ new
    either_same n old new e = subst (λ m. either (n == m) new n ≡ new) e (here n new)
      where
        here : (n new : ℕ) → either (n == n) new n ≡ new
        here n new = let t : (n == n) ≡ true = grind (arith, nat_tests) in ap (λ t'. either t' new n) t

-- the seat has the number that it had
pub adds : (by old new : ℕ) (v : Sight) (k : HubFacts) → v.keeps ≡ true → (v.pubs ≡ true) ⊎ IsSamePart k v.all → (v.gives ≡ true) ⊎ (k.given ≡ v.all.given)
    → IsBefore v.all k → length v.all.history ≡ old → length k.history ≡ new → IsOwing v.owed v.all k
    → Allows Kept 0 by (v, []) 0 (λ n. either (n == old) new n) (Adds (step 0 0 old new (some k)) (v, []))
adds by old new v k keeping may may_give grows was is owing =
    stores by old new v k v.member keeping may may_give grows was is owing (λ views at all. numbers_stay v.all.members k.members by views v (adding v k) at refl (λ _. met_none (adding v k) refl) grows.members all)

-- the seat has the number of one submitter more
pub admits : (by places : ℕ) (v : Sight) (k : HubFacts) → v.keeps ≡ true → k ≡ with_member v.all → length k.history ≡ places
    → Allows Kept 0 by (v, []) 0 (λ n. either (n == places) places n) (Admits (step 0 0 places places (some k)) (v, []))
admits by places v k keeping next is =
    let more' : k.members ≡ v.all.members + 1 = ap (λ (l : HubFacts). l.members) next in
    stores by places places v k (Some v.all.members) keeping
    (inr (part_by v.all v.all (with_member v.all) k refl next (enrolls_part v.all)))
    (inr (ap (λ (l : HubFacts). l.given) next))
    (grows_by v.all v.all (with_member v.all) k refl next (enrolls_on v.all))
    (ap (λ (l : HubFacts). length l.history) (sym next) ∙ is)
    is
    (owing_same v.owed v.all k (ap (λ (l : HubFacts). l.asked) next) (ap (λ (l : HubFacts). l.fetched) next))
    (λ views at all. numbers_next v.all.members k.members by views (admitting v k) refl refl (omega (arith, more')) all)

-- a load sees all
pub looks : (by : ℕ) (v : Sight) → Allows Kept 0 by (v, []) 0 (λ n. n) (Looks (step 0 0 0 0 none) (v, []))
looks by v s h homes at small =
    let a = h.0 in
    let b = h.1 in
    let c = h.2 in
    let now = h.3 in
    let mine = h.5 by v at in
    let w : Sight = record { keeps = v.keeps; pubs = v.pubs; gives = v.gives; member = v.member; met = v.met; owed = v.owed; all = v.all; was = now } in
    let n = slice_index s.words 0 in
    let found : n ≡ length now.history = ap (λ ws. slice_index ws 0) h.4 in
    let words : set s.words 0 n ≡ length now.history ∷ [] = ap (λ ws. set ws 0 n) h.4 ∙ ap (λ m. m ∷ []) found in (
      w,
      keeps,
      tt,
      (
        a,
        b,
        c,
        now,
        words,
        fits_set a b c now s.views by w (λ j u apart e. h.5 j u e) (mine.0, (λ pub'. ((mine.1 pub').0, same_part now)), (λ gives. ((mine.2 gives).0, refl)), before_self now),
        numbers_stay now.members now.members by s.views v w at refl (λ f. f) (omega arith) h.6,
        owes_still now s.views by v w at refl h.7,
      ),
      (refl, refl, refl, refl, mine.3, sym found, refl, refl, refl, (h.6.1 by v at).1),
    )

-- a new seat knows nothing yet
pub enters : (after : ℕ → Sight → Type 0) → ((n : ℕ) → after n nobody) → Enters Kept 0 0 after
enters after told s h homes small =
    (nobody, (h.0, h.1, h.2, h.3, h.4, (λ j u e. ⊎_elim (h.5 j u) (λ (x : nobody ≡ u). subst (Fits h.0 h.1 h.2 h.3 j) x (nobody_fits h.0 h.1 h.2 h.3 j)) (at_snoc s.views nobody u j e)), numbers_more h.3.members s.views nobody refl h.6, owes_more h.3 s.views nobody refl h.7), told (slice_index s.words 0))

-- the keeper takes in what another saw, and whether it publishes and gives out
pub lends : (by : ℕ) (v : Sight) (other : ℕ) (u : Sight) → Joins Kept by v other u (lent v u) nobody
lends by v other u s h at apart there =
    let a = h.0 in
    let b = h.1 in
    let c = h.2 in
    let now = h.3 in
    let w = lent v u in
    let mine = h.5 by v at in
    let theirs : Fits a b c now other u = ⊎_elim (λ (t : (other ≡ by) × (w ≡ u)). absurd (apart t.0)) (λ (t : (other ≢ by) × (get_elem? s.views other ≡ some u)). h.5 other u t.1) (at_set s.views by other w u there) in
    let d = pick u.pubs by b in
    let e' = pick u.gives by c in
    let first : (j : ℕ) (x : Sight) → j ≢ other → get_elem? (set s.views by w) j ≡ some x → Fits a d e' now j x =
    λ j x away e. fits_set' a d e' now s.views by w other j x away
    (λ i y away' e''. let f = h.5 i y e'' in (
      f.0,
      (λ p. (pick_else u.pubs by b i (f.1 p).0 (λ q. away' ((f.1 p).0 ∙ sym (theirs.1 q).0)), (f.1 p).1)),
      (λ g. (pick_else u.gives by c i (f.2 g).0 (λ q. away' ((f.2 g).0 ∙ sym (theirs.2 q).0)), (f.2 g).1)),
      f.3,
    ))
    (mine.0, (λ p. (pick_then u.pubs by b p, (theirs.1 p).1)), (λ g. (pick_then u.gives by c g, (theirs.2 g).1)), theirs.3) e in (
      a,
      d,
      e',
      now,
      h.4,
      fits_set a d e' now (set s.views by w) other nobody first (nobody_fits a d e' now other),
      numbers_meet now.members by other s.views v u at apart there h.6,
      owes_both now s.views by other v w u at there refl h.7,
    )
  where
    fits_set' : (a b c : ℕ) (now : HubFacts) (views : List Sight) (by : ℕ) (w : Sight) (other j : ℕ) (x : Sight) → j ≢ other
        → ((i : ℕ) (y : Sight) → i ≢ other → get_elem? views i ≡ some y → Fits a b c now i y) → Fits a b c now by w → get_elem? (set views by w) j ≡ some x → Fits a b c now j x
    fits_set' a b c now views by w other j x away rest mine e =
        ⊎_elim
        (λ (t : (j ≡ by) × (w ≡ x)). subst (λ (y : ℕ × Sight). Fits a b c now y.0 y.1) (λ i. (sym t.0 i, t.1 i)) mine)
        (λ (t : (j ≢ by) × (get_elem? views j ≡ some x)). rest j x away t.1)
        (at_set views by j w x e)

-- what the keeper was lent goes back, with what is known now
pub backs : (by : ℕ) (v : Sight) → Splits Kept by v (keeps_left v) (handed_back v)
backs by v s h at =
    let a = h.0 in
    let b = h.1 in
    let c = h.2 in
    let now = h.3 in
    let w = keeps_left v in
    let views' = set s.views by w in
    let mine = h.5 by v at in
    let d = pick v.pubs (length views') b in
    let e' = pick v.gives (length views') c in
    let others : (j : ℕ) (u : Sight) → get_elem? views' j ≡ some u → Fits a d e' now j u =
    fits_set a d e' now s.views by w
    (λ j u apart e. let f = h.5 j u e in (
      f.0,
      (λ p. (pick_else v.pubs (length views') b j (f.1 p).0 (λ q. apart ((f.1 p).0 ∙ sym (mine.1 q).0)), (f.1 p).1)),
      (λ g. (pick_else v.gives (length views') c j (f.2 g).0 (λ q. apart ((f.2 g).0 ∙ sym (mine.2 q).0)), (f.2 g).1)),
      f.3,
    ))
    (mine.0, (λ p. absurd (off p)), (λ g. absurd (off g)), before_all now) in (
      a,
      d,
      e',
      now,
      h.4,
      (λ j u e.
          ⊎_elim (others j u)
          (λ (t : (j ≡ length views') × (handed_back v ≡ u)).
          subst (λ (y : ℕ × Sight). Fits a d e' now y.0 y.1) (λ i. (sym t.0 i, t.1 i)) (
            (λ k. absurd (off k)),
            (λ p. (pick_then v.pubs (length views') b p, (mine.1 p).1)),
            (λ g. (pick_then v.gives (length views') c g, (mine.2 g).1)),
            mine.3,
          ))
          (at_end views' (handed_back v) u j e)),
      numbers_more now.members views' (handed_back v) refl (numbers_drop now.members by s.views w refl h.6),
      owes_moved now s.views by v w (handed_back v) at (omega arith) h.7,
    )

-- giving out goes to a seat of its own, with the number
pub parts : (by : ℕ) (v : Sight) → Splits Kept by v (hands_left v) (handed_over v)
parts by v s h at =
    let a = h.0 in
    let b = h.1 in
    let c = h.2 in
    let now = h.3 in
    let w = hands_left v in
    let views' = set s.views by w in
    let mine = h.5 by v at in
    let d = pick v.gives (length views') c in
    let others : (j : ℕ) (u : Sight) → get_elem? views' j ≡ some u → Fits a b d now j u =
    fits_set a b d now s.views by w
    (λ j u apart e. let f = h.5 j u e in (
      f.0,
      f.1,
      (λ g. (pick_else v.gives (length views') c j (f.2 g).0 (λ q. apart ((f.2 g).0 ∙ sym (mine.2 q).0)), (f.2 g).1)),
      f.3,
    ))
    (mine.0, mine.1, (λ g. absurd (off g)), mine.3) in (
      a,
      b,
      d,
      now,
      h.4,
      (λ j u e.
          ⊎_elim (others j u)
          (λ (t : (j ≡ length views') × (handed_over v ≡ u)).
          subst (λ (y : ℕ × Sight). Fits a b d now y.0 y.1) (λ i. (sym t.0 i, t.1 i)) (
            (λ k. absurd (off k)),
            (λ p. absurd (off p)),
            (λ g. (pick_then v.gives (length views') c g, (mine.2 g).1)),
            mine.3,
          ))
          (at_end views' (handed_over v) u j e)),
      numbers_move now.members by s.views v w (handed_over v) at refl refl refl h.6,
      owes_moved now s.views by v w (handed_over v) at (omega arith) h.7,
    )

-- what a seat learns that has met another one
pub apart_of : (v u x w : Sight) → x ≡ lent v u → w.member ≡ x.member → w.met ≡ x.met → IsApart w → (n : ℕ) → u.member ≡ Some n → v.member ≢ Some n
apart_of v u x w is member met apart n theirs mine =
    apart n (met ∙ (ap (λ (y : Sight). y.met) is ∙ theirs)) (member ∙ (ap (λ (y : Sight). y.member) is ∙ mine))

-- what a seat that was told has seen
pub was_of : (v : Sight) (pubs gives : Bool) {n : ℕ} (k : HubFacts) → v ≡ seeing pubs gives n k → v.was ≡ k
was_of v pubs gives k e = ap (λ (w : Sight). w.was) e

-- what the seat under the lock knows
pub all_of : (v : Sight) (k : HubFacts) → v ≡ keeping k → v.all ≡ k
all_of v k e = ap (λ (w : Sight). w.all) e
