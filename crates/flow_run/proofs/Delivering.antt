-- The first task that an input is for.
use Rattle.std.proofs.Common.{◌≡◌, ℕ, zero, suc, ◌+◌, ◌<◌, ◌≤◌, add-one, List, [], ◌∷◌, ◌++◌, length, get_or, take, drop, map, refl, sym, ap, ◌∙◌, subst, arith, Option, Some, None, Bool, true, false}
use Rattle.std.specs.Prelude.{nat_eq, if◌then◌else◌}
use Rattle.flow_base.specs.Syntax.{Bytes, Block}
use Rattle.flow_base.specs.declared.value.Kind.{Kind}
use Rattle.flow_model.specs.Rest.{Rest, Done, Then, Beside, OnActivity, is_done, rest_else, rest_of, Raised}
use Rattle.flow_base.specs.declared.event.Cause.TheVariants.{ActivityFailed}
use Rattle.flow_nodes.specs.Links.{block_at}
use Rattle.flow_model.specs.Deliver.{map_rest, replaced, target_of, when_completed, when_failed, when_fired}
use Rattle.flow_nodes.specs.declared.table.Listing.{Listing}
use Rattle.flow_run.specs.Marks.{within, Mark, One, Many, besides, put, onto, first_rest, or_rests, with_tail, map_rests}
use Rattle.flow_run.specs.Flat.{blocks_of, is_task, late_at, task_rest, mark_by, mark_of, marks_of, shown_doing}
use Rattle.flow_run.specs.Waiting.{IsFirst, NoneOf, on_activity, on_timer, going_on, late_in, list_of, target_in, waits_itself}
use Rattle.flow_run.specs.declared.cell.Cell.{Cell}
use Rattle.flow_run.specs.declared.cell.Doing.{Doing}
use Rattle.flow_run.specs.declared.cell.Doing.TheVariants as doing
use Rattle.flow_run.proofs.Forest.{onto_append, within_open}
use Rattle.flow_run.proofs.Replacing.{join_replaces, replaces, task_replaces_none, within_replaces}
use Rattle.flow_run.proofs.Steps.{cut_cell}
use Rattle.flow_run.proofs.Walking.{task_mark}

maps_twice : (g h : List Rest → List Rest) (o : Option (List Rest)) → map_rests g (map_rests h o) ≡ map_rests (λ q. g (h q)) o
maps_twice g h None = refl
maps_twice g h (Some r) = refl

maps_same : (o : Option (List Rest)) → map_rests (λ q. q) o ≡ o
maps_same None = refl
maps_same (Some r) = refl

pub marks_take : (ls : List Listing) (cs : List Cell) (i : ℕ) → marks_of ls (take i cs) ≡ take i (marks_of ls cs)
marks_take ls [] zero = refl
marks_take ls [] (suc i) = refl
marks_take ls (c ∷ cs) zero = refl
marks_take ls (c ∷ cs) (suc i) = ap (λ (ms : List Mark). mark_of ls c ∷ ms) (marks_take ls cs i)

-- one more cell that isn't it
pub none_more : (p : Doing → Bool) (cs : List Cell) (i : ℕ) (c : Cell) → i < length cs → c ≡ get_or cs i c → NoneOf p (take i cs) → p c.doing ≡ false → NoneOf p (take (i + 1) cs)
none_more p cs i c h e n f = subst (λ j. NoneOf p (take j cs)) (sym (add-one i)) (none_suc cs i c h e n f)
  where
    none_suc : (cs : List Cell) (i : ℕ) (c : Cell) → i < length cs → c ≡ get_or cs i c → NoneOf p (take i cs) → p c.doing ≡ false → NoneOf p (take (suc i) cs)
    none_suc [] i c h e n f = absurd (omega (arith, h))
    none_suc (x ∷ cs) zero c h e n f = (ap (λ (y : Cell). p y.doing) (sym e) ∙ f, tt)
    none_suc (x ∷ cs) (suc i) c h e n f = (n.0, none_suc cs i c (omega (arith, h)) e n.1 f)

pub none_all_of : (p : Doing → Bool) (cs : List Cell) (i : ℕ) → length cs ≤ i → NoneOf p (take i cs) → NoneOf p cs
none_all_of p [] i h n = tt
none_all_of p (c ∷ cs) zero h n = absurd (omega (arith, h))
none_all_of p (c ∷ cs) (suc i) h n = (n.0, none_all_of p cs i (omega (arith, h)) n.1)

-- A leaf that is replaced: the function, the test that a task's own part is such a leaf, and that no other is.
module _ (f : Rest → Option Rest) (e : f Done ≡ None) (ls : List Listing) (p : Doing → Bool) (none : (d : Doing) → p d ≡ false → replaced f (shown_doing ls d) ≡ None) where
  kept : (bs : List Block) (d : Doing) (rs : List Rest) → p d ≡ false → replaces f (within bs (shown_doing ls d) ∷ rs) ≡ map_rests (put (One (within bs (shown_doing ls d)))) (replaces f rs)
  kept bs d rs h = task_replaces_none f (within bs (shown_doing ls d)) rs (within_replaces f bs (shown_doing ls d) ∙ ap (map_rest (within bs)) (none d h))

  passed : (bs : List Block) (d : Doing) (rs : List Rest) → p d ≡ false → replaces f (put (mark_by ls bs d) rs) ≡ map_rests (put (mark_by ls bs d)) (replaces f rs)
  passed bs doing.Over rs h = kept bs doing.Over rs h
  passed bs doing.Empty rs h = kept bs doing.Empty rs h
  passed bs (doing.OnActivity n x k o) rs h = kept bs (doing.OnActivity n x k o) rs h
  passed bs (doing.OnTimer n) rs h = kept bs (doing.OnTimer n) rs h
  passed bs (doing.OnSignal x s) rs h = kept bs (doing.OnSignal x s) rs h
  passed bs (doing.OnSignalFor x s n b) rs h = kept bs (doing.OnSignalFor x s n b) rs h
  passed bs (doing.Raised w t) rs h = kept bs (doing.Raised w t) rs h
  passed bs (doing.Join n k) rs h = join_replaces f e bs n k rs

  pub none_replaced : (cs : List Cell) (rs : List Rest) → NoneOf p cs → replaces f (onto (marks_of ls cs) rs) ≡ map_rests (onto (marks_of ls cs)) (replaces f rs)
  none_replaced [] rs n = sym (maps_same (replaces f rs))
  none_replaced (c ∷ cs) rs n =
      passed (blocks_of ls c.places.items) c.doing (onto (marks_of ls cs) rs) n.0
      ∙ ap (map_rests (put (mark_of ls c))) (none_replaced cs rs n.1)
      ∙ maps_twice (put (mark_of ls c)) (onto (marks_of ls cs)) (replaces f rs)

  -- the first task that is such a leaf
  pub first_replaced : (cs : List Cell) (i : ℕ) (c : Cell) (r : Rest) → i < length cs → c ≡ get_or cs i c → NoneOf p (take i cs) → is_task c.doing ≡ true → replaced f (shown_doing ls c.doing) ≡ Some r
      → replaces f (onto (marks_of ls cs) []) ≡ Some (onto (take i (marks_of ls cs)) (within (blocks_of ls c.places.items) r ∷ onto (drop (i + 1) (marks_of ls cs)) []))
  first_replaced cs i c r h g n k is =
      let ms = marks_of ls cs in
      let bs = blocks_of ls c.places.items in
      let rs = onto (drop (i + 1) ms) [] in
      let here : replaces f (put (mark_of ls c) rs) ≡ Some (within bs r ∷ rs) =
      ap (λ (m : Mark). replaces f (put m rs)) (task_mark ls bs c.doing k)
      ∙ ap (λ (o : Option Rest). or_rests (with_tail rs o) (map_rests (λ qs. within bs (shown_doing ls c.doing) ∷ qs) (replaces f rs))) (within_replaces f bs (shown_doing ls c.doing) ∙ ap (map_rest (within bs)) is) in
      ap (λ (xs : List Mark). replaces f (onto xs [])) (cut_cell ls cs i c h g)
      ∙ ap (replaces f) (onto_append (take i ms) (mark_of ls c ∷ drop (i + 1) ms) [])
      ∙ ap (λ (xs : List Mark). replaces f (onto xs (put (mark_of ls c) rs))) (sym (marks_take ls cs i))
      ∙ none_replaced (take i cs) (put (mark_of ls c) rs) n
      ∙ ap (map_rests (onto (marks_of ls (take i cs)))) here
      ∙ ap (λ (xs : List Mark). Some (onto xs (within bs r ∷ rs))) (marks_take ls cs i)

-- of one rest
abbrev pub firsts : Option (List Rest) → Option Rest
firsts None = None
firsts (Some rs) = Some (first_rest rs)

pub whole_replaced : (f : Rest → Option Rest) (rs : List Rest) → f Done ≡ None → length rs ≤ 1 → replaced f (first_rest rs) ≡ firsts (replaces f rs)
whole_replaced f [] e h = e
whole_replaced f (r ∷ []) e h = by (replaced f r)
  where
    by : (o : Option Rest) → o ≡ firsts (or_rests (with_tail [] o) None)
    by None = refl
    by (Some q) = refl
whole_replaced f (r ∷ q ∷ rs) e h = absurd (omega (arith, h))

-- the tests are those of the functions
pub no_activity : (n : ℕ) (ls : List Listing) (d : Doing) → on_activity n d ≡ false → replaced (when_completed n) (shown_doing ls d) ≡ None
no_activity n ls doing.Over h = refl
no_activity n ls doing.Empty h = refl
no_activity n ls (doing.OnActivity m x k o) h = rw h
no_activity n ls (doing.OnTimer m) h = refl
no_activity n ls (doing.OnSignal x s) h = refl
no_activity n ls (doing.OnSignalFor x s m b) h = refl
no_activity n ls (doing.Raised w t) h = refl
no_activity n ls (doing.Join m k) h = refl

pub no_failure : (n : ℕ) (text : Bytes) (ls : List Listing) (d : Doing) → on_activity n d ≡ false → replaced (when_failed n text) (shown_doing ls d) ≡ None
no_failure n text ls doing.Over h = refl
no_failure n text ls doing.Empty h = refl
no_failure n text ls (doing.OnActivity m x k o) h = rw h
no_failure n text ls (doing.OnTimer m) h = refl
no_failure n text ls (doing.OnSignal x s) h = refl
no_failure n text ls (doing.OnSignalFor x s m b) h = refl
no_failure n text ls (doing.Raised w t) h = refl
no_failure n text ls (doing.Join m k) h = refl

pub no_timer : (n : ℕ) (ls : List Listing) (d : Doing) → on_timer n d ≡ false → replaced (when_fired n) (shown_doing ls d) ≡ None
no_timer n ls doing.Over h = refl
no_timer n ls doing.Empty h = refl
no_timer n ls (doing.OnActivity m x k o) h = refl
no_timer n ls (doing.OnTimer m) h = rw h
no_timer n ls (doing.OnSignal x s) h = refl
no_timer n ls (doing.OnSignalFor x s m b) h = rw h
no_timer n ls (doing.Raised w t) h = refl
no_timer n ls (doing.Join m k) h = refl

-- The target of an activity's value.
abbrev pub or_target : Option (Bytes × Kind) → Option (Bytes × Kind) → Option (Bytes × Kind)
or_target None o = o
or_target (Some x) o = Some x

abbrev pub targets : ℕ → List Rest → Option (Bytes × Kind)
targets n [] = None
targets n (r ∷ rs) = or_target (target_of n r) (targets n rs)

or_twice : (a b c : Option (Bytes × Kind)) → or_target (or_target a b) c ≡ or_target a (or_target b c)
or_twice None b c = refl
or_twice (Some x) b c = refl

or_same : (a b : Option (Bytes × Kind)) → elim a [ None ↦ b | Some x ↦ Some x ] ≡ or_target a b
or_same None b = refl
or_same (Some x) b = refl

or_none : (a : Option (Bytes × Kind)) → or_target a None ≡ a
or_none None = refl
or_none (Some x) = refl

within_targets : (n : ℕ) (bs : List Block) (r : Rest) → target_of n (within bs r) ≡ target_of n r
within_targets n [] r = refl
within_targets n (b ∷ bs) r = within_targets n bs r

besides_targets : (n k : ℕ) (rs : List Rest) → or_target (target_of n (besides k rs)) (targets n (drop k rs)) ≡ targets n rs
besides_targets n zero rs = refl
besides_targets n (suc k) [] = refl
besides_targets n (suc k) (r ∷ rs) =
    ap (λ o. or_target o (targets n (drop k rs))) (or_same (target_of n r) (target_of n (besides k rs)))
    ∙ or_twice (target_of n r) (target_of n (besides k rs)) (targets n (drop k rs))
    ∙ ap (or_target (target_of n r)) (besides_targets n k rs)

not_here : (n m : ℕ) (x : Bytes) (k : Kind) → nat_eq m n ≡ false → ◌≡◌ {A = Option (Bytes × Kind)} (if nat_eq m n then Some (x, k) else None) None
not_here n m x k h = rw h

passed_target : (n : ℕ) (ls : List Listing) (bs : List Block) (d : Doing) (rs : List Rest) → on_activity n d ≡ false → targets n (put (mark_by ls bs d) rs) ≡ targets n rs
passed_target n ls bs doing.Over rs h = ap (λ o. or_target o (targets n rs)) (within_targets n bs _)
passed_target n ls bs doing.Empty rs h = ap (λ o. or_target o (targets n rs)) (within_targets n bs _)
passed_target n ls bs (doing.OnActivity m x k o) rs h = ap (λ o. or_target o (targets n rs)) (within_targets n bs _ ∙ not_here n m x k h)
passed_target n ls bs (doing.OnTimer m) rs h = ap (λ o. or_target o (targets n rs)) (within_targets n bs _)
passed_target n ls bs (doing.OnSignal x s) rs h = ap (λ o. or_target o (targets n rs)) (within_targets n bs _)
passed_target n ls bs (doing.OnSignalFor x s m b) rs h = ap (λ o. or_target o (targets n rs)) (within_targets n bs _)
passed_target n ls bs (doing.Raised w t) rs h = ap (λ o. or_target o (targets n rs)) (within_targets n bs _)
passed_target n ls bs (doing.Join m k) rs h =
    ap (λ o. or_target o (targets n (drop m rs))) (within_targets n bs (besides m rs)) ∙ besides_targets n m rs

pub none_targets : (n : ℕ) (ls : List Listing) (cs : List Cell) (rs : List Rest) → NoneOf (on_activity n) cs → targets n (onto (marks_of ls cs) rs) ≡ targets n rs
none_targets n ls [] rs h = refl
none_targets n ls (c ∷ cs) rs h = passed_target n ls (blocks_of ls c.places.items) c.doing (onto (marks_of ls cs) rs) h.0 ∙ none_targets n ls cs rs h.1

pub whole_target : (n : ℕ) (rs : List Rest) → length rs ≤ 1 → target_of n (first_rest rs) ≡ targets n rs
whole_target n [] h = refl
whole_target n (r ∷ []) h = sym (or_none (target_of n r))
whole_target n (r ∷ q ∷ rs) h = absurd (omega (arith, h))

-- what a wait on this activity has
pub target_here : (n : ℕ) (ls : List Listing) (d : Doing) → on_activity n d ≡ true → target_of n (shown_doing ls d) ≡ target_in d
target_here n ls doing.Over h = cc
target_here n ls doing.Empty h = cc
target_here n ls (doing.OnActivity m x k o) h = rw h
target_here n ls (doing.OnTimer m) h = cc
target_here n ls (doing.OnSignal x s) h = cc
target_here n ls (doing.OnSignalFor x s m b) h = cc
target_here n ls (doing.Raised w t) h = cc
target_here n ls (doing.Join m k) h = cc

pub first_target : (n : ℕ) (ls : List Listing) (cs : List Cell) (i : ℕ) (c : Cell) (x : Bytes × Kind) → i < length cs → c ≡ get_or cs i c → NoneOf (on_activity n) (take i cs) → is_task c.doing ≡ true → on_activity n c.doing ≡ true → target_in c.doing ≡ Some x
    → targets n (onto (marks_of ls cs) []) ≡ Some x
first_target n ls cs i c x h g none k is t =
    let ms = marks_of ls cs in
    let bs = blocks_of ls c.places.items in
    let rs = onto (drop (i + 1) ms) [] in
    ap (λ (xs : List Mark). targets n (onto xs [])) (cut_cell ls cs i c h g)
    ∙ ap (targets n) (onto_append (take i ms) (mark_of ls c ∷ drop (i + 1) ms) [])
    ∙ ap (λ (xs : List Mark). targets n (onto xs (put (mark_of ls c) rs))) (sym (marks_take ls cs i))
    ∙ none_targets n ls (take i cs) (put (mark_of ls c) rs) none
    ∙ ap (λ (m : Mark). targets n (put m rs)) (task_mark ls bs c.doing k)
    ∙ ap (λ o. or_target o (targets n rs)) (within_targets n bs (shown_doing ls c.doing) ∙ target_here n ls c.doing is ∙ t)

-- what waits by itself is a task that isn't over
pub waits_task : (d : Doing) → waits_itself d ≡ true → is_task d ≡ true
waits_task doing.Over h = cc
waits_task doing.Empty h = cc
waits_task (doing.OnActivity m x k o) h = refl
waits_task (doing.OnTimer m) h = refl
waits_task (doing.OnSignal x s) h = cc
waits_task (doing.OnSignalFor x s m b) h = refl
waits_task (doing.Raised w t) h = cc
waits_task (doing.Join m k) h = cc

waits_doing : (ls : List Listing) (d : Doing) → waits_itself d ≡ true → is_done (shown_doing ls d) ≡ false
waits_doing ls doing.Over h = cc
waits_doing ls doing.Empty h = cc
waits_doing ls (doing.OnActivity m x k o) h = refl
waits_doing ls (doing.OnTimer m) h = refl
waits_doing ls (doing.OnSignal x s) h = cc
waits_doing ls (doing.OnSignalFor x s m b) h = refl
waits_doing ls (doing.Raised w t) h = cc
waits_doing ls (doing.Join m k) h = cc

pub waits_open : (ls : List Listing) (c : Cell) → waits_itself c.doing ≡ true → is_done (task_rest ls c) ≡ false
waits_open ls c h = within_open (blocks_of ls c.places.items) (shown_doing ls c.doing) (waits_doing ls c.doing h)

pub activity_waits : (n : ℕ) (d : Doing) → on_activity n d ≡ true → waits_itself d ≡ true
activity_waits n doing.Over h = cc
activity_waits n doing.Empty h = cc
activity_waits n (doing.OnActivity m x k o) h = refl
activity_waits n (doing.OnTimer m) h = cc
activity_waits n (doing.OnSignal x s) h = cc
activity_waits n (doing.OnSignalFor x s m b) h = cc
activity_waits n (doing.Raised w t) h = cc
activity_waits n (doing.Join m k) h = cc

pub timer_waits : (n : ℕ) (d : Doing) → on_timer n d ≡ true → waits_itself d ≡ true
timer_waits n doing.Over h = cc
timer_waits n doing.Empty h = cc
timer_waits n (doing.OnActivity m x k o) h = cc
timer_waits n (doing.OnTimer m) h = refl
timer_waits n (doing.OnSignal x s) h = cc
timer_waits n (doing.OnSignalFor x s m b) h = refl
timer_waits n (doing.Raised w t) h = cc
timer_waits n (doing.Join m k) h = cc

-- what becomes of a task's own part
pub completed_becomes : (n : ℕ) (ls : List Listing) (d : Doing) → on_activity n d ≡ true → replaced (when_completed n) (shown_doing ls d) ≡ Some Done
completed_becomes n ls doing.Over h = cc
completed_becomes n ls doing.Empty h = cc
completed_becomes n ls (doing.OnActivity m x k o) h = rw h
completed_becomes n ls (doing.OnTimer m) h = cc
completed_becomes n ls (doing.OnSignal x s) h = cc
completed_becomes n ls (doing.OnSignalFor x s m b) h = cc
completed_becomes n ls (doing.Raised w t) h = cc
completed_becomes n ls (doing.Join m k) h = cc

pub failed_becomes : (n : ℕ) (text : Bytes) (ls : List Listing) (d : Doing) → on_activity n d ≡ true → replaced (when_failed n text) (shown_doing ls d) ≡ Some (going_on ls (late_in d) (doing.Raised ActivityFailed text))
failed_becomes n text ls doing.Over h = cc
failed_becomes n text ls doing.Empty h = cc
failed_becomes n text ls (doing.OnActivity m x k None) h = rw h
failed_becomes n text ls (doing.OnActivity m x k (Some l)) h = rw h
failed_becomes n text ls (doing.OnTimer m) h = cc
failed_becomes n text ls (doing.OnSignal x s) h = cc
failed_becomes n text ls (doing.OnSignalFor x s m b) h = cc
failed_becomes n text ls (doing.Raised w t) h = cc
failed_becomes n text ls (doing.Join m k) h = cc

pub fired_becomes : (n : ℕ) (ls : List Listing) (d : Doing) → on_timer n d ≡ true → replaced (when_fired n) (shown_doing ls d) ≡ Some (going_on ls (late_in d) doing.Over)
fired_becomes n ls doing.Over h = cc
fired_becomes n ls doing.Empty h = cc
fired_becomes n ls (doing.OnActivity m x k o) h = cc
fired_becomes n ls (doing.OnTimer m) h = rw h
fired_becomes n ls (doing.OnSignal x s) h = cc
fired_becomes n ls (doing.OnSignalFor x s m b) h = rw h
fired_becomes n ls (doing.Raised w t) h = cc
fired_becomes n ls (doing.Join m k) h = cc

-- the rest of a run in which the first task that is such a leaf goes on as this, and the rest of one in which none is
pub replaced_at : (f : Rest → Option Rest) → f Done ≡ None → (ls : List Listing) (p : Doing → Bool) → ((d : Doing) → p d ≡ false → replaced f (shown_doing ls d) ≡ None)
    → (cs ds : List Cell) (i : ℕ) (c : Cell) (r : Rest) → i < length cs → c ≡ get_or cs i c → NoneOf p (take i cs) → is_task c.doing ≡ true → replaced f (shown_doing ls c.doing) ≡ Some r → length (onto (marks_of ls cs) []) ≤ 1
    → onto (marks_of ls ds) [] ≡ onto (take i (marks_of ls cs)) (within (blocks_of ls c.places.items) r ∷ onto (drop (i + 1) (marks_of ls cs)) [])
    → replaced f (first_rest (onto (marks_of ls cs) [])) ≡ Some (first_rest (onto (marks_of ls ds) []))
replaced_at f e ls p none cs ds i c r h g n k is one shows =
    whole_replaced f (onto (marks_of ls cs) []) e one
    ∙ ap firsts (first_replaced f e ls p none cs i c r h g n k is)
    ∙ ap (λ (rs : List Rest). Some (first_rest rs)) (sym shows)

pub none_at_all : (f : Rest → Option Rest) → f Done ≡ None → (ls : List Listing) (p : Doing → Bool) → ((d : Doing) → p d ≡ false → replaced f (shown_doing ls d) ≡ None)
    → (cs : List Cell) → NoneOf p cs → length (onto (marks_of ls cs) []) ≤ 1 → replaced f (first_rest (onto (marks_of ls cs) [])) ≡ None
none_at_all f e ls p none cs n one =
    whole_replaced f (onto (marks_of ls cs) []) e one ∙ ap firsts (none_replaced f e ls p none cs [] n)

pub no_target : (n : ℕ) (ls : List Listing) (cs : List Cell) → NoneOf (on_activity n) cs → length (onto (marks_of ls cs) []) ≤ 1 → target_of n (first_rest (onto (marks_of ls cs) [])) ≡ None
no_target n ls cs none one = whole_target n (onto (marks_of ls cs) []) one ∙ none_targets n ls cs [] none

pub target_at : (n : ℕ) (ls : List Listing) (cs : List Cell) (i : ℕ) (c : Cell) (x : Bytes × Kind) → i < length cs → c ≡ get_or cs i c → NoneOf (on_activity n) (take i cs) → is_task c.doing ≡ true → on_activity n c.doing ≡ true → target_in c.doing ≡ Some x → length (onto (marks_of ls cs) []) ≤ 1
    → target_of n (first_rest (onto (marks_of ls cs) [])) ≡ Some x
target_at n ls cs i c x h g none k is t one = whole_target n (onto (marks_of ls cs) []) one ∙ first_target n ls cs i c x h g none k is t
