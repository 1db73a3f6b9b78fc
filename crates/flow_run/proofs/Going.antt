-- An input takes effect on a copy of an open run: the first task that it is for goes on.
use Rattle.std.proofs.Common.{◌≡◌, ℕ, zero, suc, ◌+◌, ◌<◌, ◌≤◌, List, [], ◌∷◌, length, get_or, take, drop, refl, sym, ap, ◌∙◌, subst, arith, Option, Some, None, Result, Ok, Err, Bool, true, false}
use Rattle.std.specs.Prelude.{OnErr, is_some, if◌then◌else◌}
use Rattle.flow_base.specs.Syntax.{Block, Bytes}
use Rattle.flow_base.specs.declared.value.Kind.{Kind}
use Rattle.flow_base.specs.declared.value.Value.{Value}
use Rattle.flow_base.specs.declared.event.State.{State}
use Rattle.flow_base.specs.declared.event.State.TheVariants.{Open}
use Rattle.flow_values.specs.Named.{look_up}
use Rattle.flow_values.specs.Slots.{slot_of}
use Rattle.flow_model.specs.Rest.{Rest, Done}
use Rattle.flow_model.specs.Values.{Variables, with_variable}
use Rattle.flow_model.specs.Configuration.{Configuration}
use Rattle.flow_model.specs.Deliver.{Progress, completed, has_kind, replaced, start_from, target_of, when_completed, with_rest}
use Rattle.flow_nodes.specs.declared.table.Listing.{Listing}
use Rattle.flow_nodes.specs.declared.table.ProgramTable.{ProgramTable}
use Rattle.flow_run.specs.Marks.{Mark, One, Many, Counted, first_rest, onto, put, within}
use Rattle.flow_run.specs.Flat.{AreSound, blocks_of, content, contents_of, is_task, mark_of, marks_of, shown_doing, task_rest}
use Rattle.flow_run.specs.Waiting.{IsFirst, NoneOf, going_on, on_activity, target_in, waits_itself}
use Rattle.flow_run.specs.Whole.{IsWhole, IsWholeAt, is_unbegun, rest_at, shown_standing}
use Rattle.flow_run.specs.Position.{shown_progress, shown_started, started_with}
use Rattle.flow_run.specs.declared.cell.Place.{Place}
use Rattle.flow_run.specs.declared.cell.Cell.{Cell}
use Rattle.flow_run.specs.declared.cell.Doing.{Doing}
use Rattle.flow_run.specs.declared.cell.Doing.TheVariants as doing
use Rattle.flow_run.specs.declared.standing.Standing.{Standing}
use Rattle.flow_run.specs.declared.deliver.Turning.{Turning}
use Rattle.flow_run.proofs.Contents.{head_same, same_full, same_marks, tail_same}
use Rattle.flow_run.proofs.Forest.{onto_append}
use Rattle.flow_run.proofs.Steps.{cut_cell}
use Rattle.flow_run.proofs.Walking.{task_put}
use Rattle.flow_run.proofs.Delivering.{activity_waits, completed_becomes, first_replaced, firsts, no_activity, no_target, none_at_all, replaced_at, target_at, waits_task, whole_replaced}

-- a task of a copy, and that which it is the copy of
pub like : (ds cs : List Cell) (i : ℕ) (d : Cell) → contents_of ds ≡ contents_of cs → i < length cs → d ≡ get_or cs i d → (c : Cell) × ((c ≡ get_or ds i c) × (content c ≡ content d))
like [] [] i d e h g = absurd (omega (arith, h))
like [] (c ∷ cs) i d e h g = cc
like (x ∷ xs) [] i d e h g = cc
like (x ∷ xs) (c ∷ cs) zero d e h g = (x, (refl, head_same (content x) (content c) (contents_of xs) (contents_of cs) e ∙ ap content (sym g)))
like (x ∷ xs) (c ∷ cs) (suc i) d e h g = like xs cs i d (tail_same (content x) (content c) (contents_of xs) (contents_of cs) e) (omega (arith, h)) g

pub as_many : (ds cs : List Cell) → contents_of ds ≡ contents_of cs → length ds ≡ length cs
as_many [] [] e = refl
as_many [] (c ∷ cs) e = cc
as_many (d ∷ ds) [] e = cc
as_many (d ∷ ds) (c ∷ cs) e = ap suc (as_many ds cs (tail_same (content d) (content c) (contents_of ds) (contents_of cs) e))

-- what stands in front shows as many rests of as many
drops_alike : (n : ℕ) (rs qs : List Rest) → length rs ≡ length qs → length (drop n rs) ≡ length (drop n qs)
drops_alike zero rs qs e = e
drops_alike (suc n) [] [] e = refl
drops_alike (suc n) [] (q ∷ qs) e = absurd (omega (arith, e))
drops_alike (suc n) (r ∷ rs) [] e = absurd (omega (arith, e))
drops_alike (suc n) (r ∷ rs) (q ∷ qs) e = drops_alike n rs qs (omega (arith, e))

onto_alike : (ms : List Mark) (rs qs : List Rest) → length rs ≡ length qs → length (onto ms rs) ≡ length (onto ms qs)
onto_alike [] rs qs e = e
onto_alike (One r ∷ ms) rs qs e = ap suc (onto_alike ms rs qs e)
onto_alike (Many bs n k ∷ ms) rs qs e = ap suc (drops_alike n (onto ms rs) (onto ms qs) (onto_alike ms rs qs e))

-- a task that is there
pub one_there : (cs : List Cell) (i : ℕ) → i < length cs → (c : Cell) × (c ≡ get_or cs i c)
one_there [] i h = absurd (omega (arith, h))
one_there (c ∷ cs) zero h = (c, refl)
one_there (c ∷ cs) (suc i) h = one_there cs i (omega (arith, h))

-- what holds of a run holds of a copy
pub whole_at : (run : Standing) (t : ProgramTable) → t ≡ run.table → IsWhole run → IsWholeAt t.lists.items run.cells.items run.state
whole_at run t is w = subst (λ (u : ProgramTable). IsWholeAt u.lists.items run.cells.items run.state) (sym is) w

pub sound_again : (ls : List Listing) (cs ds : List Cell) → contents_of ds ≡ contents_of cs → AreSound ls cs → AreSound ls ds
sound_again ls cs ds same s = (same_full ls cs ds (sym same) s.0, subst (λ (ms : List Mark). Counted ms []) (sym (same_marks ls ds cs same)) s.1)

pub waits_again : (cs ds : List Cell) (i : ℕ) → contents_of ds ≡ contents_of cs → i < length ds → ((d : Cell) → d ≡ get_or cs i d → waits_itself d.doing ≡ true) → (c : Cell) → c ≡ get_or ds i c → waits_itself c.doing ≡ true
waits_again cs ds i same h waits c is =
    let other = like cs ds i c (sym same) h is in
    subst (λ (x : List Place × Doing). waits_itself x.1 ≡ true) other.1.1 (waits other.0 other.1.0)

pub shows_again : (ls : List Listing) (cs ds es : List Cell) (i : ℕ) (r : Rest) → contents_of ds ≡ contents_of cs → i < length cs
    → ((c : Cell) → c ≡ get_or ds i c → onto (marks_of ls es) [] ≡ onto (take i (marks_of ls ds)) (within (blocks_of ls c.places.items) r ∷ onto (drop (i + 1) (marks_of ls ds)) []))
    → (c : Cell) → c ≡ get_or cs i c → onto (marks_of ls es) [] ≡ onto (take i (marks_of ls cs)) (within (blocks_of ls c.places.items) r ∷ onto (drop (i + 1) (marks_of ls cs)) [])
shows_again ls cs ds es i r same h shows c is =
    let other = like ds cs i c same h is in
    shows other.0 other.1.0
    ∙ ap (λ (ms : List Mark). onto (take i ms) (within (blocks_of ls other.0.places.items) r ∷ onto (drop (i + 1) ms) [])) (same_marks ls ds cs same)
    ∙ ap (λ (x : List Place × Doing). onto (take i (marks_of ls cs)) (within (blocks_of ls x.0) r ∷ onto (drop (i + 1) (marks_of ls cs)) [])) other.1.1

-- a task of a run has gone on: what every turn keeps holds
pub whole_on : (ls : List Listing) (cs es : List Cell) (i : ℕ) (r : Rest) (s t : State) → IsWholeAt ls cs t → i < length cs → ((c : Cell) → c ≡ get_or cs i c → waits_itself c.doing ≡ true)
    → ((c : Cell) → c ≡ get_or cs i c → onto (marks_of ls es) [] ≡ onto (take i (marks_of ls cs)) (within (blocks_of ls c.places.items) r ∷ onto (drop (i + 1) (marks_of ls cs)) []))
    → AreSound ls es → s ≡ Open → IsWholeAt ls es s
whole_on ls cs es i r s t w h waits shows sound opened =
    let there = one_there cs i h in
    let c : Cell = there.0 in
    let is : c ≡ get_or cs i c = there.1 in
    let ms = marks_of ls cs in
    let rs = onto (drop (i + 1) ms) [] in
    let was : onto ms [] ≡ onto (take i ms) (task_rest ls c ∷ rs) =
    ap (λ (xs : List Mark). onto xs []) (cut_cell ls cs i c h is)
    ∙ onto_append (take i ms) (mark_of ls c ∷ drop (i + 1) ms) []
    ∙ ap (onto (take i ms)) (task_put ls c rs (waits_task c.doing (waits c is))) in
    let size : length (onto (marks_of ls es) []) ≡ length (onto ms []) =
    ap (λ (xs : List Rest). length xs) (shows c is)
    ∙ onto_alike (take i ms) (within (blocks_of ls c.places.items) r ∷ rs) (task_rest ls c ∷ rs) refl
    ∙ ap (λ (xs : List Rest). length xs) (sym was) in
    record { sound = sound; one = subst (λ (n : ℕ). n ≤ 1) (sym size) w.one; begun = ap is_unbegun opened }

-- The first task that such an input is for: the function that replaces its leaf, and the test.
module _ (f : Rest → Option Rest) (e : f Done ≡ None) (p : Doing → Bool) (none : (ls : List Listing) (d : Doing) → p d ≡ false → replaced f (shown_doing ls d) ≡ None) (waits : (d : Doing) → p d ≡ true → waits_itself d ≡ true) where
  does_it : (cs : List Cell) (i : ℕ) (c : Cell) → IsFirst p cs i → c ≡ get_or cs i c → p c.doing ≡ true
  does_it cs i c first g = subst (λ (x : Cell). p x.doing ≡ true) (sym g) (first.does c)

  pub it_waits : (cs : List Cell) (i : ℕ) (c : Cell) → IsFirst p cs i → c ≡ get_or cs i c → waits_itself c.doing ≡ true
  it_waits cs i c first g = waits c.doing (does_it cs i c first g)

  pub goes_on : (run : Standing) (t : ProgramTable) (i : ℕ) (c : Cell) (list : Option ℕ) (other : Doing) (q : Turning) → t ≡ run.table → IsWhole run → run.state ≡ Open → IsFirst p run.cells.items i → c ≡ get_or run.cells.items i c
      → (p c.doing ≡ true → replaced f (shown_doing t.lists.items c.doing) ≡ Some (going_on t.lists.items list other))
      → onto (marks_of t.lists.items q.cells.items) [] ≡ onto (take i (marks_of t.lists.items run.cells.items)) (within (blocks_of t.lists.items c.places.items) (going_on t.lists.items list other) ∷ onto (drop (i + 1) (marks_of t.lists.items run.cells.items)) [])
      → replaced f (shown_standing run).rest ≡ Some (rest_at t.lists.items q.cells.items)
  goes_on run t i c list other q is whole opened first g becomes shows =
      let ls = t.lists.items in
      let cs = run.cells.items in
      let one : length (onto (marks_of ls cs) []) ≤ 1 = subst (λ (u : ProgramTable). length (onto (marks_of u.lists.items cs) []) ≤ 1) (sym is) whole.one in
      let so = does_it cs i c first g in
      ap (λ (u : ProgramTable). replaced f (rest_at u.lists.items cs)) (sym is)
      ∙ replaced_at f e ls p (none ls) cs q.cells.items i c (going_on ls list other) first.inside g first.before (waits_task c.doing (waits c.doing so)) (becomes so) one shows

  pub can_go : (run : Standing) (i : ℕ) (c : Cell) (r : Rest) → IsWhole run → IsFirst p run.cells.items i → c ≡ get_or run.cells.items i c
      → (p c.doing ≡ true → replaced f (shown_doing run.table.lists.items c.doing) ≡ Some r) → is_some (replaced f (shown_standing run).rest) ≡ true
  can_go run i c r whole first g becomes =
      let ls = run.table.lists.items in
      let cs = run.cells.items in
      let so = does_it cs i c first g in
      ap is_some (whole_replaced f (onto (marks_of ls cs) []) e whole.one ∙ ap firsts (first_replaced f e ls p (none ls) cs i c r first.inside g first.before (waits_task c.doing (waits c.doing so)) (becomes so)))

  pub none_goes : (run : Standing) → IsWhole run → NoneOf p run.cells.items → replaced f (shown_standing run).rest ≡ None
  none_goes run whole n = none_at_all f e run.table.lists.items p (none run.table.lists.items) run.cells.items n whole.one

-- a run in which a task went on, as the definition has it
pub started_on : (run : Standing) (ls : List Listing) (q : Turning) (o : Option Rest) → run.state ≡ Open → shown_progress ls q ≡ started_with (rest_at ls q.cells.items) (slot_of run.variables) run.buffer (look_up run.decided) Open
    → o ≡ Some (rest_at ls q.cells.items) → shown_started ls (Some q) ≡ with_rest (shown_standing run) o
started_on run ls q o opened store is =
    ap Some store
    ∙ ap (λ (s : State). Some (started_with (rest_at ls q.cells.items) (slot_of run.variables) run.buffer (look_up run.decided) s)) (sym opened)
    ∙ ap (with_rest (shown_standing run)) (sym is)

pub not_started : (k : Configuration) (o : Option Rest) → o ≡ None → ◌≡◌ {A = Option Progress} None (with_rest k o)
not_started k o is = ap (with_rest k) (sym is)

-- A value that an activity gives.
fitting : (k : Configuration) (n : ℕ) (v : Value) (x : Bytes × Kind) (r : Rest) → has_kind x.1 v ≡ true → replaced (when_completed n) k.rest ≡ Some r → completed k n v (Some x) ≡ Some (start_from k r (with_variable k.variables x.0 v))
fitting k n v x r h is = rw (h, is)

unfitting : (k : Configuration) (n : ℕ) (v : Value) (x : Bytes × Kind) → has_kind x.1 v ≡ false → completed k n v (Some x) ≡ None
unfitting k n v x h = rw h

-- the task that waits on it has this target
pub its_target : (run : Standing) (n i : ℕ) (c : Cell) (x : Bytes × Kind) → IsWhole run → IsFirst (on_activity n) run.cells.items i → c ≡ get_or run.cells.items i c → target_in c.doing ≡ Some x → target_of n (shown_standing run).rest ≡ Some x
its_target run n i c x whole first g is =
    let so : on_activity n c.doing ≡ true = subst (λ (y : Cell). on_activity n y.doing ≡ true) (sym g) (first.does c) in
    target_at n run.table.lists.items run.cells.items i c x first.inside g first.before (waits_task c.doing (activity_waits n c.doing so)) so is whole.one

pub completes : (run : Standing) (ls : List Listing) (n : ℕ) (v : Value) (x : Bytes × Kind) (q : Turning) (w : List (Bytes × Option Value)) → run.state ≡ Open → target_of n (shown_standing run).rest ≡ Some x → has_kind x.1 v ≡ true
    → replaced (when_completed n) (shown_standing run).rest ≡ Some (rest_at ls q.cells.items)
    → shown_progress ls q ≡ started_with (rest_at ls q.cells.items) (slot_of run.variables) run.buffer (look_up run.decided) Open
    → slot_of w ≡ with_variable (slot_of q.store.variables) x.0 v
    → shown_started ls (Some (record q { store = record (q.store) { variables = w } })) ≡ completed (shown_standing run) n v (target_of n (shown_standing run).rest)
completes run ls n v x q w opened target fits is store set =
    ap (λ (vars : Variables). Some (record (shown_progress ls q) { store = record ((shown_progress ls q).store) { variables = vars } })) set
    ∙ ap (λ (p : Progress). Some (record p { store = record (p.store) { variables = with_variable p.store.variables x.0 v } })) store
    ∙ ap (λ (s : State). Some (started_with (rest_at ls q.cells.items) (with_variable (slot_of run.variables) x.0 v) run.buffer (look_up run.decided) s)) (sym opened)
    ∙ sym (fitting (shown_standing run) n v x (rest_at ls q.cells.items) fits is)
    ∙ ap (completed (shown_standing run) n v) (sym target)

pub completes_not : (k : Configuration) (n : ℕ) (v : Value) (x : Bytes × Kind) (o : Option (Bytes × Kind)) → o ≡ Some x → has_kind x.1 v ≡ false → ◌≡◌ {A = Option Progress} None (completed k n v o)
completes_not k n v x o target h = sym (unfitting k n v x h) ∙ ap (completed k n v) (sym target)

pub no_completion : (k : Configuration) (n : ℕ) (v : Value) (o : Option (Bytes × Kind)) → o ≡ None → ◌≡◌ {A = Option Progress} None (completed k n v o)
no_completion k n v o is = ap (completed k n v) (sym is)

pub can_complete : (run : Standing) (n : ℕ) (v : Value) (x : Bytes × Kind) → target_of n (shown_standing run).rest ≡ Some x → has_kind x.1 v ≡ true → is_some (replaced (when_completed n) (shown_standing run).rest) ≡ true
    → is_some (completed (shown_standing run) n v (target_of n (shown_standing run).rest)) ≡ true
can_complete run n v x target fits can =
    ap (λ (o : Option (Bytes × Kind)). is_some (completed (shown_standing run) n v o)) target ∙ by (replaced (when_completed n) (shown_standing run).rest) refl can
  where
    by : (o : Option Rest) → replaced (when_completed n) (shown_standing run).rest ≡ o → is_some o ≡ true → is_some (completed (shown_standing run) n v (Some x)) ≡ true
    by None e h = cc
    by (Some r) e h = ap is_some (fitting (shown_standing run) n v x r fits e)

-- what holds anyway holds where there is an error
pub on_err : {A E : Type 0} (r : Result A E) (P : Type 0) → P → OnErr r P
on_err (Ok a) P h = tt
on_err (Err e) P h = h
