-- A step at one place, of a task or of a join whose branches are over.
use Rattle.std.proofs.Common.{◌≡◌, ⊎_elim, ℕ, zero, suc, ◌+◌, ◌-◌, ◌<◌, ◌≤◌, add-one, List, [], ◌∷◌, ◌++◌, length, get_or, take, drop, map, refl, sym, ap, ◌∙◌, subst, arith, Option, Some, None, Result, Ok, Err, Bool, true, false}
use Rattle.std.specs.Prelude.{slice_get, ◌⊎◌, if◌then◌else◌, nat_lt}
use Rattle.std.proofs.lemmas.List.{drop_all, get_or_default, take-append-drop}
use Rattle.flow_base.specs.Syntax.{Bytes, Statement, Let, Assign, Call, WaitSignal, WaitSignalFor, Sleep, If, While, Parallel, Patch, Deprecate, Return, FailWith, Continue, Block, End, Next}
use Rattle.flow_base.specs.Shown.{shown_stmt}
use Rattle.flow_base.specs.declared.event.Cause.{Cause}
use Rattle.flow_base.specs.declared.value.Value.{Value}
use Rattle.flow_model.specs.Values.{value, values, due}
use Rattle.flow_model.specs.Rest.{Rest, Done, Then, is_done}
use Rattle.flow_model.specs.Step.{Store, Setting, Move, Stays, Goes, Asks, Ends, around, begin, followed_by, move, oldest, on_signal, on_value, patched, raise, test_limit, wait_limit, waiting}
use Rattle.flow_run.specs.Marks.{within, Mark, One, Many, Counted, besides, put, onto, first_rest, Moves, Stay, Go, Ask, Finish, at_head, along, or_moves, moves}
use Rattle.flow_run.specs.Shown.{shown_store}
use Rattle.flow_run.specs.Flat.{ActedAt, AreFullPlaces, StepsAt, StepsFirst, blocks_of, is_task, join_of, left_at, mark_by, mark_of, shown_doing, marks_of, task_rest}
use Rattle.flow_nodes.specs.Links.{stmts_at}
use Rattle.flow_run.specs.declared.store.Store.{Store as CStore}
use Rattle.flow_run.specs.declared.walk.Stepped.{Stepped}
use Rattle.flow_run.specs.declared.walk.Stepped.TheVariants as stepped
use Rattle.flow_run.proofs.Counts.{alike_self, counted_alike, counted_parts}
use Rattle.flow_nodes.specs.declared.table.Listing.{Listing}
use Rattle.flow_run.specs.declared.cell.Place.{Place}
use Rattle.flow_run.specs.declared.cell.Cell.{Cell}
use Rattle.flow_run.proofs.Forest.{join_moves, last_join_moves, one_more_stays, task_stays, within_append, within_begins}
use Rattle.flow_run.proofs.Ending.{cut_at, drop_cut}
use Rattle.flow_run.proofs.Overs.{besides_over, besides_run, full_open, mark_at, same_mark}
use Rattle.flow_run.specs.declared.cell.Doing.{Doing}
use Rattle.flow_run.specs.declared.cell.Doing.TheVariants as doing
use Rattle.flow_run.proofs.Parts.{blocks_append, first_of, full_at, last_at}
use Rattle.flow_run.proofs.Walking.{IsStay, task_mark, task_put}

-- a statement that begins never stays
never_value : {A : Type 0} (r : Result A Cause) (f : A → Move) → ((v : A) → IsStay (f v) → ⊥) → IsStay (on_value r f) → ⊥
never_value (Ok v) f h = h v
never_value (Err c) f h = λ x. x

never_signal : (o : Option Value) (f : Value → Move) (m : Move) → ((v : Value) → IsStay (f v) → ⊥) → (IsStay m → ⊥) → IsStay (on_signal o f m) → ⊥
never_signal None f m h g = g
never_signal (Some v) f m h g = h v

never_if : (b : Bool) (x y : Move) → (IsStay x → ⊥) → (IsStay y → ⊥) → IsStay (if b then x else y) → ⊥
never_if true x y h g = h
never_if false x y h g = g

never_patched : (s : Setting) (t : Store) (id : Bytes) (a b : Block) (o : Option Bool) → IsStay (patched s t id a b o) → ⊥
never_patched s t id a b (Some first) = λ x. x
never_patched s t id a b None = never_if (s.answer id) _ _ (λ x. x) (λ x. x)

pub never_begin : (s : Setting) (t : Store) (st : Statement) → IsStay (begin s t st) → ⊥
never_begin s t (Let at name_at x e) = never_value (value t.variables s.at e) _ (λ v y. y)
never_begin s t (Assign at x e) = never_value (value t.variables s.at e) _ (λ v y. y)
never_begin s t (Call at x activity_at a es r o) = never_value (values t.variables s.at es) _ (λ vs. never_if (nat_lt s.waits wait_limit) _ _ (λ y. y) (λ y. y))
never_begin s t (WaitSignal at x signal_at n) = never_signal (oldest n t.buffer) _ _ (λ v y. y) (never_if (nat_lt s.waits wait_limit) _ _ (λ y. y) (λ y. y))
never_begin s t (WaitSignalFor at x signal_at n e b end) =
    never_signal (oldest n t.buffer) _ _ (λ v y. y) (never_value (due t.variables s.at e) _ (λ d. never_if (nat_lt s.waits wait_limit) _ _ (λ y. y) (λ y. y)))
never_begin s t (Sleep at e) = never_value (due t.variables s.at e) _ (λ d. never_if (nat_lt s.waits wait_limit) _ _ (λ y. y) (λ y. y))
never_begin s t (If at e a a_end b b_end) = never_value (value t.variables s.at e) _ (λ v y. y)
never_begin s t (While at e b end) = never_if (nat_lt t.tests test_limit) _ _ (never_value (value t.variables s.at e) _ (λ v y. y)) (λ y. y)
never_begin s t (Parallel at bs end) = λ y. y
never_begin s t (Patch at id_at id a a_end b b_end) = never_patched s t id a b (t.decided id)
never_begin s t (Deprecate at id_at id) = never_patched s t id End End (t.decided id)
never_begin s t (Return at e) = never_value (value t.variables s.at e) _ (λ v y. y)
never_begin s t (FailWith at e) = never_value (value t.variables s.at e) _ (λ v y. y)
never_begin s t (Continue at es) = never_value (values t.variables s.at es) _ (λ vs. never_if s.is_first _ _ (λ y. y) (λ y. y))

never_around : (f : Rest → Rest) (m : Move) → (IsStay m → ⊥) → IsStay (around f m) → ⊥
never_around f Stays h = h
never_around f (Goes r t) h = λ y. y
never_around f (Asks r t c) h = λ y. y
never_around f (Ends c) h = λ y. y

-- the statement that is next of what has places
pub record Begins (s : Setting) (t : Store) (bs : List Block) : Type 0 where
  pub under : List Block
  pub stmt : Statement
  pub rest : Block
  pub goes : (d : Rest) → is_done d ≡ true → move s t (within bs d) ≡ around (within under) (around (followed_by rest) (begin s t stmt))

pub begins_at : (s : Setting) (t : Store) (ls : List Listing) (ps : List Place) (d : Place) → AreFullPlaces ls ps → 0 < length ps → Begins s t (blocks_of ls ps)
begins_at s t ls ps d full h =
    let n : ℕ = length ps - 1 in
    let p : Place = get_or ps n d in
    let first = first_of (stmts_at ls p.list) p.to p.at (full_at ls ps n d (omega (arith, h)) full) in
    let under = blocks_of ls (take n ps) in
    let all : blocks_of ls ps ≡ under ++ (left_at ls p ∷ []) = ap (blocks_of ls) (last_at ps n d (omega (arith, h))) ∙ blocks_append ls (take n ps) (p ∷ []) in
    record {
      under = under;
      stmt = shown_stmt first.stmt;
      rest = _;
      goes = λ q e. ap (λ (bs : List Block). move s t (within bs q)) all ∙ ap (move s t) (within_append under (left_at ls p ∷ []) q)
          ∙ ap (λ (b : Block). move s t (within under (Then q b))) first.first ∙ within_begins s t under q (shown_stmt first.stmt) _ e;
    }

-- a join whose branches are over steps as a task that does nothing by itself, and never stays
pub join_as_task : (s : Setting) (t : Store) (ls : List Listing) (ps : List Place) (d : Place) (r : Rest) → AreFullPlaces ls ps → 0 < length ps → is_done r ≡ true → move s t (within (blocks_of ls ps) r) ≡ move s t (within (blocks_of ls ps) Done)
join_as_task s t ls ps d r full h e =
    let b = begins_at s t ls ps d full h in
    b.goes r e ∙ sym (b.goes Done refl)

pub join_steps : (s : Setting) (t : Store) (ls : List Listing) (ps : List Place) (d : Place) → AreFullPlaces ls ps → 0 < length ps → move s t (within (blocks_of ls ps) Done) ≡ Stays → ⊥
join_steps s t ls ps d full h e =
    let b = begins_at s t ls ps d full h in
    never_around (within b.under) _ (never_around (followed_by b.rest) _ (never_begin s t b.stmt)) (subst IsStay (sym e ∙ b.goes Done refl) tt)

-- what begins at a place
pub at_cell : (ls : List Listing) (cs : List Cell) (i : ℕ) (c : Cell) → i < length cs → c ≡ get_or cs i c → drop i (marks_of ls cs) ≡ mark_of ls c ∷ drop (i + 1) (marks_of ls cs)
at_cell ls cs i c h e =
    drop_cut (marks_of ls cs) i (mark_of ls c) (mark_at ls cs i c h e) ∙ ap (λ n. mark_of ls c ∷ drop n (marks_of ls cs)) (sym (add-one i))

pub first_goes : (s : Setting) (t u : Store) (r q : Rest) (rs : List Rest) → move s t r ≡ Goes q u → moves s t (r ∷ rs) ≡ Go (q ∷ rs) u
first_goes s t u r q rs e = rw e

pub first_asks : (s : Setting) (t u : Store) (r q : Rest) (rs : List Rest) (c : _) → move s t r ≡ Asks q u c → moves s t (r ∷ rs) ≡ Ask (q ∷ rs) u c
first_asks s t u r q rs c e = rw e

pub first_ends : (s : Setting) (t : Store) (r : Rest) (rs : List Rest) (c : _) → move s t r ≡ Ends c → moves s t (r ∷ rs) ≡ Finish c
first_ends s t r rs c e = rw e

pub cut_cell : (ls : List Listing) (cs : List Cell) (i : ℕ) (c : Cell) → i < length cs → c ≡ get_or cs i c → marks_of ls cs ≡ take i (marks_of ls cs) ++ (mark_of ls c ∷ drop (i + 1) (marks_of ls cs))
cut_cell ls cs i c h e =
    cut_at (marks_of ls cs) i (mark_of ls c) (mark_at ls cs i c h e) ∙ ap (λ n. take i (marks_of ls cs) ++ (mark_of ls c ∷ drop n (marks_of ls cs))) (sym (add-one i))

-- the counts in front of a place, and there
pub counts_at : (ls : List Listing) (cs : List Cell) (i : ℕ) (c : Cell) → i < length cs → c ≡ get_or cs i c → Counted (marks_of ls cs) [] → Counted (take i (marks_of ls cs)) (put (mark_of ls c) (onto (drop (i + 1) (marks_of ls cs)) [])) × Counted (mark_of ls c ∷ drop (i + 1) (marks_of ls cs)) []
counts_at ls cs i c h e g =
    counted_parts (take i (marks_of ls cs)) (mark_of ls c ∷ drop (i + 1) (marks_of ls cs)) [] (subst (λ (ms : List Mark). Counted ms []) (cut_cell ls cs i c h e) g)

tail_counts : (m : Mark) (ms : List Mark) → Counted (m ∷ ms) [] → Counted ms []
tail_counts (One r) ms h = h
tail_counts (Many bs n k) ms h = h.1

-- what a task is acted on with, where it was taken out
pub earlier_task : (ls : List Listing) (cs ones : List Cell) (i : ℕ) (c : Cell) → i < length cs → c ≡ get_or cs i c → is_task c.doing ≡ true → Counted (marks_of ls cs) [] → take i (marks_of ls ones) ≡ take i (marks_of ls cs) → drop (i + 1) (marks_of ls ones) ≡ drop (i + 1) (marks_of ls cs)
    → is_done (task_rest ls c) ≡ false → (r : Rest) → is_done r ≡ false → Counted (take i (marks_of ls ones)) (r ∷ onto (drop (i + 1) (marks_of ls ones)) [])
earlier_task ls cs ones i c h e k g front behind a r b =
    let rs = onto (drop (i + 1) (marks_of ls cs)) [] in
    let here : Counted (take i (marks_of ls cs)) (task_rest ls c ∷ rs) = subst (Counted (take i (marks_of ls cs))) (task_put ls c rs k) (counts_at ls cs i c h e g).0 in
    let there : Counted (take i (marks_of ls cs)) (r ∷ rs) = counted_alike (take i (marks_of ls cs)) (task_rest ls c ∷ rs) (r ∷ rs) (a ∙ sym b, alike_self rs) here in
    subst (λ (ms : List Mark). Counted ms (r ∷ onto (drop (i + 1) (marks_of ls ones)) [])) (sym front)
    (subst (λ (ms : List Mark). Counted (take i (marks_of ls cs)) (r ∷ onto ms [])) (sym behind) there)

pub later_task : (ls : List Listing) (cs ones : List Cell) (i : ℕ) (c : Cell) → i < length cs → c ≡ get_or cs i c → Counted (marks_of ls cs) [] → drop (i + 1) (marks_of ls ones) ≡ drop (i + 1) (marks_of ls cs) → Counted (drop (i + 1) (marks_of ls ones)) []
later_task ls cs ones i c h e g behind =
    subst (λ (ms : List Mark). Counted ms []) (sym behind) (tail_counts (mark_of ls c) (drop (i + 1) (marks_of ls cs)) (counts_at ls cs i c h e g).1)

-- what one step does with a task is what it does with the run
pub acted_task : (ls : List Listing) (s : Setting) (old new : CStore) (cs ones ds : List Cell) (i : ℕ) (c : Cell) (m : Stepped) → i < length cs → c ≡ get_or cs i c → is_task c.doing ≡ true → take i (marks_of ls ones) ≡ take i (marks_of ls cs) → drop (i + 1) (marks_of ls ones) ≡ drop (i + 1) (marks_of ls cs) → ActedAt ls s old c ones i new ds m → StepsAt ls s old cs i new ds m
acted_task ls s old new cs ones ds i c stepped.Stays h e k front behind a =
    let ms = marks_of ls cs in
    let rs = onto (drop (i + 1) ms) [] in
    let is : mark_of ls c ≡ One (task_rest ls c) = task_mark ls (blocks_of ls c.places.items) c.doing k in (
      a.1.0,
      (
        a.1.1 ∙ (λ j. front j ++ (mark_of ls c ∷ behind j)) ∙ sym (cut_cell ls cs i c h e),
        λ m f.
            let same : mark_of ls c ≡ m = same_mark ls cs i c m h e f in
            ap (λ (xs : List Mark). moves s (shown_store old) (onto xs [])) (at_cell ls cs i c h e)
            ∙ ap (λ (x : Mark). moves s (shown_store old) (put x rs)) is
            ∙ task_stays s (shown_store old) (task_rest ls c) rs a.0
            ∙ ap (λ (x : Mark). along (put x) (moves s (shown_store old) rs)) (sym is ∙ same),
      ),
    )
acted_task ls s old new cs ones ds i c stepped.Goes h e k front behind a =
    let ms = marks_of ls cs in
    let rs = onto (drop (i + 1) ms) [] in (
      a.0 ∷ rs,
      (
        ap (λ (xs : List Mark). moves s (shown_store old) (onto xs [])) (at_cell ls cs i c h e)
            ∙ ap (moves s (shown_store old)) (task_put ls c rs k) ∙ first_goes s (shown_store old) (shown_store new) (task_rest ls c) a.0 rs a.1.0,
        a.1.1 ∙ (λ j. onto (front j) (a.0 ∷ onto (behind j) [])),
      ),
    )
acted_task ls s old new cs ones ds i c (stepped.Asks d) h e k front behind a =
    let ms = marks_of ls cs in
    let rs = onto (drop (i + 1) ms) [] in (
      a.0 ∷ rs,
      (
        ap (λ (xs : List Mark). moves s (shown_store old) (onto xs [])) (at_cell ls cs i c h e)
            ∙ ap (moves s (shown_store old)) (task_put ls c rs k) ∙ first_asks s (shown_store old) (shown_store new) (task_rest ls c) a.0 rs d.value a.1.0,
        a.1.1 ∙ (λ j. onto (front j) (a.0 ∷ onto (behind j) [])),
      ),
    )
acted_task ls s old new cs ones ds i c (stepped.Ends d) h e k front behind a =
    let ms = marks_of ls cs in
    let rs = onto (drop (i + 1) ms) [] in (
      ap (λ (xs : List Mark). moves s (shown_store old) (onto xs [])) (at_cell ls cs i c h e)
          ∙ ap (moves s (shown_store old)) (task_put ls c rs k) ∙ first_ends s (shown_store old) (task_rest ls c) rs d.value a.0,
      a.1,
    )

-- a join whose branches are all over, as it stands and as it goes on
module _ (ls : List Listing) (s : Setting) (old : CStore) (cs ones : List Cell) (i n : ℕ) (c : Cell) (h : i < length cs) (e : c ≡ get_or cs i c) (k : c.doing ≡ doing.Join n 0) (full : AreFullPlaces ls c.places.items) (some : 0 < length c.places.items) (counted : Counted (marks_of ls cs) []) (front : take i (marks_of ls ones) ≡ take i (marks_of ls cs)) (behind : onto (drop (i + 1) (marks_of ls ones)) [] ≡ drop n (onto (drop (i + 1) (marks_of ls cs)) [])) (a : Cell) (same : a.places.items ≡ c.places.items) (idle : a.doing ≡ doing.Over) where
  abbrev rs : List Rest
  rs = onto (drop (i + 1) (marks_of ls cs)) []

  abbrev bs : List Block
  bs = blocks_of ls c.places.items

  is_join : mark_of ls c ≡ Many bs n 0
  is_join = ap (λ (d : Doing). mark_by ls (blocks_of ls c.places.items) d) k

  counts : Counted (take i (marks_of ls cs)) (put (Many bs n 0) rs) × Counted (Many bs n 0 ∷ drop (i + 1) (marks_of ls cs)) []
  counts =
      let both = counts_at ls cs i c h e counted in
      (subst (λ (m : Mark). Counted (take i (marks_of ls cs)) (put m rs)) is_join both.0, subst (λ (m : Mark). Counted (m ∷ drop (i + 1) (marks_of ls cs)) []) is_join both.1)

  rest_is : task_rest ls a ≡ within bs Done
  rest_is = λ j. within (blocks_of ls (same j)) (shown_doing ls (idle j))

  pub earlier_join : is_done (task_rest ls a) ≡ false → (r : Rest) → is_done r ≡ false → Counted (take i (marks_of ls ones)) (r ∷ onto (drop (i + 1) (marks_of ls ones)) [])
  earlier_join x r b =
      let open_w : is_done (within bs (besides n rs)) ≡ false = full_open ls c.places.items (besides n rs) full some in
      let there : Counted (take i (marks_of ls cs)) (r ∷ drop n rs) = counted_alike (take i (marks_of ls cs)) (within bs (besides n rs) ∷ drop n rs) (r ∷ drop n rs) (open_w ∙ sym b, alike_self (drop n rs)) counts.0 in
      subst (λ (ms : List Mark). Counted ms (r ∷ onto (drop (i + 1) (marks_of ls ones)) [])) (sym front)
      (subst (λ (qs : List Rest). Counted (take i (marks_of ls cs)) (r ∷ qs)) (sym behind) there)

  move_is : (t : Store) → move s t (within bs (besides n rs)) ≡ move s t (task_rest ls a)
  move_is t =
      join_as_task s t ls c.places.items (get_or c.places.items 0 (record { list = 0; at = 0; to = 0 })) (besides n rs) full some (besides_over n rs 0 counts.1.0 (omega arith))
      ∙ ap (move s t) (sym rest_is)

  starts : onto (drop i (marks_of ls cs)) [] ≡ within bs (besides n rs) ∷ drop n rs
  starts = ap (λ (ms : List Mark). onto ms []) (at_cell ls cs i c h e) ∙ ap (λ (m : Mark). put m rs) is_join

  pub acted_join : (new : CStore) (ds : List Cell) (m : Stepped) → ActedAt ls s old a ones i new ds m → StepsAt ls s old cs i new ds m
  acted_join new ds stepped.Stays x =
      absurd (join_steps s (shown_store old) ls c.places.items (get_or c.places.items 0 (record { list = 0; at = 0; to = 0 })) full some (ap (move s (shown_store old)) (sym rest_is) ∙ x.0))
  acted_join new ds stepped.Goes x = (
    x.0 ∷ drop n rs,
    (
      ap (moves s (shown_store old)) starts ∙ first_goes s (shown_store old) (shown_store new) (within bs (besides n rs)) x.0 (drop n rs) (move_is (shown_store old) ∙ x.1.0),
      x.1.1 ∙ (λ j. onto (front j) (x.0 ∷ behind j)),
    ),
  )
  acted_join new ds (stepped.Asks d) x = (
    x.0 ∷ drop n rs,
    (
      ap (moves s (shown_store old)) starts ∙ first_asks s (shown_store old) (shown_store new) (within bs (besides n rs)) x.0 (drop n rs) d.value (move_is (shown_store old) ∙ x.1.0),
      x.1.1 ∙ (λ j. onto (front j) (x.0 ∷ behind j)),
    ),
  )
  acted_join new ds (stepped.Ends d) x =
      (ap (moves s (shown_store old)) starts ∙ first_ends s (shown_store old) (within bs (besides n rs)) (drop n rs) d.value (move_is (shown_store old) ∙ x.0), x.1)

pub counted_behind : (ms : List Mark) (k : ℕ) → Counted ms [] → Counted (drop k ms) []
counted_behind ms k h = (counted_parts (take k ms) (drop k ms) [] (subst (λ (xs : List Mark). Counted xs []) (sym (take-append-drop k ms)) h)).1

none_is_task : (d : Doing) → None ≡ join_of d → is_task d ≡ true
none_is_task doing.Over e = refl
none_is_task doing.Empty e = refl
none_is_task (doing.OnActivity n x k o) e = refl
none_is_task (doing.OnTimer n) e = refl
none_is_task (doing.OnSignal x s) e = refl
none_is_task (doing.OnSignalFor x s n b) e = refl
none_is_task (doing.Raised w t) e = refl
none_is_task (doing.Join n k) e = cc

join_by : Doing → Option (ℕ × ℕ) → Doing
join_by d None = d
join_by d (Some x) = doing.Join x.0 x.1

some_is_join : (d : Doing) (n k : ℕ) → Some (n, k) ≡ join_of d → d ≡ doing.Join n k
unfolding join_by
some_is_join doing.Over n k e = cc
some_is_join doing.Empty n k e = cc
some_is_join (doing.OnActivity m x j o) n k e = cc
some_is_join (doing.OnTimer m) n k e = cc
some_is_join (doing.OnSignal x s) n k e = cc
some_is_join (doing.OnSignalFor x s m b) n k e = cc
some_is_join (doing.Raised w t) n k e = cc
some_is_join (doing.Join m j) n k e = ap (join_by doing.Over) (sym e)

pub task_here : (cs : List Cell) (i : ℕ) (c d : Cell) → i < length cs → c ≡ get_or cs i c → None ≡ join_of c.doing → d ≡ get_or cs i d → is_task d.doing ≡ true
task_here cs i c d h e k f =
    let same : d ≡ c = f ∙ get_or_default cs i d c h ∙ sym e in
    ap (λ (x : Cell). is_task x.doing) same ∙ none_is_task c.doing k

pub join_here : (cs : List Cell) (i : ℕ) (c d : Cell) (n k : ℕ) → i < length cs → c ≡ get_or cs i c → Some (n, k) ≡ join_of c.doing → k ≤ 0 → 0 < length c.places.items → d ≡ get_or cs i d → (d.doing ≡ doing.Join n 0) × (0 < length d.places.items)
join_here cs i c d n k h e j z p f =
    let same : d ≡ c = f ∙ get_or_default cs i d c h ∙ sym e in (
      ap (λ (x : Cell). x.doing) same ∙ some_is_join c.doing n k j ∙ ap (doing.Join n) (omega (arith, z)),
      subst (λ (x : Cell). 0 < length x.places.items) (sym same) p,
    )

-- a join that stays
pub join_rests : (ls : List Listing) (s : Setting) (t : Store) (cs : List Cell) (i : ℕ) (c : Cell) (n k : ℕ) → i < length cs → c ≡ get_or cs i c → Some (n, k) ≡ join_of c.doing → Counted (marks_of ls cs) [] → (0 < k) ⊎ (c.places.items ≡ []) → (m : Mark) → slice_get (marks_of ls cs) i ≡ Some m → moves s t (onto (drop i (marks_of ls cs)) []) ≡ along (put m) (moves s t (onto (drop (i + 1) (marks_of ls cs)) []))
join_rests ls s t cs i c n k h e j g why m f =
    let ms = marks_of ls cs in
    let rs = onto (drop (i + 1) ms) [] in
    let bs = blocks_of ls c.places.items in
    let is : mark_of ls c ≡ Many bs n k = ap (λ (d : Doing). mark_by ls bs d) (some_is_join c.doing n k j) in
    let same : mark_of ls c ≡ m = same_mark ls cs i c m h e f in
    let count : Counted (Many bs n k ∷ drop (i + 1) ms) [] = subst (λ (x : Mark). Counted (x ∷ drop (i + 1) ms) []) is (counts_at ls cs i c h e g).1 in
    let stays : moves s t (put (Many bs n k) rs) ≡ along (put (Many bs n k)) (moves s t rs) =
    ⊎_elim (λ (some : 0 < k). join_moves s t bs n k rs (besides_run n rs k count.0 some))
    (λ (last : c.places.items ≡ []). subst (λ (ps : List Place). moves s t (put (Many (blocks_of ls ps) n k) rs) ≡ along (put (Many (blocks_of ls ps) n k)) (moves s t rs)) (sym last) (last_join_moves s t n k rs)) why in
    ap (λ (xs : List Mark). moves s t (onto xs [])) (at_cell ls cs i c h e) ∙ ap (λ (x : Mark). moves s t (put x rs)) is ∙ stays
    ∙ ap (λ (x : Mark). along (put x) (moves s t rs)) (sym is ∙ same)

abbrev pub Quiet : Stepped → Type 0
Quiet stepped.Stays = Unit {0}
Quiet m = ⊥

take_cut : (ms : List Mark) (i : ℕ) (m : Mark) → slice_get ms i ≡ Some m → take (i + 1) ms ≡ take i ms ++ (m ∷ [])
take_cut ms i m e = ap (λ k. take k ms) (add-one i) ∙ take_suc ms i m e
  where
    some_is : (x y : Mark) → Some x ≡ Some y → x ≡ y
    some_is x y e = cc

    take_suc : (ms : List Mark) (i : ℕ) (m : Mark) → slice_get ms i ≡ Some m → take (suc i) ms ≡ take i ms ++ (m ∷ [])
    take_suc [] i m e = cc
    take_suc (x ∷ ms) zero m e = ap (λ (y : Mark). y ∷ []) (some_is x m e)
    take_suc (x ∷ ms) (suc i) m e = ap (λ (ys : List Mark). x ∷ ys) (take_suc ms i m e)

-- A step at the first place that can step is the step of the run.
pub first_step : (ls : List Listing) (s : Setting) (old mid new : CStore) (cs now ds : List Cell) (i : ℕ) (m : Stepped) → (Quiet m → ⊥) → mid ≡ old → marks_of ls now ≡ marks_of ls cs → moves s (shown_store old) (onto (marks_of ls cs) []) ≡ along (onto (take i (marks_of ls cs))) (moves s (shown_store old) (onto (drop i (marks_of ls cs)) [])) → StepsAt ls s mid now i new ds m → StepsFirst ls s old cs new ds m
first_step ls s old mid new cs now ds i stepped.Stays q e f stays a = absurd (q tt)
first_step ls s old mid new cs now ds i stepped.Goes q e f stays a =
    stays ∙ ap (along (onto (take i (marks_of ls cs)))) ((λ j. moves s (shown_store (sym e j)) (onto (drop i (sym f j)) [])) ∙ a.1.0)
    ∙ ap (λ (rs : List Rest). Go rs (shown_store new)) (ap (λ (ms : List Mark). onto (take i ms) a.0) (sym f) ∙ sym a.1.1)
first_step ls s old mid new cs now ds i (stepped.Asks c) q e f stays a =
    stays ∙ ap (along (onto (take i (marks_of ls cs)))) ((λ j. moves s (shown_store (sym e j)) (onto (drop i (sym f j)) [])) ∙ a.1.0)
    ∙ ap (λ (rs : List Rest). Ask rs (shown_store new) c.value) (ap (λ (ms : List Mark). onto (take i ms) a.0) (sym f) ∙ sym a.1.1)
first_step ls s old mid new cs now ds i (stepped.Ends c) q e f stays a =
    (stays ∙ ap (along (onto (take i (marks_of ls cs)))) ((λ j. moves s (shown_store (sym e j)) (onto (drop i (sym f j)) [])) ∙ a.0), a.1 ∙ e)

-- one more place at which nothing can step
pub quiet_more : (ls : List Listing) (s : Setting) (old mid : CStore) (cs now : List Cell) (i : ℕ) (no_cell : Cell) → mid ≡ old → marks_of ls now ≡ marks_of ls cs → i < length now
    → moves s (shown_store old) (onto (marks_of ls cs) []) ≡ along (onto (take i (marks_of ls cs))) (moves s (shown_store old) (onto (drop i (marks_of ls cs)) []))
    → ((m : Mark) → slice_get (marks_of ls now) i ≡ Some m → moves s (shown_store mid) (onto (drop i (marks_of ls now)) []) ≡ along (put m) (moves s (shown_store mid) (onto (drop (i + 1) (marks_of ls now)) [])))
    → moves s (shown_store old) (onto (marks_of ls cs) []) ≡ along (onto (take (i + 1) (marks_of ls cs))) (moves s (shown_store old) (onto (drop (i + 1) (marks_of ls cs)) []))
quiet_more ls s old mid cs now i no_cell e f h stays g =
    let ms = marks_of ls cs in
    let c : Cell = get_or now i no_cell in
    let m : Mark = mark_of ls c in
    let there : slice_get (marks_of ls now) i ≡ Some m = mark_at ls now i c h (get_or_default now i no_cell c h) in
    let here : moves s (shown_store old) (onto (drop i ms) []) ≡ along (put m) (moves s (shown_store old) (onto (drop (i + 1) ms) [])) =
    subst (λ (xs : List Mark). moves s (shown_store old) (onto (drop i xs) []) ≡ along (put m) (moves s (shown_store old) (onto (drop (i + 1) xs) []))) f
    (subst (λ (t : CStore). moves s (shown_store t) (onto (drop i (marks_of ls now)) []) ≡ along (put m) (moves s (shown_store t) (onto (drop (i + 1) (marks_of ls now)) []))) e (g m there)) in
    let cut : drop i ms ≡ m ∷ drop (i + 1) ms = ap (drop i) (sym f) ∙ at_cell ls now i c h (get_or_default now i no_cell c h) ∙ ap (λ (xs : List Mark). m ∷ drop (i + 1) xs) f in
    let more : take (i + 1) ms ≡ take i ms ++ (m ∷ []) = take_cut ms i m (ap (λ (xs : List Mark). slice_get xs i) (sym f) ∙ there) in
    let start : moves s (shown_store old) (onto ms []) ≡ along (onto (take i ms)) (moves s (shown_store old) (put m (onto (drop (i + 1) ms) []))) =
    stays ∙ ap (λ (xs : List Mark). along (onto (take i ms)) (moves s (shown_store old) (onto xs []))) cut in
    let next : moves s (shown_store old) (put m (onto (drop (i + 1) ms) [])) ≡ along (put m) (moves s (shown_store old) (onto (drop (i + 1) ms) [])) =
    ap (λ (xs : List Mark). moves s (shown_store old) (onto xs [])) (sym cut) ∙ here in
    one_more_stays s (shown_store old) (take i ms) m (onto ms []) (onto (drop (i + 1) ms) []) start next
    ∙ ap (λ (xs : List Mark). along (onto xs) (moves s (shown_store old) (onto (drop (i + 1) ms) []))) (sym more)

-- some cell of a list
pub cell_in : (cs : List Cell) (i : ℕ) → i < length cs → Cell
cell_in [] i h = absurd (omega (arith, h))
cell_in (c ∷ cs) zero h = c
cell_in (c ∷ cs) (suc i) h = cell_in cs i (omega (arith, h))

pub all_quiet : (ls : List Listing) (s : Setting) (old mid : CStore) (cs now : List Cell) (i : ℕ) → mid ≡ old → marks_of ls now ≡ marks_of ls cs → length (marks_of ls cs) ≤ i
    → moves s (shown_store old) (onto (marks_of ls cs) []) ≡ along (onto (take i (marks_of ls cs))) (moves s (shown_store old) (onto (drop i (marks_of ls cs)) [])) → StepsFirst ls s old cs mid now stepped.Stays
all_quiet ls s old mid cs now i e f h stays =
    (stays ∙ ap (λ (xs : List Mark). along (onto (take i (marks_of ls cs))) (moves s (shown_store old) (onto xs []))) (drop_all i (marks_of ls cs) h), (e, f))
