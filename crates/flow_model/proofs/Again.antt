-- A fresh turn is a recorded turn over the traces of its own commands, whatever follows them.
use Rattle.std.proofs.Common.{◌≡◌, ℕ, suc, zero, ◌+◌, List, [], ◌∷◌, ◌++◌, length, refl, sym, ap, ◌∙◌, subst, Option, Some, None, Bool, true, false}
use Rattle.std.specs.Prelude.{bytes_eq, if◌then◌else◌, slice_get}
use Rattle.std.proofs.lemmas.List.{append-nil}
use Rattle.flow_base.specs.Syntax.{Bytes, Program, Statement, Let, Assign, Call, WaitSignal, WaitSignalFor, Sleep, If, While, Parallel, Patch, Deprecate, Return, FailWith, Continue, Block, End, Next}
use Rattle.flow_base.specs.declared.value.Value.TheVariants.{Text}
use Rattle.flow_base.specs.declared.event.Cmd.{Cmd}
use Rattle.flow_base.specs.declared.event.Cmd.TheVariants.{Schedule, StartTimer, CancelTimer, RecordMarker, Complete, Fail, ContinueAsNew}
use Rattle.flow_base.specs.declared.event.Input.{Input}
use Rattle.flow_base.specs.declared.event.What.{What}
use Rattle.flow_base.specs.declared.event.What.TheVariants.{Came, Asked}
use Rattle.flow_base.specs.declared.event.Event.{Event}
use Rattle.flow_model.specs.Rest.{Rest, Done, OnActivity, OnTimer, OnSignal, OnSignalFor, Raised, Then, Beside, rest_of, is_done}
use Rattle.flow_model.specs.Configuration.{is_open, Configuration}
use Rattle.flow_model.specs.Step.{Store, Setting, Move, Stays, Goes, Asks, Ends, patched, decide, begin, around, first_of, followed_by, or_move, move}
use Rattle.flow_model.specs.Deliver.{Progress}
use Rattle.flow_model.specs.Turn.{Frame, next, setting, ended, after_move, steps, go_on, Fresh, Recorded, answer_of, is_marker, Turn, frame}
use Rattle.flow_model.specs.Turned.{traces}

-- a marker that is asked for is one that these answers say yes to
abbrev MarksCmd : (Bytes → Bool) → Cmd → Type 0
MarksCmd a (Schedule x vs n m k) = Unit {0}
MarksCmd a (StartTimer d) = Unit {0}
MarksCmd a (CancelTimer n) = Unit {0}
MarksCmd a (RecordMarker id) = a id ≡ true
MarksCmd a (Complete v) = Unit {0}
MarksCmd a (Fail c t) = Unit {0}
MarksCmd a (ContinueAsNew vs) = Unit {0}

abbrev Marks : (Bytes → Bool) → Move → Type 0
Marks a Stays = Unit {0}
Marks a (Goes r t) = Unit {0}
Marks a (Asks r t c) = MarksCmd a c
Marks a (Ends c) = Unit {0}

abbrev with_answer : (Bytes → Bool) → Setting → Setting
with_answer a s = record s { answer = a }

marks_around : (a : Bytes → Bool) (f : Rest → Rest) (m : Move) → Marks a (around f m) → Marks a m
marks_around a f Stays h = h
marks_around a f (Goes r t) h = h
marks_around a f (Asks r t c) h = h
marks_around a f (Ends c) h = h

marks_left : (a : Bytes → Bool) (m k : Move) → Marks a (or_move m k) → Marks a m
marks_left a Stays k h = tt
marks_left a (Goes r t) k h = h
marks_left a (Asks r t c) k h = h
marks_left a (Ends c) k h = h

or_again : (a : Bytes → Bool) (m k l : Move) → Marks a (or_move m k) → (Marks a k → l ≡ k) → or_move m l ≡ or_move m k
or_again a Stays k l h f = f h
or_again a (Goes r t) k l h f = refl
or_again a (Asks r t c) k l h f = refl
or_again a (Ends c) k l h f = refl

module _ (a : Bytes → Bool) (s : Setting) (fresh : (id : Bytes) → s.answer id ≡ true) where
  patched_again : (t : Store) (id : Bytes) (x y : Block) (o : Option Bool) → Marks a (patched s t id x y o) → patched (with_answer a s) t id x y o ≡ patched s t id x y o
  patched_again t id x y (Some b) h = refl
  patched_again t id x y None h =
      let yes : a id ≡ true = subst (λ (b : Bool). Marks a (if b then Asks (rest_of x) (decide t id true) (RecordMarker id) else Goes (rest_of y) (decide t id false))) (fresh id) h in
      ap (λ (b : Bool). if b then Asks (rest_of x) (decide t id true) (RecordMarker id) else Goes (rest_of y) (decide t id false)) (yes ∙ sym (fresh id))

  begin_again : (t : Store) (st : Statement) → Marks a (begin s t st) → begin (with_answer a s) t st ≡ begin s t st
  begin_again t (Let at name_at x e) h = refl
  begin_again t (Assign at x e) h = refl
  begin_again t (Call at x activity_at n es r o) h = refl
  begin_again t (WaitSignal at x signal_at n) h = refl
  begin_again t (WaitSignalFor at x signal_at n e b end) h = refl
  begin_again t (Sleep at e) h = refl
  begin_again t (If at e x x_end y y_end) h = refl
  begin_again t (While at e b end) h = refl
  begin_again t (Parallel at bs end) h = refl
  begin_again t (Patch at id_at id x x_end y y_end) h = patched_again t id x y (t.decided id) h
  begin_again t (Deprecate at id_at id) h = patched_again t id End End (t.decided id) h
  begin_again t (Return at e) h = refl
  begin_again t (FailWith at e) h = refl
  begin_again t (Continue at es) h = refl

  first_again : (t : Store) (b : Block) → Marks a (first_of s t b) → first_of (with_answer a s) t b ≡ first_of s t b
  first_again t End h = refl
  first_again t (Next st b) h = ap (around (followed_by b)) (begin_again t st (marks_around a (followed_by b) (begin s t st) h))

  move_again : (t : Store) (r : Rest) → Marks a (move s t r) → move (with_answer a s) t r ≡ move s t r
  move_again t Done h = refl
  move_again t (OnActivity n x k o) h = refl
  move_again t (OnTimer n) h = refl
  move_again t (OnSignal x n) h = refl
  move_again t (OnSignalFor x n e b) h = refl
  move_again t (Raised c text) h = refl
  move_again t (Then r b) h =
      elim (is_done r) as (λ d. Marks a (if d then first_of s t b else around (λ q. Then q b) (move s t r))
      → (if d then first_of (with_answer a s) t b else around (λ q. Then q b) (move (with_answer a s) t r)) ≡ (if d then first_of s t b else around (λ q. Then q b) (move s t r))) [
        | true ↦ λ m. first_again t b m
        | false ↦ λ m. ap (around (λ q. Then q b)) (move_again t r (marks_around a (λ q. Then q b) (move s t r) m))
      ] h
  move_again t (Beside x y) h =
      let left = move_again t x (marks_around a (λ q. Beside q y) (move s t x) (marks_left a (around (λ q. Beside q y) (move s t x)) (around (λ q. Beside x q) (move s t y)) h)) in
      ap (λ m. or_move (around (λ q. Beside q y) m) (around (λ q. Beside x q) (move (with_answer a s) t y))) left
      ∙ or_again a (around (λ q. Beside q y) (move s t x)) (around (λ q. Beside x q) (move s t y)) (around (λ q. Beside x q) (move (with_answer a s) t y)) h
      (λ m. ap (around (λ q. Beside x q)) (move_again t y (marks_around a (λ q. Beside x q) (move s t y) m)))

-- the commands of a turn only grow
abbrev AskedMore : List Cmd → Option Progress → Type 0
AskedMore cs None = Unit {0}
AskedMore cs (Some q) = (more : List Cmd) × (q.asked ≡ cs ++ more)

after_asks : (p : Progress) (m : Move) → AskedMore p.asked (after_move p m)
after_asks p Stays = tt
after_asks p (Goes r t) = ([], sym (append-nil p.asked))
after_asks p (Asks r t c) = (c ∷ [], refl)
after_asks p (Ends c) = (c ∷ [], refl)

abbrev next_by : Bool → Bool → Progress → Move → Option Progress
next_by o d p m = if o then (if d then Some (ended p (Complete (Text []))) else after_move p m) else None

next_asks : (o d : Bool) (p : Progress) (m : Move) → AskedMore p.asked (next_by o d p m)
next_asks true true p m = (Complete (Text []) ∷ [], refl)
next_asks true false p m = after_asks p m
next_asks false d p m = tt

append_more : (xs ys zs : List Cmd) → (xs ++ ys) ++ zs ≡ xs ++ (ys ++ zs)
append_more [] ys zs = refl
append_more (x ∷ xs) ys zs = ap (λ l. x ∷ l) (append_more xs ys zs)

pub asked_grows : (n : ℕ) (f : Frame) (p last : Progress) → steps n f p ≡ Some last → (more : List Cmd) × (last.asked ≡ p.asked ++ more)
asked_grows zero f p last e = cc
asked_grows (suc n) f p last e =
    elim (next f p) as (λ o. AskedMore p.asked o → go_on f o p (steps n f) ≡ Some last → (more : List Cmd) × (last.asked ≡ p.asked ++ more)) [
      | None ↦ λ g v. let same : p ≡ last = cc v in ([], ap (λ (q : Progress). q.asked) (sym same) ∙ sym (append-nil p.asked))
      | Some q ↦ λ g v. let rest = asked_grows n f q last v in (g.0 ++ rest.0, rest.1 ∙ ap (λ cs. cs ++ rest.0) g.1 ∙ append_more p.asked g.0 rest.0)
    ] (next_asks (is_open p.state) (is_done p.rest) p (move (setting f p) p.store p.rest)) e

-- each marker among the commands is one that the answers say yes to, at its place
abbrev Agrees : (ℕ → Bytes → Bool) → List Cmd → Type 0
Agrees h cs = (i : ℕ) (id : Bytes) → slice_get cs i ≡ Some (RecordMarker id) → h i id ≡ true

at_place : (cs : List Cmd) (c : Cmd) (more : List Cmd) → slice_get ((cs ++ c ∷ []) ++ more) (length cs) ≡ Some c
at_place [] c more = refl
at_place (x ∷ cs) c more = at_place cs c more

marks_cmd : (h : ℕ → Bytes → Bool) (i : ℕ) (c : Cmd) → ((id : Bytes) → c ≡ RecordMarker id → h i id ≡ true) → MarksCmd (h i) c
marks_cmd h i (Schedule x vs n m k) f = tt
marks_cmd h i (StartTimer d) f = tt
marks_cmd h i (CancelTimer n) f = tt
marks_cmd h i (RecordMarker id) f = f id refl
marks_cmd h i (Complete v) f = tt
marks_cmd h i (Fail c t) f = tt
marks_cmd h i (ContinueAsNew vs) f = tt

marks_here : (n : ℕ) (f : Frame) (h : ℕ → Bytes → Bool) (p last : Progress) → Agrees h last.asked → (m : Move) → go_on f (after_move p m) p (steps n f) ≡ Some last → Marks (h (length p.asked)) m
marks_here n f h p last ag Stays e = tt
marks_here n f h p last ag (Goes r t) e = tt
marks_here n f h p last ag (Asks r t c) e =
    let q : Progress = record p { rest = r; store = t; asked = p.asked ++ c ∷ [] } in
    let grown = asked_grows n f q last e in
    marks_cmd h (length p.asked) c (λ id is. ag (length p.asked) id (ap (λ cs. slice_get cs (length p.asked)) grown.1 ∙ at_place p.asked c grown.0 ∙ ap Some is))
marks_here n f h p last ag (Ends c) e = tt

abbrev with_answers : (ℕ → Bytes → Bool) → Frame → Frame
with_answers h f = record f { answer = h }

next_again : (n : ℕ) (f : Frame) (h : ℕ → Bytes → Bool) (p last : Progress) → ((i : ℕ) (id : Bytes) → f.answer i id ≡ true) → Agrees h last.asked
    → (o d : Bool) → go_on f (next_by o d p (move (setting f p) p.store p.rest)) p (steps n f) ≡ Some last
    → next_by o d p (move (with_answer (h (length p.asked)) (setting f p)) p.store p.rest) ≡ next_by o d p (move (setting f p) p.store p.rest)
next_again n f h p last fresh ag true true e = refl
next_again n f h p last fresh ag true false e =
    ap (after_move p) (move_again (h (length p.asked)) (setting f p) (fresh (length p.asked)) p.store p.rest (marks_here n f h p last ag (move (setting f p) p.store p.rest) e))
next_again n f h p last fresh ag false d e = refl

steps_again : (n : ℕ) (f : Frame) (h : ℕ → Bytes → Bool) (p last : Progress) → ((i : ℕ) (id : Bytes) → f.answer i id ≡ true) → Agrees h last.asked → steps n f p ≡ Some last → steps n (with_answers h f) p ≡ Some last
steps_again zero f h p last fresh ag e = cc
steps_again (suc n) f h p last fresh ag e =
    let same : next (with_answers h f) p ≡ next f p = next_again n f h p last fresh ag (is_open p.state) (is_done p.rest) e in
    ap (λ o. go_on (with_answers h f) o p (steps n (with_answers h f))) same
    ∙ elim (next f p) as (λ o. go_on f o p (steps n f) ≡ Some last → go_on (with_answers h f) o p (steps n (with_answers h f)) ≡ Some last) [
      | None ↦ λ v. v
      | Some q ↦ λ v. steps_again n f h q last fresh ag v
    ] e

-- the traces of commands, one by one
trace_at : (n at i : ℕ) (cs : List Cmd) (rest : List Event) (c : Cmd) → slice_get cs i ≡ Some c → (e : Event) × ((slice_get (traces n at cs ++ rest) i ≡ Some e) × (e.what ≡ Asked c))
trace_at n at i [] rest c h = cc
trace_at n at zero (x ∷ cs) rest c h = let same : x ≡ c = cc h in (record { id = n; at = at; what = Asked x }, (refl, ap Asked same))
trace_at n at (suc i) (x ∷ cs) rest c h = trace_at (n + 1) at i cs rest c h

same_bytes : (id : Bytes) → bytes_eq id id ≡ true
same_bytes id = search (Rattle.std.proofs.Common.rules)

abbrev marker_in : Bytes → What → Bool
marker_in id w = elim w [ Came i ↦ false | Asked c ↦ elim c [ RecordMarker i ↦ bytes_eq i id | _ ↦ false ] ]

pub own_traces : (n at : ℕ) (cs : List Cmd) (rest : List Event) → Agrees (answer_of (Recorded (traces n at cs ++ rest))) cs
own_traces n at cs rest i id h =
    let found = trace_at n at i cs rest (RecordMarker id) h in
    ap (is_marker id) found.1.0 ∙ ap (marker_in id) found.1.1 ∙ same_bytes id

-- a fresh turn is a recorded one over the traces of its own commands, whatever follows
pub fresh_is_recorded : (p : Program) (k : Configuration) (at : ℕ) (i : Input) (cs : List Cmd) (k' : Configuration) (n : ℕ) (rest : List Event)
    → Turn p Fresh k at i cs k' → Turn p (Recorded (traces n at cs ++ rest)) k at i cs k'
fresh_is_recorded p k at i cs k' n rest t =
    let h = answer_of (Recorded (traces n at cs ++ rest)) in
    record {
      start = t.start;
      delivered = t.delivered;
      count = t.count;
      last = t.last;
      runs = steps_again t.count (frame p k at i Fresh) h t.start t.last (λ _ _. refl) (subst (Agrees h) t.asks (own_traces n at cs rest)) t.runs;
      asks = t.asks;
      leaves = t.leaves;
    }
