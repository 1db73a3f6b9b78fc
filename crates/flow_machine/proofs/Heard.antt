-- A standing history leaves its run in the state that its events say, whatever calls it has, and an open run takes each signal that
-- its program declares.
use Rattle.std.proofs.Common.{◌≡◌, ℕ, zero, suc, ◌+◌, List, [], ◌∷◌, ◌++◌, refl, sym, ap, ◌∙◌, subst, arith, length, Option, Some, None, Bool, true, false, ◌&&◌, slice_get, bytes_eq}
use Rattle.std.specs.Prelude.{if◌then◌else◌}
use Rattle.std.proofs.lemmas.Option.{none-some, same_Some}
use Rattle.std.proofs.lemmas.Bool.{true≢false}
use Rattle.flow_base.specs.Syntax.{Bytes, Program, Declared, Activity, Signal, signals_of}
use Rattle.flow_base.specs.declared.value.Value.{Value}
use Rattle.flow_base.specs.declared.value.Value.TheVariants.{Text}
use Rattle.flow_base.specs.declared.value.Kind.{Kind}
use Rattle.flow_base.specs.declared.event.Cmd.{Cmd}
use Rattle.flow_base.specs.declared.event.Cmd.TheVariants.{Schedule, StartTimer, CancelTimer, RecordMarker, Complete, Fail, ContinueAsNew}
use Rattle.flow_base.specs.declared.event.Input.{Input}
use Rattle.flow_base.specs.declared.event.Input.TheVariants as input
use Rattle.flow_base.specs.declared.event.Event.{Event}
use Rattle.flow_base.specs.declared.event.State.{State}
use Rattle.flow_base.specs.declared.event.State.TheVariants as state
use Rattle.flow_base.specs.declared.book.Run.{Run}
use Rattle.flow_model.specs.WellFormed.{signal_of}
use Rattle.flow_model.specs.Values.{with_variable}
use Rattle.flow_model.specs.Rest.{Rest, Done, rest_of, is_done}
use Rattle.flow_model.specs.Configuration.{Configuration, first_configuration, none_decided, is_open}
use Rattle.flow_model.specs.Step.{Move, Stays, Goes, Asks, Ends, move}
use Rattle.flow_model.specs.Deliver.{Progress, deliver, begun, bound, all_fit, completed, with_rest, start_from, has_kind, signal_fits, target_of, replaced, when_completed, when_failed, when_fired}
use Rattle.flow_model.specs.Turn.{Answers, Recorded, Frame, Turn, frame, setting, next, go_on, steps, ended, after_move}
use Rattle.flow_model.specs.Stands.{Stands, Leads}
use Rattle.flow_model.specs.Open.{state_after, state_after_one, state_of}
use Rattle.flow_model.specs.Book.{Book, nth, first_from, is_open_of, open_run}
use Rattle.flow_model.proofs.Awaits.{calls}
use Rattle.flow_model.proofs.Leaves.{state_came, state_asked, states_asked, states_push, open_state, came_state, asked_state}
use Rattle.flow_machine.proofs.Awaited.{Did, Moves, moves, asked}
use Rattle.flow_machine.proofs.Places.{nth_at}

---- States

-- a command that a move asks for closes nothing
still_open : (s : State) (c : Cmd) (e : ℕ) (r q : Rest) → Did calls e r q (asked calls c) → state_asked s c ≡ s
still_open s (Schedule a vs n m k) e r q h = refl
still_open s (StartTimer d) e r q h = refl
still_open s (CancelTimer n) e r q h = refl
still_open s (RecordMarker id) e r q h = refl
still_open s (Complete v) e r q h = absurd h
still_open s (Fail c t) e r q h = absurd h
still_open s (ContinueAsNew vs) e r q h = absurd h

-- a run within a turn that began in this state
abbrev Fares : State → Progress → Type 0
Fares s p = states_asked s p.asked ≡ p.state

abbrev FaresIf : State → Option Progress → Type 0
FaresIf s None = Unit {0}
FaresIf s (Some p) = Fares s p

ended_fares : (s : State) (p : Progress) (c : Cmd) → p.state ≡ state.Open → Fares s p → Fares s (ended p c)
ended_fares s p c o h = states_push s p.asked c ∙ ap (λ (x : State). state_asked x c) (h ∙ o)

after_fares : (s : State) (e : ℕ) (p : Progress) (m : Move) → p.state ≡ state.Open → Moves calls e p.rest m → Fares s p → FaresIf s (after_move p m)
after_fares s e p Stays o w h = tt
after_fares s e p (Goes r t) o w h = h
after_fares s e p (Asks r t c) o w h = states_push s p.asked c ∙ ap (λ (x : State). state_asked x c) h ∙ still_open p.state c e p.rest r w
after_fares s e p (Ends c) o w h = ended_fares s p c o h

abbrev next_by : Bool → Bool → Progress → Move → Option Progress
next_by o d p m = if o then (if d then Some (ended p (Complete (Text []))) else after_move p m) else None

next_fares : (s : State) (e : ℕ) (o d : Bool) (p : Progress) (m : Move) → is_open p.state ≡ o → Moves calls e p.rest m → Fares s p → FaresIf s (next_by o d p m)
next_fares s e true true p m is w h = ended_fares s p (Complete (Text [])) (open_state p.state is) h
next_fares s e true false p m is w h = after_fares s e p m (open_state p.state is) w h
next_fares s e false d p m is w h = tt

steps_fare : (n : ℕ) (f : Frame) (s : State) (p last : Progress) → Fares s p → steps n f p ≡ Some last → Fares s last
steps_fare zero f s p last h e = absurd (none-some last e)
steps_fare (suc n) f s p last h e =
    elim (next f p) as (λ o. FaresIf s o → go_on f o p (steps n f) ≡ Some last → Fares s last) [
      | None ↦ λ g v. subst (Fares s) (same_Some p last v) h
      | Some q ↦ λ g v. steps_fare n f s q last g v
    ] (next_fares s (f.events + length p.asked + 1) (is_open p.state) (is_done p.rest) p (move (setting f p) p.store p.rest) refl (moves calls (setting f p) p.store p.rest) h) e

---- Turns

-- a turn begins in this state
abbrev BeginsIf : State → Option Progress → Type 0
BeginsIf s None = Unit {0}
BeginsIf s (Some p) = (p.asked ≡ []) × (p.state ≡ s)

if_begins : (s : State) (b : Bool) (o : Option Progress) → BeginsIf s o → BeginsIf s (if b then o else None)
if_begins s true o h = h
if_begins s false o h = tt

first_begins : (s : State) (o : Option Progress) → BeginsIf state.Open o → BeginsIf state.Open (elim s [ state.Unbegun ↦ o | _ ↦ None ])
first_begins state.Unbegun o h = h
first_begins state.Open o h = tt
first_begins state.Completed o h = tt
first_begins state.Failed o h = tt
first_begins state.Continued o h = tt
first_begins state.Terminated o h = tt

begun_begins : (p : Program) (vs : List Value) → BeginsIf state.Open (begun p vs)
begun_begins p vs =
    if_begins state.Open (all_fit p.parameters vs) (Some (record { rest = rest_of p.body; store = record { variables = bound p.parameters vs; buffer = []; decided = none_decided; tests = 0 }; asked = []; state = state.Open })) (refl, refl)

with_begins : (k : Configuration) (o : Option Rest) → BeginsIf k.state (with_rest k o)
with_begins k None = tt
with_begins k (Some r) = (refl, refl)

completed_begins : (k : Configuration) (n : ℕ) (v : Value) (o : Option (Bytes × Kind)) → BeginsIf k.state (completed k n v o)
completed_begins k n v None = tt
completed_begins k n v (Some x) =
    if_begins k.state (has_kind x.1 v) (elim (replaced (when_completed n) k.rest) [ None ↦ None | Some r ↦ Some (start_from k r (with_variable k.variables x.0 v)) ])
    (elim (replaced (when_completed n) k.rest) as (λ o. BeginsIf k.state (elim o [ None ↦ None | Some r ↦ Some (start_from k r (with_variable k.variables x.0 v)) ])) [
      | None ↦ tt
      | Some r ↦ (refl, refl)
    ])

-- a run that takes a signal
abbrev heard : Configuration → Bytes → Value → Progress
heard k name v =
    record { rest = k.rest; store = record { variables = k.variables; buffer = k.buffer ++ (name, v) ∷ []; decided = k.decided; tests = 0 }; asked = []; state = k.state }

deliver_begins : (p : Program) (k : Configuration) (i : Input) → BeginsIf (state_came k.state i) (deliver p k i)
deliver_begins p k (input.Started vs) = first_begins k.state (begun p vs) (begun_begins p vs)
deliver_begins p k (input.Signaled name request v) = if_begins k.state (is_open k.state && signal_fits (signals_of p.declarations) name v) (Some (heard k name v)) (refl, refl)
deliver_begins p k (input.ActivityCompleted n v) = if_begins k.state (is_open k.state) (completed k n v (target_of n k.rest)) (completed_begins k n v (target_of n k.rest))
deliver_begins p k (input.ActivityFailed n text) =
    if_begins k.state (is_open k.state) (with_rest k (replaced (when_failed n text) k.rest)) (with_begins k (replaced (when_failed n text) k.rest))
deliver_begins p k (input.TimerFired n) = if_begins k.state (is_open k.state) (with_rest k (replaced (when_fired n) k.rest)) (with_begins k (replaced (when_fired n) k.rest))
deliver_begins p k (input.Terminated text) =
    if_begins state.Terminated (is_open k.state) (Some (record (start_from k Done k.variables) { state = state.Terminated })) (refl, refl)

turn_states : (p : Program) (answers : Answers) (old : Configuration) (at : ℕ) (i : Input) (cs : List Cmd) (new : Configuration) → Turn p answers old at i cs new
    → states_asked (state_came old.state i) cs ≡ new.state
turn_states p answers old at i cs new t =
    let s = state_came old.state i in
    let first : BeginsIf s (Some t.start) = subst (BeginsIf s) t.delivered (deliver_begins p old i) in
    let fares : Fares s t.start = ap (states_asked s) first.0 ∙ sym first.1 in
    let last = steps_fare t.count (frame p old at i answers) s t.start t.last fares t.runs in
    ap (states_asked s) t.asks ∙ last ∙ sym (ap (λ (q : Configuration). q.state) t.leaves)

---- Histories

leads_states : (p : Program) (n : ℕ) (due : List Cmd) (k : Configuration) (h : List Event) (k' : Configuration) (s : State) → states_asked s due ≡ k.state → Leads p n due k h k' → state_after s h ≡ k'.state
leads_states p n due k [] k' s e l = sym (ap (states_asked s) l.0) ∙ e ∙ ap (λ (q : Configuration). q.state) l.1
leads_states p n [] k (d ∷ later) k' s e l =
    let a = l.1.1.0 in
    let there : states_asked (state_after_one s d) l.0 ≡ l.1.0.state =
    ap (λ (x : State). states_asked x l.0) (came_state s d a.2.0 a.2.1 ∙ ap (λ (x : State). state_came x a.2.0) e) ∙ turn_states p (Recorded later) k d.at a.2.0 l.0 l.1.0 a.2.2
    in leads_states p (suc n) l.0 l.1.0 later k' (state_after_one s d) there l.1.1.1
leads_states p n (c ∷ due) k (d ∷ later) k' s e l =
    let a = l.1.1.0 in
    let same : k ≡ l.1.0 = sym a.4 in
    let there : states_asked (state_after_one s d) l.0 ≡ l.1.0.state =
    ap (states_asked (state_after_one s d)) a.3 ∙ ap (λ (x : State). states_asked x due) (asked_state s d c a.2) ∙ e ∙ ap (λ (q : Configuration). q.state) same
    in leads_states p (suc n) l.0 l.1.0 later k' (state_after_one s d) there l.1.1.1

stands_state : (p : Program) (h : List Event) (k : Configuration) → Stands p h k → state_of h ≡ k.state
stands_state p h k s = leads_states p 1 [] first_configuration h k state.Unbegun refl s.1

---- Signals

fits_one : (b : Bool) (carries k : Kind) (v : Value) (o : Option Kind) (t : Bool) → (if b then Some carries else o) ≡ Some k → has_kind k v ≡ true → (o ≡ Some k → t ≡ true)
    → (if b then has_kind carries v else t) ≡ true
fits_one true carries k v o t e f more = ap (λ (x : Kind). has_kind x v) (same_Some carries k e) ∙ f
fits_one false carries k v o t e f more = more e

fits_declared : (ds : List Declared) (name : Bytes) (v : Value) (k : Kind) → has_kind k v ≡ true → signal_of ds name ≡ Some k → signal_fits (signals_of ds) name v ≡ true
fits_declared [] name v k f e = absurd (none-some k e)
fits_declared (Activity at name_at x takes gives ∷ ds) name v k f e = fits_declared ds name v k f e
fits_declared (Signal at name_at x carries ∷ ds) name v k f e =
    fits_one (bytes_eq x name) carries k v (signal_of ds name) (signal_fits (signals_of ds) name v) e f (fits_declared ds name v k f)

can_take : (a b : Bool) (x : Progress) → a ≡ true → b ≡ true → (if a && b then Some x else None) ≡ None → ⊥
can_take true true x opened fits e = none-some x (sym e)
can_take true false x opened fits e = true≢false (sym fits)
can_take false b x opened fits e = true≢false (sym opened)

-- an open run takes a signal that its program declares with the value's type
pub signal_taken : (p : Program) (h : List Event) (k : Configuration) (request name : Bytes) (v : Value) (kind : Kind) → Stands p h k → is_open (state_of h) ≡ true → signal_of p.declarations name ≡ Some kind
    → has_kind kind v ≡ true → deliver p k (input.Signaled name request v) ≡ None → ⊥
signal_taken p h k request name v kind stands opened declared fits =
    can_take (is_open k.state) (signal_fits (signals_of p.declarations) name v) (heard k name v) (ap is_open (sym (stands_state p h k stands)) ∙ opened) (fits_declared p.declarations name v kind fits declared)

---- The open run of a flow

right_true : (a b : Bool) → a && b ≡ true → b ≡ true
right_true true b e = e
right_true false b e = absurd (true≢false (sym e))

module _ (b : Book) (flow : Bytes) (n : ℕ) where
  abbrev IsThere : Type 0
  IsThere = (r : Run) × ((nth b.runs n ≡ Some r) × (is_open (state_of r.history) ≡ true))

  open_one : (m : ℕ) (x : Run) (o : Option ℕ) (v : Bool) → is_open_of flow x ≡ v → nth b.runs m ≡ Some x → (o ≡ Some n → IsThere) → (if v then Some m else o) ≡ Some n → IsThere
  open_one m x o true is there more e =
      (x, (subst (λ j. nth b.runs j ≡ Some x) (same_Some m n e) there, right_true (bytes_eq x.flow flow) (is_open (state_of x.history)) is))
  open_one m x o false is there more e = more e

  open_from : (m : ℕ) (rs : List Run) → ((i : ℕ) → nth b.runs (m + i) ≡ slice_get rs i) → first_from (is_open_of flow) m rs ≡ Some n → IsThere
  open_from m [] at e = absurd (none-some n e)
  open_from m (x ∷ xs) at e =
      let here : m + 0 ≡ m = omega arith in
      open_one m x (first_from (is_open_of flow) (m + 1) xs) (is_open_of flow x) refl (subst (λ j. nth b.runs j ≡ Some x) here (at 0))
      (open_from (m + 1) xs (λ i. let next : m + suc i ≡ m + 1 + i = omega arith in subst (λ j. nth b.runs j ≡ slice_get xs i) next (at (suc i)))) e

-- the open run that is found is there, and open
pub open_is_there : (b : Book) (flow : Bytes) (n : ℕ) → open_run b flow ≡ Some n → (r : Run) × ((nth b.runs n ≡ Some r) × (is_open (state_of r.history) ≡ true))
open_is_there b flow n = open_from b flow n 1 b.runs (λ i. nth_at b.runs (1 + i) i (omega arith))
