-- How a turn leaves a run, and a standing history: what of the program is still to run, the state and the moment.
use Rattle.std.proofs.Common.{◌≡◌, ℕ, zero, suc, ◌+◌, List, [], ◌∷◌, ◌++◌, All, refl, sym, ap, ◌∙◌, subst, Option, Some, None, Bool, true, false, ◌&&◌}
use Rattle.std.specs.Prelude.{if◌then◌else◌}
use Rattle.std.proofs.lemmas.List.Elements.{All-nil, All-push}
use Rattle.flow_base.specs.Syntax.{Bytes, Program, signals_of}
use Rattle.flow_base.specs.declared.value.Value.{Value}
use Rattle.flow_base.specs.declared.value.Value.TheVariants.{Text}
use Rattle.flow_base.specs.declared.value.Kind.{Kind}
use Rattle.flow_base.specs.declared.event.Cmd.{Cmd}
use Rattle.flow_base.specs.declared.event.Cmd.TheVariants.{Schedule, StartTimer, CancelTimer, RecordMarker, Complete, Fail, ContinueAsNew}
use Rattle.flow_base.specs.declared.event.Input.{Input}
use Rattle.flow_base.specs.declared.event.Input.TheVariants as input
use Rattle.flow_base.specs.declared.event.What.{What}
use Rattle.flow_base.specs.declared.event.What.TheVariants.{Came, Asked}
use Rattle.flow_base.specs.declared.event.Event.{Event}
use Rattle.flow_base.specs.declared.event.State.{State}
use Rattle.flow_base.specs.declared.event.State.TheVariants as state
use Rattle.flow_base.specs.Effects.{effect_of, effect_of_input, effect_of_command, state_by}
use Rattle.flow_model.specs.Rest.{Rest, Done, rest_of, is_done}
use Rattle.flow_model.specs.Configuration.{Configuration, first_configuration, none_decided, is_open}
use Rattle.flow_model.specs.Step.{Move, Stays, Goes, Asks, Ends, move}
use Rattle.flow_model.specs.Values.{with_variable}
use Rattle.flow_model.specs.Deliver.{Progress, deliver, begun, completed, with_rest, start_from, all_fit, bound, has_kind, signal_fits, target_of, replaced, when_completed, when_failed, when_fired}
use Rattle.flow_model.specs.Turn.{Frame, Answers, Fresh, Recorded, Turn, is_started, frame, steps, next, go_on, setting, ended, after_move, state_after_command, left_by}
use Rattle.flow_model.specs.Turned.{traces, turn_events}
use Rattle.flow_model.specs.Stands.{Leads, Stands}
use Rattle.flow_model.specs.Apply.{continued}
use Rattle.flow_model.specs.Open.{state_after_one, state_after, state_of, moment_after, moment_of}
use Rattle.flow_model.proofs.Tries.{TriedBlock, TriedRest, TriedIf, AskedWell, GoesOn, MovesWell, moves_well, replaced_tried, completed_tried, failed_tried, fired_tried}

-- how an input and a command leave a run
abbrev pub state_came : State → Input → State
state_came s i = state_by s (effect_of_input i)

abbrev pub state_asked : State → Cmd → State
state_asked s c = state_by s (effect_of_command c)

-- how commands leave it
abbrev pub states_asked : State → List Cmd → State
states_asked s [] = s
states_asked s (c ∷ cs) = states_asked (state_asked s c) cs

-- each of the commands is asked of an open run
abbrev pub AskedOpen : State → List Cmd → Type 0
AskedOpen s [] = Unit {0}
AskedOpen s (c ∷ cs) = (is_open s ≡ true) × AskedOpen (state_asked s c) cs

pub states_push : (s : State) (cs : List Cmd) (c : Cmd) → states_asked s (cs ++ c ∷ []) ≡ state_asked (states_asked s cs) c
states_push s [] c = refl
states_push s (d ∷ cs) c = states_push (state_asked s d) cs c

open_push : (s : State) (cs : List Cmd) (c : Cmd) → AskedOpen s cs → is_open (states_asked s cs) ≡ true → AskedOpen s (cs ++ c ∷ [])
open_push s [] c h o = (o, tt)
open_push s (d ∷ cs) c h o = (h.0, open_push (state_asked s d) cs c h.1 o)

pub open_state : (s : State) → is_open s ≡ true → s ≡ state.Open
open_state state.Unbegun e = cc
open_state state.Open e = refl
open_state state.Completed e = cc
open_state state.Failed e = cc
open_state state.Continued e = cc
open_state state.Terminated e = cc

closes : (c : Cmd) → state_asked state.Open c ≡ state_after_command c
closes c = refl

goes_on_as : (s : State) (c : Cmd) → GoesOn c → state_asked s c ≡ s
goes_on_as s (Schedule a vs n m k) h = refl
goes_on_as s (StartTimer d) h = refl
goes_on_as s (CancelTimer n) h = refl
goes_on_as s (RecordMarker id) h = refl
goes_on_as s (Complete v) h = absurd h
goes_on_as s (Fail c t) h = absurd h
goes_on_as s (ContinueAsNew vs) h = absurd h

goes_on_well : (c : Cmd) → GoesOn c → AskedWell c
goes_on_well (Schedule a vs n m k) h = h
goes_on_well (StartTimer d) h = tt
goes_on_well (CancelTimer n) h = tt
goes_on_well (RecordMarker id) h = tt
goes_on_well (Complete v) h = tt
goes_on_well (Fail c t) h = tt
goes_on_well (ContinueAsNew vs) h = absurd h

-- a run within a turn that began in this state
record Fares (s : State) (p : Progress) : Type 0 where
  pub tried : TriedRest p.rest
  pub asked : All AskedWell p.asked
  pub going : AskedOpen s p.asked
  pub leaves : states_asked s p.asked ≡ p.state

abbrev FaresIf : State → Option Progress → Type 0
FaresIf s None = Unit {0}
FaresIf s (Some p) = Fares s p

ended_fares : (s : State) (p : Progress) (c : Cmd) → p.state ≡ state.Open → AskedWell c → Fares s p → Fares s (ended p c)
ended_fares s p c o w h =
    record {
      tried = tt;
      asked = All-push AskedWell p.asked c h.asked w;
      going = open_push s p.asked c h.going (ap is_open (h.leaves ∙ o));
      leaves = states_push s p.asked c ∙ ap (λ (x : State). state_asked x c) (h.leaves ∙ o) ∙ closes c;
    }

after_fares : (s : State) (p : Progress) (m : Move) → p.state ≡ state.Open → MovesWell m → Fares s p → FaresIf s (after_move p m)
after_fares s p Stays o w h = tt
after_fares s p (Goes r t) o w h = record { tried = w; asked = h.asked; going = h.going; leaves = h.leaves }
after_fares s p (Asks r t c) o w h =
    record {
      tried = w.0;
      asked = All-push AskedWell p.asked c h.asked (goes_on_well c w.1);
      going = open_push s p.asked c h.going (ap is_open (h.leaves ∙ o));
      leaves = states_push s p.asked c ∙ ap (λ (x : State). state_asked x c) h.leaves ∙ goes_on_as p.state c w.1;
    }
after_fares s p (Ends c) o w h = ended_fares s p c o w h

abbrev next_by : Bool → Bool → Progress → Move → Option Progress
next_by o d p m = if o then (if d then Some (ended p (Complete (Text []))) else after_move p m) else None

next_fares : (s : State) (o d : Bool) (p : Progress) (m : Move) → is_open p.state ≡ o → MovesWell m → Fares s p → FaresIf s (next_by o d p m)
next_fares s true true p m e w h = ended_fares s p (Complete (Text [])) (open_state p.state e) tt h
next_fares s true false p m e w h = after_fares s p m (open_state p.state e) w h
next_fares s false d p m e w h = tt

steps_fare : (n : ℕ) (f : Frame) (s : State) (p last : Progress) → Fares s p → steps n f p ≡ Some last → Fares s last
steps_fare zero f s p last h e = cc
steps_fare (suc n) f s p last h e =
    elim (next f p) as (λ o. FaresIf s o → go_on f o p (steps n f) ≡ Some last → Fares s last) [
      | None ↦ λ g v. let same : p ≡ last = cc v in subst (Fares s) same h
      | Some q ↦ λ g v. steps_fare n f s q last g v
    ] (next_fares s (is_open p.state) (is_done p.rest) p (move (setting f p) p.store p.rest) refl (moves_well (setting f p) p.store p.rest h.tried) h) e

-- a turn begins in this state
record Begins (s : State) (p : Progress) : Type 0 where
  pub tried : TriedRest p.rest
  pub asked : p.asked ≡ []
  pub begins : p.state ≡ s

abbrev BeginsIf : State → Option Progress → Type 0
BeginsIf s None = Unit {0}
BeginsIf s (Some p) = Begins s p

if_begins : (s : State) (b : Bool) (o : Option Progress) → BeginsIf s o → BeginsIf s (if b then o else None)
if_begins s true o h = h
if_begins s false o h = tt

begun_begins : (p : Program) (vs : List Value) → TriedBlock p.body → BeginsIf state.Open (begun p vs)
begun_begins p vs h =
    if_begins state.Open (all_fit p.parameters vs) (Some (record { rest = rest_of p.body; store = record { variables = bound p.parameters vs; buffer = []; decided = none_decided; tests = 0 }; asked = []; state = state.Open }))
    (record { tried = (tt, h); asked = refl; begins = refl })

first_begins : (s : State) (o : Option Progress) → BeginsIf state.Open o → BeginsIf state.Open (elim s [ state.Unbegun ↦ o | _ ↦ None ])
first_begins state.Unbegun o h = h
first_begins state.Open o h = tt
first_begins state.Completed o h = tt
first_begins state.Failed o h = tt
first_begins state.Continued o h = tt
first_begins state.Terminated o h = tt

with_begins : (k : Configuration) (o : Option Rest) → TriedIf o → BeginsIf k.state (with_rest k o)
with_begins k None h = tt
with_begins k (Some r) h = record { tried = h; asked = refl; begins = refl }

completed_begins : (k : Configuration) (n : ℕ) (v : Value) (o : Option (Bytes × Kind)) → TriedRest k.rest → BeginsIf k.state (completed k n v o)
completed_begins k n v None h = tt
completed_begins k n v (Some x) h =
    if_begins k.state (has_kind x.1 v) (elim (replaced (when_completed n) k.rest) [ None ↦ None | Some r ↦ Some (start_from k r (with_variable k.variables x.0 v)) ])
    (elim (replaced (when_completed n) k.rest) as (λ o. TriedIf o → BeginsIf k.state (elim o [ None ↦ None | Some r ↦ Some (start_from k r (with_variable k.variables x.0 v)) ])) [
      | None ↦ λ t. tt
      | Some r ↦ λ t. record { tried = t; asked = refl; begins = refl }
    ] (replaced_tried (when_completed n) (completed_tried n) k.rest h))

deliver_begins : (p : Program) (k : Configuration) (i : Input) → TriedBlock p.body → TriedRest k.rest → BeginsIf (state_came k.state i) (deliver p k i)
deliver_begins p k (input.Started vs) b h = first_begins k.state (begun p vs) (begun_begins p vs b)
deliver_begins p k (input.Signaled name request v) b h =
    if_begins k.state (is_open k.state && signal_fits (signals_of p.declarations) name v)
    (Some (record { rest = k.rest; store = record { variables = k.variables; buffer = k.buffer ++ (name, v) ∷ []; decided = k.decided; tests = 0 }; asked = []; state = k.state }))
    (record { tried = h; asked = refl; begins = refl })
deliver_begins p k (input.ActivityCompleted n v) b h =
    if_begins k.state (is_open k.state) (completed k n v (target_of n k.rest)) (completed_begins k n v (target_of n k.rest) h)
deliver_begins p k (input.ActivityFailed n text) b h =
    if_begins k.state (is_open k.state) (with_rest k (replaced (when_failed n text) k.rest))
    (with_begins k (replaced (when_failed n text) k.rest) (replaced_tried (when_failed n text) (failed_tried n text) k.rest h))
deliver_begins p k (input.TimerFired n) b h =
    if_begins k.state (is_open k.state) (with_rest k (replaced (when_fired n) k.rest))
    (with_begins k (replaced (when_fired n) k.rest) (replaced_tried (when_fired n) (fired_tried n) k.rest h))
deliver_begins p k (input.Terminated text) b h =
    if_begins state.Terminated (is_open k.state) (Some (record (start_from k Done k.variables) { state = state.Terminated }))
    (record { tried = tt; asked = refl; begins = refl })

-- How a turn leaves a run that it found in this state.
pub record Leaves (s : State) (at : ℕ) (i : Input) (cs : List Cmd) (k : Configuration) : Type 0 where
  pub tried : TriedRest k.rest
  pub asked : All AskedWell cs
  pub going : AskedOpen (state_came s i) cs
  pub leaves : states_asked (state_came s i) cs ≡ k.state
  pub moment : k.moment ≡ at

pub turn_leaves : (p : Program) (answers : Answers) (old : Configuration) (at : ℕ) (i : Input) (cs : List Cmd) (new : Configuration)
    → TriedBlock p.body → TriedRest old.rest → Turn p answers old at i cs new → Leaves old.state at i cs new
turn_leaves p answers old at i cs new b h t =
    let s = state_came old.state i in
    let first : Begins s t.start = subst (BeginsIf s) t.delivered (deliver_begins p old i b h) in
    let fares : Fares s t.start =
    record {
      tried = first.tried;
      asked = subst (All AskedWell) (sym first.asked) (All-nil AskedWell);
      going = subst (AskedOpen s) (sym first.asked) tt;
      leaves = ap (states_asked s) first.asked ∙ sym first.begins;
    } in
    let last = steps_fare t.count (frame p old at i answers) s t.start t.last fares t.runs in
    record {
      tried = subst (λ (q : Configuration). TriedRest q.rest) (sym t.leaves) last.tried;
      asked = subst (All AskedWell) (sym t.asks) last.asked;
      going = subst (AskedOpen s) (sym t.asks) last.going;
      leaves = ap (states_asked s) t.asks ∙ last.leaves ∙ sym (ap (λ (q : Configuration). q.state) t.leaves);
      moment = ap (λ (q : Configuration). q.moment) t.leaves;
    }

pub came_state : (s : State) (e : Event) (i : Input) → e.what ≡ Came i → state_after_one s e ≡ state_came s i
came_state s e i h = ap (λ (w : What). state_by s (effect_of w)) h

pub asked_state : (s : State) (e : Event) (c : Cmd) → e.what ≡ Asked c → state_after_one s e ≡ state_asked s c
asked_state s e c h = ap (λ (w : What). state_by s (effect_of w)) h

-- How a standing history leaves its run.
pub record Left (s : State) (at : ℕ) (k : Configuration) : Type 0 where
  pub tried : TriedRest k.rest
  pub leaves : s ≡ k.state
  pub moment : at ≡ k.moment

leads_left : (p : Program) (n : ℕ) (due : List Cmd) (k : Configuration) (h : List Event) (k' : Configuration) (s : State)
    → TriedBlock p.body → TriedRest k.rest → states_asked s due ≡ k.state → Leads p n due k h k' → Left (state_after s h) (moment_after k.moment h) k'
leads_left p n due k [] k' s b t e l =
    record {
      tried = subst (λ (q : Configuration). TriedRest q.rest) l.1 t;
      leaves = sym (ap (states_asked s) l.0) ∙ e ∙ ap (λ (q : Configuration). q.state) l.1;
      moment = ap (λ (q : Configuration). q.moment) l.1;
    }
leads_left p n [] k (d ∷ later) k' s b t e l =
    let a = l.1.1.0 in
    let turn = turn_leaves p (Recorded later) k d.at a.2.0 l.0 l.1.0 b t a.2.2 in
    let there : states_asked (state_after_one s d) l.0 ≡ l.1.0.state =
    ap (λ (x : State). states_asked x l.0) (came_state s d a.2.0 a.2.1 ∙ ap (λ (x : State). state_came x a.2.0) e) ∙ turn.leaves
    in
    let rest = leads_left p (suc n) l.0 l.1.0 later k' (state_after_one s d) b turn.tried there l.1.1.1 in
    record { tried = rest.tried; leaves = rest.leaves; moment = ap (λ (m : ℕ). moment_after m later) (sym turn.moment) ∙ rest.moment }
leads_left p n (c ∷ due) k (d ∷ later) k' s b t e l =
    let a = l.1.1.0 in
    let same : k ≡ l.1.0 = sym a.4 in
    let there : states_asked (state_after_one s d) l.0 ≡ l.1.0.state =
    ap (states_asked (state_after_one s d)) a.3 ∙ ap (λ (x : State). states_asked x due) (asked_state s d c a.2) ∙ e
    ∙ ap (λ (q : Configuration). q.state) same
    in
    let rest = leads_left p (suc n) l.0 l.1.0 later k' (state_after_one s d) b (subst (λ (q : Configuration). TriedRest q.rest) same t) there l.1.1.1 in
    let moved : d.at ≡ l.1.0.moment = a.1 ∙ ap (λ (q : Configuration). q.moment) same in
    record { tried = rest.tried; leaves = rest.leaves; moment = ap (λ (m : ℕ). moment_after m later) moved ∙ rest.moment }

pub stands_left : (p : Program) (h : List Event) (k : Configuration) → TriedBlock p.body → Stands p h k → Left (state_of h) (moment_of h) k
stands_left p h k b s = leads_left p 1 [] first_configuration h k state.Unbegun b tt refl s.1

---- Inputs

if_open : (o : Bool) (q : Option Progress) (p : Progress) → (if o then q else None) ≡ Some p → o ≡ true
if_open true q p e = refl
if_open false q p e = cc

both_open : (o f : Bool) (q : Option Progress) (p : Progress) → (if o && f then q else None) ≡ Some p → o ≡ true
both_open true f q p e = refl
both_open false f q p e = cc

-- what isn't the start of a run comes to an open one
pub delivered_open : (p : Program) (k : Configuration) (i : Input) (start : Progress) → is_started i ≡ false → deliver p k i ≡ Some start → is_open k.state ≡ true
delivered_open p k (input.Started vs) start h e = cc
delivered_open p k (input.Signaled name request v) start h e =
    both_open (is_open k.state) (signal_fits (signals_of p.declarations) name v)
    (Some (record { rest = k.rest; store = record { variables = k.variables; buffer = k.buffer ++ (name, v) ∷ []; decided = k.decided; tests = 0 }; asked = []; state = k.state })) start e
delivered_open p k (input.ActivityCompleted n v) start h e = if_open (is_open k.state) (completed k n v (target_of n k.rest)) start e
delivered_open p k (input.ActivityFailed n text) start h e = if_open (is_open k.state) (with_rest k (replaced (when_failed n text) k.rest)) start e
delivered_open p k (input.TimerFired n) start h e = if_open (is_open k.state) (with_rest k (replaced (when_fired n) k.rest)) start e
delivered_open p k (input.Terminated text) start h e =
    if_open (is_open k.state) (Some (record (start_from k Done k.variables) { state = state.Terminated })) start e

-- an open run can be terminated, and then asks nothing
pub terminates : (p : Program) (k : Configuration) (at : ℕ) (text : Bytes) → is_open k.state ≡ true → (new : Configuration) × Turn p Fresh k at (input.Terminated text) [] new
terminates p k at text h =
    let start : Progress = record (start_from k Done k.variables) { state = state.Terminated } in
    let given : deliver p k (input.Terminated text) ≡ Some start = ap (λ (b : Bool). if b then Some start else None) h in (
      left_by (frame p k at (input.Terminated text) Fresh) start,
      record { start = start; delivered = given; count = 1; last = start; runs = refl; asks = refl; leaves = refl },
    )

---- States

closed_asked : (s : State) (c : Cmd) → is_open s ≡ false → is_open (state_asked s c) ≡ false
closed_asked s (Schedule a vs n m k) h = h
closed_asked s (StartTimer d) h = h
closed_asked s (CancelTimer n) h = h
closed_asked s (RecordMarker id) h = h
closed_asked s (Complete v) h = refl
closed_asked s (Fail c t) h = refl
closed_asked s (ContinueAsNew vs) h = refl

closed_still : (s : State) (cs : List Cmd) → is_open s ≡ false → is_open (states_asked s cs) ≡ false
closed_still s [] h = h
closed_still s (c ∷ cs) h = closed_still (state_asked s c) cs (closed_asked s c h)

-- what continues a run as new closes it
pub continued_closed : (s : State) (cs : List Cmd) (vs : List Value) → continued cs ≡ Some vs → is_open (states_asked s cs) ≡ false
continued_closed s [] vs e = cc
continued_closed s (Schedule a ws n m k ∷ cs) vs e = continued_closed s cs vs e
continued_closed s (StartTimer d ∷ cs) vs e = continued_closed s cs vs e
continued_closed s (CancelTimer n ∷ cs) vs e = continued_closed s cs vs e
continued_closed s (RecordMarker id ∷ cs) vs e = continued_closed s cs vs e
continued_closed s (Complete v ∷ cs) vs e = continued_closed state.Completed cs vs e
continued_closed s (Fail c t ∷ cs) vs e = continued_closed state.Failed cs vs e
continued_closed s (ContinueAsNew ws ∷ cs) vs e = closed_still state.Continued cs refl

traced_state : (s : State) (n at : ℕ) (cs : List Cmd) → state_after s (traces n at cs) ≡ states_asked s cs
traced_state s n at [] = refl
traced_state s n at (c ∷ cs) = traced_state (state_asked s c) (n + 1) at cs

appended_state : (s : State) (h es : List Event) → state_after s (h ++ es) ≡ state_after (state_after s h) es
appended_state s [] es = refl
appended_state s (e ∷ h) es = appended_state (state_after_one s e) h es

-- the state after one more turn
pub turn_state : (h : List Event) (n at : ℕ) (i : Input) (cs : List Cmd) → state_of (h ++ turn_events n at i cs) ≡ states_asked (state_came (state_of h) i) cs
turn_state h n at i cs =
    appended_state state.Unbegun h (turn_events n at i cs) ∙ traced_state (state_came (state_of h) i) (n + 1) at cs

-- Only the start of a run opens it.
closed_came : (s : State) (i : Input) → is_started i ≡ false → is_open s ≡ false → is_open (state_came s i) ≡ false
closed_came s (input.Started vs) h e = cc
closed_came s (input.Signaled name request v) h e = e
closed_came s (input.ActivityCompleted n v) h e = e
closed_came s (input.ActivityFailed n text) h e = e
closed_came s (input.TimerFired n) h e = e
closed_came s (input.Terminated text) h e = refl

pub still_closed : (h : List Event) (n at : ℕ) (i : Input) (cs : List Cmd) → is_started i ≡ false → is_open (state_of h) ≡ false → is_open (state_of (h ++ turn_events n at i cs)) ≡ false
still_closed h n at i cs f e = ap is_open (turn_state h n at i cs) ∙ closed_still (state_came (state_of h) i) cs (closed_came (state_of h) i f e)
