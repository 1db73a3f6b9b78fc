-- A run waits on each activity and on each timer that its history leaves open, on an activity for a value of the type that it gives.
use Rattle.std.proofs.Common.{inl, inr, ◌≡◌, ℕ, zero, suc, ◌+◌, ◌≤◌, List, [], ◌∷◌, ◌++◌, length, length-append, map, filter, All, refl, sym, ap, ◌∙◌, subst, arith, Option, Some, None, Bool, true, false, is_some}
use Rattle.std.specs.Prelude.{◌&&◌, ◌⊎◌, slice_get, nat_eq, not, if◌then◌else◌}
use Rattle.std.proofs.lemmas.Option.{none-some, same_Some}
use Rattle.std.proofs.lemmas.Bool.{true≢false, eqb-true, eqb-false}
use Rattle.std.proofs.lemmas.List.{map-append}
use Rattle.std.proofs.lemmas.List.Elements.{All-nil, All-cons, All-head, All-tail, All-push, All-filter, All-weaker}
use Rattle.flow_base.specs.Syntax.{Bytes, Program, signals_of}
use Rattle.flow_base.specs.declared.value.Value.{Value}
use Rattle.flow_base.specs.declared.value.Value.TheVariants.{Text}
use Rattle.flow_base.specs.declared.value.Kind.{Kind}
use Rattle.flow_base.specs.declared.event.Cmd.{Cmd}
use Rattle.flow_base.specs.declared.event.Cmd.TheVariants.{Schedule, StartTimer, CancelTimer, RecordMarker, Complete, Fail, ContinueAsNew}
use Rattle.flow_base.specs.declared.event.Input.{Input}
use Rattle.flow_base.specs.declared.event.Input.TheVariants as input
use Rattle.flow_base.specs.declared.event.What.{What}
use Rattle.flow_base.specs.declared.event.What.TheVariants.{Came, Asked as AskedFor}
use Rattle.flow_base.specs.declared.event.Event.{Event}
use Rattle.flow_base.specs.declared.event.State.{State}
use Rattle.flow_base.specs.declared.event.State.TheVariants as state
use Rattle.flow_base.specs.declared.book.OpenActivity.{OpenActivity}
use Rattle.flow_base.specs.declared.book.Timer.{Timer}
use Rattle.flow_base.specs.Effects.{effect_of}
use Rattle.flow_model.specs.Rest.{Rest, Done, rest_of, is_done}
use Rattle.flow_model.specs.Configuration.{Configuration, first_configuration, none_decided, is_open}
use Rattle.flow_model.specs.Values.{with_variable}
use Rattle.flow_model.specs.Step.{Move, Stays, Goes, Asks, Ends, move}
use Rattle.flow_model.specs.Deliver.{Progress, deliver, begun, bound, all_fit, completed, with_rest, start_from, has_kind, signal_fits, target_of, replaced, when_completed, when_failed, when_fired}
use Rattle.flow_model.specs.Turn.{Frame, Answers, Recorded, Turn, frame, steps, next, go_on, setting, ended, after_move, left_by}
use Rattle.flow_model.specs.Stands.{Advances, Leads, Stands}
use Rattle.flow_model.specs.Open.{tasks_by, tasks_after_one, tasks_after, open_activities, timers_by, timers_after_one, timers_after, open_timers}
use Rattle.flow_model.specs.Book.{nth}
use Rattle.flow_model.specs.Apply.{task_at, gives_kind}
use Rattle.flow_model.proofs.Awaits.{Sort, calls, timers, wait_of, awaits_kind, takes_value, takes_failure, takes_firing}
use Rattle.flow_machine.specs.Awaiting.{CanComplete, CanFail, CanFire, ActivitiesComplete, ActivitiesFail, TimersFire, ClosedWaitsOnNothing}
use Rattle.flow_machine.proofs.Places.{nth_at}
use Rattle.flow_machine.proofs.Tasks.{events_of, kept_numbers}
use Rattle.flow_machine.proofs.Awaited.{Act, Adds, Drops, Clears, Same, drops, asked, came, SameWaits, OthersSame, Did, Moves, moves, DidIf, replaced_did, completed_did, failed_did, fired_did}

---- What is open

abbrev gone : {A : Type 0} → ℕ → List (ℕ × A) → List (ℕ × A)
gone n os = filter (λ o. not (nat_eq o.0 n)) os

-- what is open, each by its event and what it is for, behind event n
abbrev by : {A : Type 0} → Act A → ℕ → List (ℕ × A) → List (ℕ × A)
by (Adds a) n os = os ++ (n, a) ∷ []
by (Drops m) n os = gone m os
by Clears n os = []
by Same n os = os

abbrev act_of : {A : Type 0} → Sort A → What → Act A
act_of w (Came i) = came w i
act_of w (AskedFor c) = asked w c

module _ {A : Type 0} (w : Sort A) where
  -- commands that events from number n on trace
  abbrev opens_due : List (ℕ × A) → ℕ → List Cmd → List (ℕ × A)
  opens_due os n [] = os
  opens_due os n (c ∷ cs) = opens_due (by (asked w c) n os) (suc n) cs

  abbrev pub opens_after : List (ℕ × A) → List Event → List (ℕ × A)
  opens_after os [] = os
  opens_after os (e ∷ es) = opens_after (by (act_of w e.what) e.id os) es

  ---- Waits

  abbrev pub IsAwaited : Rest → ℕ × A → Type 0
  IsAwaited r o = wait_of w o.0 r ≡ Some o.1

  -- A run waits on these, on no event from a number on, and on nothing where it is closed.
  pub record Waits (os : List (ℕ × A)) (later_than : ℕ) (r : Rest) (s : State) : Type 0 where
    pub awaited : All (IsAwaited r) os
    pub later : (n : ℕ) → later_than ≤ n → wait_of w n r ≡ None
    pub closed : is_open s ≡ false → os ≡ []

  nothing_waits : (n : ℕ) (r : Rest) (s : State) → ((m : ℕ) → wait_of w m r ≡ None) → Waits [] n r s
  nothing_waits n r s h = record { awaited = All-nil (IsAwaited r); later = λ m le. h m; closed = λ e. refl }

  recounted : (os os2 : List (ℕ × A)) (n n2 : ℕ) (r : Rest) (s : State) → os ≡ os2 → n ≡ n2 → Waits os n r s → Waits os2 n2 r s
  recounted os os2 n n2 r s e f h = subst (λ l. Waits l n2 r s) e (subst (λ m. Waits os m r s) f h)

  same_waits : (os : List (ℕ × A)) (n m : ℕ) (r q : Rest) (s : State) → n ≤ m → SameWaits w r q → Waits os n r s → Waits os m q s
  same_waits os n m r q s le h v =
      record {
        awaited = All-weaker (IsAwaited r) (IsAwaited q) (λ o a. h o.0 ∙ a) os v.awaited;
        later = λ i at. h i ∙ v.later i (omega (arith, le, at));
        closed = v.closed;
      }

  kept_awaited : (n : ℕ) (r q : Rest) → OthersSame w n r q → (os : List (ℕ × A)) → All (IsAwaited r) os → All (IsAwaited q) (gone n os)
  kept_awaited n r q h [] a = All-nil (IsAwaited q)
  kept_awaited n r q h (o ∷ os) a =
      let head = All-head (IsAwaited r) o os a in
      let rest = kept_awaited n r q h os (All-tail (IsAwaited r) o os a) in
      elim (nat_eq o.0 n) as (λ b. nat_eq o.0 n ≡ b → All (IsAwaited q) (if not b then o ∷ gone n os else gone n os)) [
        | true ↦ λ e. rest
        | false ↦ λ e. All-cons (IsAwaited q) o (gone n os) (h o.0 (eqb-false o.0 n e) ∙ head) rest
      ] refl

  -- Behind one more event an open run waits on what is open then.
  did_waits : (os : List (ℕ × A)) (n : ℕ) (r q : Rest) (s : State) (d : Act A) → is_open s ≡ true → Did w n r q d → Waits os n r s → Waits (by d n os) (suc n) q s
  did_waits os n r q s (Adds a) o h v =
      let new : wait_of w n r ≡ None = v.later n (omega arith) in
      record {
        awaited =
            All-push (IsAwaited q) os (n, a)
            (All-weaker (IsAwaited r) (IsAwaited q) (λ x y. h.0 x.0 (λ e. none-some x.1 (sym new ∙ ap (λ i. wait_of w i r) (sym e) ∙ y)) ∙ y) os v.awaited) (h.1 new);
        later = λ i le. h.0 i (omega (arith, le)) ∙ v.later i (omega (arith, le));
        closed = λ e. absurd (true≢false (sym o ∙ e));
      }
  did_waits os n r q s (Drops m) o h v =
      record {
        awaited = kept_awaited m r q h.0 os v.awaited;
        later = λ i le.
            let none : wait_of w i r ≡ None = v.later i (omega (arith, le)) in
            h.0 i (λ same. true≢false (sym h.1 ∙ ap (λ j. is_some (wait_of w j r)) (sym same) ∙ ap is_some none)) ∙ none;
        closed = λ e. ap (gone m) (v.closed e);
      }
  did_waits os n r q s Clears o h v = absurd h
  did_waits os n r q s Same o h v = same_waits os n (suc n) r q s (omega arith) h v

  ---- Steps

  due_push : (os : List (ℕ × A)) (n : ℕ) (cs : List Cmd) (c : Cmd) → opens_due os n (cs ++ c ∷ []) ≡ by (asked w c) (n + length cs) (opens_due os n cs)
  due_push os n [] c = let same : n ≡ n + 0 = omega arith in ap (λ m. by (asked w c) m os) same
  due_push os n (d ∷ cs) c =
      let one : suc n + length cs ≡ n + suc (length cs) = omega arith in
      due_push (by (asked w d) n os) (suc n) cs c ∙ ap (λ m. by (asked w c) m (opens_due (by (asked w d) n os) (suc n) cs)) one

  -- a run within a turn, the first command of which gets number n
  abbrev Fares : List (ℕ × A) → ℕ → Progress → Type 0
  Fares os n p = Waits (opens_due os n p.asked) (n + length p.asked) p.rest p.state

  abbrev FaresIf : List (ℕ × A) → ℕ → Option Progress → Type 0
  FaresIf os n None = Unit {0}
  FaresIf os n (Some p) = Fares os n p

  one_longer : (n : ℕ) (cs : List Cmd) (c : Cmd) → suc (n + length cs) ≡ n + length (cs ++ c ∷ [])
  one_longer n cs c = let e : length (cs ++ c ∷ []) ≡ length cs + 1 = length-append cs (c ∷ []) in omega (arith, e)

  ended_fares : (os : List (ℕ × A)) (n : ℕ) (p : Progress) (c : Cmd) → asked w c ≡ Clears → Fares os n (ended p c)
  ended_fares os n p c h =
      let cs = p.asked ++ c ∷ [] in
      let none : [] ≡ opens_due os n cs = sym (due_push os n p.asked c ∙ ap (λ (d : Act A). by d (n + length p.asked) (opens_due os n p.asked)) h) in
      subst (λ l. Waits l (n + length cs) Done (ended p c).state) none (nothing_waits (n + length cs) Done (ended p c).state (λ m. refl))

  after_fares : (os : List (ℕ × A)) (n : ℕ) (p : Progress) (m : Move) → is_open p.state ≡ true → Moves w (n + length p.asked) p.rest m → Fares os n p → FaresIf os n (after_move p m)
  after_fares os n p Stays o h v = tt
  after_fares os n p (Goes r t) o h v = same_waits (opens_due os n p.asked) (n + length p.asked) (n + length p.asked) p.rest r p.state (omega arith) h v
  after_fares os n p (Asks r t c) o h v =
      recounted (by (asked w c) (n + length p.asked) (opens_due os n p.asked)) (opens_due os n (p.asked ++ c ∷ [])) (suc (n + length p.asked)) (n + length (p.asked ++ c ∷ [])) r p.state
      (sym (due_push os n p.asked c)) (one_longer n p.asked c) (did_waits (opens_due os n p.asked) (n + length p.asked) p.rest r p.state (asked w c) o h v)
  after_fares os n p (Ends c) o h v = ended_fares os n p c h

  abbrev next_by : Bool → Bool → Progress → Move → Option Progress
  next_by o d p m = if o then (if d then Some (ended p (Complete (Text []))) else after_move p m) else None

  next_fares : (os : List (ℕ × A)) (n : ℕ) (o d : Bool) (p : Progress) (m : Move) → is_open p.state ≡ o → Moves w (n + length p.asked) p.rest m → Fares os n p → FaresIf os n (next_by o d p m)
  next_fares os n true true p m e h v = ended_fares os n p (Complete (Text [])) refl
  next_fares os n true false p m e h v = after_fares os n p m e h v
  next_fares os n false d p m e h v = tt

  steps_fare : (count : ℕ) (f : Frame) (os : List (ℕ × A)) (p last : Progress) → Fares os (f.events + 1) p → steps count f p ≡ Some last → Fares os (f.events + 1) last
  steps_fare zero f os p last v e = absurd (none-some last e)
  steps_fare (suc count) f os p last v e =
      let n = f.events + 1 in
      let m = move (setting f p) p.store p.rest in
      let number : f.events + length p.asked + 1 ≡ n + length p.asked = omega arith in
      let moved : Moves w (n + length p.asked) p.rest m = subst (λ i. Moves w i p.rest m) number (moves w (setting f p) p.store p.rest) in
      elim (next f p) as (λ o. FaresIf os n o → go_on f o p (steps count f) ≡ Some last → Fares os n last) [
        | None ↦ λ g u. subst (Fares os n) (same_Some p last u) v
        | Some q ↦ λ g u. steps_fare count f os q last g u
      ] (next_fares os n (is_open p.state) (is_done p.rest) p m refl moved v) e

  ---- Inputs

  -- a turn begins with these waits
  abbrev StartsIf : List (ℕ × A) → ℕ → Option Progress → Type 0
  StartsIf os n None = Unit {0}
  StartsIf os n (Some p) = (p.asked ≡ []) × Waits os n p.rest p.state

  if_starts : (os : List (ℕ × A)) (n : ℕ) (b : Bool) (o : Option Progress) → (b ≡ true → StartsIf os n o) → StartsIf os n (if b then o else None)
  if_starts os n true o h = h refl
  if_starts os n false o h = tt

  first_starts : (os : List (ℕ × A)) (n : ℕ) (s : State) (o : Option Progress) → (is_open s ≡ false → os ≡ []) → (os ≡ [] → StartsIf os n o) → StartsIf os n (elim s [ state.Unbegun ↦ o | _ ↦ None ])
  first_starts os n state.Unbegun o e h = h (e refl)
  first_starts os n state.Open o e h = tt
  first_starts os n state.Completed o e h = tt
  first_starts os n state.Failed o e h = tt
  first_starts os n state.Continued o e h = tt
  first_starts os n state.Terminated o e h = tt

  begun_starts : (p : Program) (vs : List Value) (os : List (ℕ × A)) (n : ℕ) → os ≡ [] → StartsIf os n (begun p vs)
  begun_starts p vs os n e =
      if_starts os n (all_fit p.parameters vs) (Some (record { rest = rest_of p.body; store = record { variables = bound p.parameters vs; buffer = []; decided = none_decided; tests = 0 }; asked = []; state = state.Open }))
      (λ fit. (refl, subst (λ l. Waits l n (rest_of p.body) state.Open) (sym e) (nothing_waits n (rest_of p.body) state.Open (λ m. refl))))

  rest_starts : (k : Configuration) (n : ℕ) (os : List (ℕ × A)) (d : Act A) (o : Option Rest) → is_open k.state ≡ true → DidIf w n k.rest d o → Waits os n k.rest k.state → StartsIf (by d n os) (suc n) (with_rest k o)
  rest_starts k n os d None is h v = tt
  rest_starts k n os d (Some q) is h v = (refl, did_waits os n k.rest q k.state d is h v)

  value_starts : (k : Configuration) (n m : ℕ) (value : Value) (os : List (ℕ × A)) (d : Act A) (t : Option (Bytes × Kind)) → is_open k.state ≡ true
      → DidIf w n k.rest d (replaced (when_completed m) k.rest) → Waits os n k.rest k.state → StartsIf (by d n os) (suc n) (completed k m value t)
  value_starts k n m value os d None is h v = tt
  value_starts k n m value os d (Some x) is h v =
      if_starts (by d n os) (suc n) (has_kind x.1 value) (elim (replaced (when_completed m) k.rest) [ None ↦ None | Some r ↦ Some (start_from k r (with_variable k.variables x.0 value)) ])
      (λ fit. elim (replaced (when_completed m) k.rest) as (λ o. DidIf w n k.rest d o → StartsIf (by d n os) (suc n) (elim o [ None ↦ None | Some r ↦ Some (start_from k r (with_variable k.variables x.0 value)) ])) [
        | None ↦ λ g. tt
        | Some q ↦ λ g. (refl, did_waits os n k.rest q k.state d is g v)
      ] h)

  deliver_starts : (p : Program) (k : Configuration) (i : Input) (n : ℕ) (os : List (ℕ × A)) → Waits os n k.rest k.state → StartsIf (by (came w i) n os) (suc n) (deliver p k i)
  deliver_starts p k (input.Started vs) n os v = first_starts os (suc n) k.state (begun p vs) v.closed (begun_starts p vs os (suc n))
  deliver_starts p k (input.Signaled name request value) n os v =
      if_starts os (suc n) (is_open k.state && signal_fits (signals_of p.declarations) name value)
      (Some (record { rest = k.rest; store = record { variables = k.variables; buffer = k.buffer ++ (name, value) ∷ []; decided = k.decided; tests = 0 }; asked = []; state = k.state }))
      (λ fit. (refl, same_waits os n (suc n) k.rest k.rest k.state (omega arith) (λ m. refl) v))
  deliver_starts p k (input.ActivityCompleted m value) n os v =
      let d = came w (input.ActivityCompleted m value) in
      if_starts (by d n os) (suc n) (is_open k.state) (completed k m value (target_of m k.rest))
      (λ is. value_starts k n m value os d (target_of m k.rest) is (replaced_did w n d (when_completed m) (completed_did w n m) k.rest) v)
  deliver_starts p k (input.ActivityFailed m text) n os v =
      let d = came w (input.ActivityFailed m text) in
      if_starts (by d n os) (suc n) (is_open k.state) (with_rest k (replaced (when_failed m text) k.rest))
      (λ is. rest_starts k n os d (replaced (when_failed m text) k.rest) is (replaced_did w n d (when_failed m text) (failed_did w n m text) k.rest) v)
  deliver_starts p k (input.TimerFired m) n os v =
      let d = came w (input.TimerFired m) in
      if_starts (by d n os) (suc n) (is_open k.state) (with_rest k (replaced (when_fired m) k.rest))
      (λ is. rest_starts k n os d (replaced (when_fired m) k.rest) is (replaced_did w n d (when_fired m) (fired_did w n m) k.rest) v)
  deliver_starts p k (input.Terminated text) n os v =
      if_starts [] (suc n) (is_open k.state) (Some (record (start_from k Done k.variables) { state = state.Terminated }))
      (λ is. (refl, nothing_waits (suc n) Done state.Terminated (λ m. refl)))

  ---- Turns and histories

  -- how a turn leaves the waits of a run, where `opened` is open behind its input
  record Turned (opened : List (ℕ × A)) (old new : Configuration) (cs : List Cmd) : Type 0 where
    waits : Waits (opens_due opened (old.events + 1 + 1) cs) (new.events + 1) new.rest new.state
    counted : new.events ≡ old.events + 1 + length cs

  turn_waits : (p : Program) (answers : Answers) (old : Configuration) (at : ℕ) (i : Input) (cs : List Cmd) (new : Configuration) (os : List (ℕ × A))
      → Waits os (old.events + 1) old.rest old.state → Turn p answers old at i cs new → Turned (by (came w i) (old.events + 1) os) old new cs
  turn_waits p answers old at i cs new os v t =
      let f : Frame = frame p old at i answers in
      let n = f.events + 1 in
      let opened = by (came w i) (old.events + 1) os in
      let begins : StartsIf opened (suc (old.events + 1)) (Some t.start) = subst (StartsIf opened (suc (old.events + 1))) t.delivered (deliver_starts p old i (old.events + 1) os v) in
      let none : [] ≡ t.start.asked = sym begins.0 in
      let number : suc (old.events + 1) ≡ n + length t.start.asked = omega (arith, ap length none) in
      let first : Fares opened n t.start =
      recounted opened (opens_due opened n t.start.asked) (suc (old.events + 1)) (n + length t.start.asked) t.start.rest t.start.state (ap (opens_due opened n) none) number begins.1
      in
      let last : Fares opened n t.last = steps_fare t.count f opened t.start t.last first t.runs in
      let after : n + length t.last.asked ≡ (left_by f t.last).events + 1 = omega arith in
      let left : Waits (opens_due opened n cs) ((left_by f t.last).events + 1) t.last.rest t.last.state =
      recounted (opens_due opened n t.last.asked) (opens_due opened n cs) (n + length t.last.asked) ((left_by f t.last).events + 1) t.last.rest t.last.state
      (ap (opens_due opened n) (sym t.asks)) after last
      in
      record {
        waits = subst (λ (q : Configuration). Waits (opens_due opened n cs) (q.events + 1) q.rest q.state) (sym t.leaves) left;
        counted = ap (λ (q : Configuration). q.events) t.leaves ∙ ap (λ (l : List Cmd). f.events + length l) (sym t.asks);
      }

  leads_waits : (p : Program) (n : ℕ) (due : List Cmd) (k : Configuration) (h : List Event) (k' : Configuration) (os : List (ℕ × A))
      → Waits (opens_due os n due) (k.events + 1) k.rest k.state → n + length due ≡ k.events + 1 → Leads p n due k h k' → Waits (opens_after os h) (k'.events + 1) k'.rest k'.state
  leads_waits p n due k [] k' os v e l =
      subst (λ (q : Configuration). Waits os (q.events + 1) q.rest q.state) l.1 (subst (λ cs. Waits (opens_due os n cs) (k.events + 1) k.rest k.state) l.0 v)
  leads_waits p n [] k (d ∷ later) k' os v e l =
      let a = l.1.1.0 in
      let opened = by (came w a.2.0) (k.events + 1) os in
      let t = turn_waits p (Recorded later) k d.at a.2.0 l.0 l.1.0 os v a.2.2 in
      let number : k.events + 1 + 1 ≡ suc n = omega (arith, e) in
      let count : suc n + length l.0 ≡ l.1.0.events + 1 = omega (arith, e, t.counted) in
      let first = ap (λ i. opens_due opened i l.0) number in
      let rest = leads_waits p (suc n) l.0 l.1.0 later k' opened (recounted _ _ _ _ l.1.0.rest l.1.0.state first refl t.waits) count l.1.1.1 in
      let id : k.events + 1 ≡ d.id = omega (arith, e, a.0) in
      subst (λ (x : What). Waits (opens_after (by (act_of w x) d.id os) later) (k'.events + 1) k'.rest k'.state) (sym a.2.1)
      (subst (λ i. Waits (opens_after (by (came w a.2.0) i os) later) (k'.events + 1) k'.rest k'.state) id rest)
  leads_waits p n (c ∷ due) k (d ∷ later) k' os v e l =
      let a = l.1.1.0 in
      let opened = by (asked w c) n os in
      let moved = subst (λ (q : Configuration). Waits (opens_due opened (suc n) l.0) (q.events + 1) q.rest q.state) (sym a.4)
      (subst (λ cs. Waits (opens_due opened (suc n) cs) (k.events + 1) k.rest k.state) (sym a.3) v)
      in
      let count : suc n + length l.0 ≡ l.1.0.events + 1 = omega (arith, e, ap length a.3, ap (λ (q : Configuration). q.events) a.4) in
      let rest = leads_waits p (suc n) l.0 l.1.0 later k' opened moved count l.1.1.1 in
      subst (λ (x : What). Waits (opens_after (by (act_of w x) d.id os) later) (k'.events + 1) k'.rest k'.state) (sym a.2)
      (subst (λ i. Waits (opens_after (by (asked w c) i os) later) (k'.events + 1) k'.rest k'.state) (sym a.0) rest)

  -- What a standing history leaves open its run waits on.
  pub stands_waits : (p : Program) (h : List Event) (k : Configuration) → Stands p h k → Waits (opens_after [] h) (k.events + 1) k.rest k.state
  stands_waits p h k s = leads_waits p 1 [] first_configuration h k [] (nothing_waits 1 Done state.Unbegun (λ m. refl)) refl s.1

  ---- The events that open

  -- what is open is what its event asked for
  abbrev pub IsAsked : List Event → ℕ × A → Type 0
  IsAsked all o = (e : Event) × ((c : Cmd) × ((nth all o.0 ≡ Some e) × (e.what ≡ AskedFor c) × (asked w c ≡ Adds o.1)))

  act_asked : (all : List Event) (os : List (ℕ × A)) (n : ℕ) (d : Act A) → ((a : A) → d ≡ Adds a → IsAsked all (n, a)) → All (IsAsked all) os → All (IsAsked all) (by d n os)
  act_asked all os n (Adds a) f h = All-push (IsAsked all) os (n, a) h (f a refl)
  act_asked all os n (Drops m) f h = All-filter (λ (o : ℕ × A). not (nat_eq o.0 m)) (IsAsked all) os h
  act_asked all os n Clears f h = All-nil (IsAsked all)
  act_asked all os n Same f h = h

  -- no input opens anything
  drops_none : {B : Type 0} (o : Option B) (n : ℕ) (a : A) → drops o n ≡ Adds a → ⊥
  drops_none None n a e = cc e
  drops_none (Some b) n a e = cc e

  came_none : (i : Input) (a : A) → came w i ≡ Adds a → ⊥
  came_none (input.Started vs) a e = cc e
  came_none (input.Signaled name request v) a e = cc e
  came_none (input.ActivityCompleted n v) a e = drops_none w.call n a e
  came_none (input.ActivityFailed n text) a e = drops_none w.call n a e
  came_none (input.TimerFired n) a e = drops_none w.timer n a e
  came_none (input.Terminated text) a e = cc e

  event_asked : (all : List Event) (e : Event) → nth all e.id ≡ Some e → (a : A) → act_of w e.what ≡ Adds a → IsAsked all (e.id, a)
  event_asked all e there a h =
      elim (e.what) as (λ x. e.what ≡ x → act_of w x ≡ Adds a → IsAsked all (e.id, a)) [
        | Came i ↦ λ is same. absurd (came_none i a same)
        | AskedFor c ↦ λ is same. (e, (c, (there, is, same)))
      ] refl h

  numbered : (p : Program) (n : ℕ) (due : List Cmd) (k : Configuration) (e : Event) (later : List Event) (due1 : List Cmd) (k1 : Configuration) → Advances p n due k e later due1 k1 → e.id ≡ n
  numbered p n [] k e later due1 k1 a = a.0
  numbered p n (c ∷ due) k e later due1 k1 a = a.0

  leads_asked : (p : Program) (n : ℕ) (due : List Cmd) (k : Configuration) (h : List Event) (k' : Configuration) (os : List (ℕ × A)) (all : List Event)
      → ((i : ℕ) (e : Event) → slice_get h i ≡ Some e → nth all (n + i) ≡ Some e) → All (IsAsked all) os → Leads p n due k h k' → All (IsAsked all) (opens_after os h)
  leads_asked p n due k [] k' os all f g l = g
  leads_asked p n due k (d ∷ later) k' os all f g l =
      let first : n ≡ n + 0 = omega arith in
      let id : d.id ≡ n + 0 = numbered p n due k d later l.0 l.1.0 l.1.1.0 ∙ first in
      let there : nth all d.id ≡ Some d = subst (λ m. nth all m ≡ Some d) (sym id) (f 0 d refl) in
      leads_asked p (suc n) l.0 l.1.0 later k' (by (act_of w d.what) d.id os) all
      (λ i e at. let next : n + suc i ≡ suc n + i = omega arith in subst (λ m. nth all m ≡ Some e) next (f (suc i) e at))
      (act_asked all os d.id (act_of w d.what) (event_asked all d there) g) l.1.1.1

  pub stands_asked : (p : Program) (h : List Event) (k : Configuration) → Stands p h k → All (IsAsked h) (opens_after [] h)
  stands_asked p h k s = leads_asked p 1 [] first_configuration h k [] h (λ i e at. nth_at h (1 + i) i (omega arith) ∙ at) (All-nil (IsAsked h)) s.1

---- The same as those of the definitions

abbrev numbers : {A : Type 0} → List (ℕ × A) → List ℕ
numbers os = map (λ o. o.0) os

module _ {A T : Type 0} (number : T → ℕ) where
  same_gone : (n : ℕ) (ts : List T) (os : List (ℕ × A)) → map number ts ≡ numbers os → map number (filter (λ t. not (nat_eq (number t) n)) ts) ≡ numbers (gone n os)
  same_gone n ts os e = kept_numbers number n ts ∙ ap (filter (λ m. not (nat_eq m n))) e ∙ sym (kept_numbers (λ (o : ℕ × A). o.0) n os)

  same_more : (t : T) (n : ℕ) (a : A) (ts : List T) (os : List (ℕ × A)) → number t ≡ n → map number ts ≡ numbers os → map number (ts ++ t ∷ []) ≡ numbers (os ++ (n, a) ∷ [])
  same_more t n a ts os is e =
      map-append number ts (t ∷ []) ∙ ap (λ l. l ++ number t ∷ []) e ∙ ap (λ m. numbers os ++ m ∷ []) is ∙ sym (map-append (λ (o : ℕ × A). o.0) os ((n, a) ∷ []))

same_tasks_by : (ts : List OpenActivity) (os : List (ℕ × Kind)) (id at : ℕ) (x : What) → events_of ts ≡ numbers os → events_of (tasks_by ts id at (effect_of x)) ≡ numbers (by (act_of calls x) id os)
same_tasks_by ts os id at (Came (input.Started vs)) e = e
same_tasks_by ts os id at (Came (input.Signaled name request v)) e = e
same_tasks_by ts os id at (Came (input.ActivityCompleted n v)) e = same_gone (λ (t : OpenActivity). t.event) n ts os e
same_tasks_by ts os id at (Came (input.ActivityFailed n text)) e = same_gone (λ (t : OpenActivity). t.event) n ts os e
same_tasks_by ts os id at (Came (input.TimerFired n)) e = e
same_tasks_by ts os id at (Came (input.Terminated text)) e = refl
same_tasks_by ts os id at (AskedFor (Schedule a vs n m k)) e = same_more (λ (t : OpenActivity). t.event) (record { event = id; attempt = 1; ready = at }) id k ts os refl e
same_tasks_by ts os id at (AskedFor (StartTimer d)) e = e
same_tasks_by ts os id at (AskedFor (CancelTimer n)) e = e
same_tasks_by ts os id at (AskedFor (RecordMarker p)) e = e
same_tasks_by ts os id at (AskedFor (Complete v)) e = refl
same_tasks_by ts os id at (AskedFor (Fail c t)) e = refl
same_tasks_by ts os id at (AskedFor (ContinueAsNew vs)) e = refl

same_tasks : (ts : List OpenActivity) (os : List (ℕ × Kind)) (h : List Event) → events_of ts ≡ numbers os → events_of (tasks_after ts h) ≡ numbers (opens_after calls os h)
same_tasks ts os [] e = e
same_tasks ts os (d ∷ h) e = same_tasks (tasks_after_one ts d) (by (act_of calls d.what) d.id os) h (same_tasks_by ts os d.id d.at d.what e)

abbrev pub ids_of : List Timer → List ℕ
ids_of ts = map (λ (t : Timer). t.id) ts

same_timers_by : (ts : List Timer) (os : List (ℕ × Unit {0})) (id : ℕ) (x : What) → ids_of ts ≡ numbers os → ids_of (timers_by ts id (effect_of x)) ≡ numbers (by (act_of timers x) id os)
same_timers_by ts os id (Came (input.Started vs)) e = e
same_timers_by ts os id (Came (input.Signaled name request v)) e = e
same_timers_by ts os id (Came (input.ActivityCompleted n v)) e = e
same_timers_by ts os id (Came (input.ActivityFailed n text)) e = e
same_timers_by ts os id (Came (input.TimerFired n)) e = same_gone (λ (t : Timer). t.id) n ts os e
same_timers_by ts os id (Came (input.Terminated text)) e = refl
same_timers_by ts os id (AskedFor (Schedule a vs n m k)) e = e
same_timers_by ts os id (AskedFor (StartTimer d)) e = same_more (λ (t : Timer). t.id) (record { id = id; due = d }) id tt ts os refl e
same_timers_by ts os id (AskedFor (CancelTimer n)) e = same_gone (λ (t : Timer). t.id) n ts os e
same_timers_by ts os id (AskedFor (RecordMarker p)) e = e
same_timers_by ts os id (AskedFor (Complete v)) e = refl
same_timers_by ts os id (AskedFor (Fail c t)) e = refl
same_timers_by ts os id (AskedFor (ContinueAsNew vs)) e = refl

same_timers : (ts : List Timer) (os : List (ℕ × Unit {0})) (h : List Event) → ids_of ts ≡ numbers os → ids_of (timers_after ts h) ≡ numbers (opens_after timers os h)
same_timers ts os [] e = e
same_timers ts os (d ∷ h) e = same_timers (timers_after_one ts d) (by (act_of timers d.what) d.id os) h (same_timers_by ts os d.id d.what e)

---- Completions

abbrev pub Has : ℕ → List ℕ → Type 0
Has n [] = ⊥
Has n (m ∷ ms) = (m ≡ n) ⊎ Has n ms

has_task : (ts : List OpenActivity) (n : ℕ) (t : OpenActivity) → task_at ts n ≡ Some t → Has n (events_of ts)
has_task [] n t e = absurd (none-some t e)
has_task (x ∷ ts) n t e =
    elim (nat_eq x.event n) as (λ b. nat_eq x.event n ≡ b → (if b then Some x else task_at ts n) ≡ Some t → Has n (events_of (x ∷ ts))) [
      | true ↦ λ f g. inl (eqb-true x.event n f)
      | false ↦ λ f g. inr (has_task ts n t g)
    ] refl e

module _ {T : Type 0} (number : T → ℕ) where
  all_has : (P : T → Type 0) (ts : List T) → ((t : T) → Has (number t) (map number ts) → P t) → All P ts
  all_has P [] f = All-nil P
  all_has P (t ∷ ts) f = All-cons P t ts (f t (inl refl)) (all_has P ts (λ u there. f u (inr there)))

  has_place : (ts : List T) (i : ℕ) (t : T) → slice_get ts i ≡ Some t → Has (number t) (map number ts)
  has_place [] i t e = absurd (none-some t e)
  has_place (u ∷ ts) zero t e = inl (ap number (same_Some u t e))
  has_place (u ∷ ts) (suc i) t e = inr (has_place ts i t e)

  no_numbers : (ts : List T) → map number ts ≡ [] → ts ≡ []
  no_numbers [] e = refl
  no_numbers (t ∷ ts) e = cc e

module _ {A : Type 0} where
  find_open : (P : ℕ × A → Type 0) (n : ℕ) (os : List (ℕ × A)) → All P os → Has n (numbers os) → (a : A) × P (n, a)
  find_open P n [] h there = absurd there
  find_open P n (o ∷ os) h (inl e) = (o.1, subst (λ m. P (m, o.1)) e (All-head P o os h))
  find_open P n (o ∷ os) h (inr there) = find_open P n os (All-tail P o os h) there

  both : (P Q : ℕ × A → Type 0) (os : List (ℕ × A)) → All P os → All Q os → All (λ o. P o × Q o) os
  both P Q [] a b = All-nil (λ o. P o × Q o)
  both P Q (o ∷ os) a b = All-cons (λ x. P x × Q x) o os (All-head P o os a, All-head Q o os b) (both P Q os (All-tail P o os a) (All-tail Q o os b))

  open_with : (s : State) (n : ℕ) (os : List (ℕ × A)) → (is_open s ≡ false → os ≡ []) → Has n (numbers os) → is_open s ≡ true
  open_with s n os h there =
      elim (is_open s) as (λ b. is_open s ≡ b → b ≡ true) [
        | true ↦ λ e. refl
        | false ↦ λ e. absurd (subst (λ l. Has n (numbers l)) (h e) there)
      ] refl

-- an activity's event says what it gives
schedules : (c : Cmd) (k : Kind) (v : Value) → asked calls c ≡ Adds k → elim c [ Schedule b us m w2 j ↦ has_kind j v | _ ↦ false ] ≡ has_kind k v
schedules (Schedule a vs tries every j) k v e = let same : j ≡ k = cc e in ap (λ i. has_kind i v) same
schedules (StartTimer d) k v e = cc e
schedules (CancelTimer n) k v e = cc e
schedules (RecordMarker id) k v e = cc e
schedules (Complete x) k v e = cc e
schedules (Fail c t) k v e = cc e
schedules (ContinueAsNew vs) k v e = cc e

asked_gives : (all : List Event) (n : ℕ) (k : Kind) (v : Value) → IsAsked calls all (n, k) → gives_kind (nth all n) v ≡ has_kind k v
asked_gives all n k v h =
    ap (λ o. gives_kind o v) h.1.1.0
    ∙ ap (λ (w : What). elim w [ Came i ↦ false | AskedFor c ↦ elim c [ Schedule b us m w2 j ↦ has_kind j v | _ ↦ false ] ]) h.1.1.1
    ∙ schedules h.1.0 k v h.1.1.2

not_none : {o : Option Progress} → is_some o ≡ true → o ≡ None → ⊥
not_none e none = true≢false (sym e ∙ ap is_some none)

-- Of a run that stands: each open activity is awaited, for a value of the type that it gives.
module _ (p : Program) (h : List Event) (k : Configuration) (stands : Stands p h k) where
  open_call : (n : ℕ) → Has n (events_of (open_activities h)) → (is_open k.state ≡ true) × ((kind : Kind) × (IsAwaited calls k.rest (n, kind) × IsAsked calls h (n, kind)))
  open_call n there =
      let os = opens_after calls [] h in
      let w = stands_waits calls p h k stands in
      let is : Has n (numbers os) = subst (Has n) (same_tasks [] [] h refl) there in
      (open_with k.state n os w.closed is, find_open (λ o. IsAwaited calls k.rest o × IsAsked calls h o) n os (both (IsAwaited calls k.rest) (IsAsked calls h) os w.awaited (stands_asked calls p h k stands)) is)

  -- what it gave can be delivered
  completes_open : (n : ℕ) (v : Value) → Has n (events_of (open_activities h)) → gives_kind (nth h n) v ≡ true → deliver p k (input.ActivityCompleted n v) ≡ None → ⊥
  completes_open n v there gives none =
      let found = open_call n there in
      let kind = found.1.0 in
      let fits : has_kind kind v ≡ true = sym (asked_gives h n kind v found.1.1.1) ∙ gives in
      not_none (takes_value k n v kind found.0 (awaits_kind n k.rest ∙ found.1.1.0) ∙ fits) none

  -- and that it failed
  fails_open : (n : ℕ) (text : Bytes) → Has n (events_of (open_activities h)) → deliver p k (input.ActivityFailed n text) ≡ None → ⊥
  fails_open n text there none =
      let found = open_call n there in
      not_none (takes_failure k n text found.0 ∙ ap is_some (awaits_kind n k.rest ∙ found.1.1.0)) none

  -- An open timer can fire.
  fires_open : (n : ℕ) → Has n (ids_of (open_timers h)) → deliver p k (input.TimerFired n) ≡ None → ⊥
  fires_open n there none =
      let os = opens_after timers [] h in
      let w = stands_waits timers p h k stands in
      let is : Has n (numbers os) = subst (Has n) (same_timers [] [] h refl) there in
      not_none (takes_firing k n (open_with k.state n os w.closed is) ∙ ap is_some (find_open (IsAwaited timers k.rest) n os w.awaited is).1) none

-- What an open activity gave can be delivered, where it is of the type that the activity gives.
pub completion_taken : (p : Program) (h : List Event) (k : Configuration) (ts : List OpenActivity) (n : ℕ) (v : Value) (t : OpenActivity) → Stands p h k → events_of ts ≡ events_of (open_activities h)
    → task_at ts n ≡ Some t → gives_kind (nth h n) v ≡ true → deliver p k (input.ActivityCompleted n v) ≡ None → ⊥
completion_taken p h k ts n v t stands same there gives none = completes_open p h k stands n v (subst (Has n) same (has_task ts n t there)) gives none

-- A failure of an open activity can be delivered.
pub failure_taken : (p : Program) (h : List Event) (k : Configuration) (ts : List OpenActivity) (n : ℕ) (text : Bytes) (t : OpenActivity) → Stands p h k → events_of ts ≡ events_of (open_activities h)
    → task_at ts n ≡ Some t → deliver p k (input.ActivityFailed n text) ≡ None → ⊥
failure_taken p h k ts n text t stands same there none = fails_open p h k stands n text (subst (Has n) same (has_task ts n t there)) none

-- An open timer can fire.
pub firing_taken : (p : Program) (h : List Event) (k : Configuration) (i : ℕ) (t : Timer) → Stands p h k → slice_get (open_timers h) i ≡ Some t → deliver p k (input.TimerFired t.id) ≡ None → ⊥
firing_taken p h k i t stands there none = fires_open p h k stands t.id (has_place (λ (u : Timer). u.id) (open_timers h) i t there) none

---- The laws

pub activities_complete : ActivitiesComplete
activities_complete p h k s = all_has (λ (t : OpenActivity). t.event) (CanComplete p h k) (open_activities h) (λ t there v gives none. completes_open p h k s t.event v there gives none)

pub activities_fail : ActivitiesFail
activities_fail p h k s = all_has (λ (t : OpenActivity). t.event) (CanFail p k) (open_activities h) (λ t there text none. fails_open p h k s t.event text there none)

pub timers_fire : TimersFire
timers_fire p h k s = all_has (λ (t : Timer). t.id) (CanFire p k) (open_timers h) (λ t there none. fires_open p h k s t.id there none)

pub closed_waits_on_nothing : ClosedWaitsOnNothing
closed_waits_on_nothing p h k s closed = (
  no_numbers (λ (t : OpenActivity). t.event) (open_activities h) (same_tasks [] [] h refl ∙ ap (λ (l : List (ℕ × Kind)). numbers l) ((stands_waits calls p h k s).closed closed)),
  no_numbers (λ (t : Timer). t.id) (open_timers h) (same_timers [] [] h refl ∙ ap (λ (l : List (ℕ × Unit {0})). numbers l) ((stands_waits timers p h k s).closed closed)),
)
