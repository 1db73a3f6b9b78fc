-- The open activities of a run with one more turn.
use Rattle.std.proofs.Common.{◌≡◌, ℕ, suc, ◌+◌, List, [], ◌∷◌, ◌++◌, length, map, filter, All, refl, sym, ap, ◌∙◌, subst, arith, Some, true, false}
use Rattle.std.specs.Prelude.{slice_get, nat_eq, not, if◌then◌else◌}
use Rattle.std.proofs.lemmas.List.{map-append}
use Rattle.std.proofs.lemmas.List.Elements.{All-nil, All-head, All-tail, All-push, All-filter, All-weaker}
use Rattle.flow_base.specs.declared.event.Cmd.{Cmd}
use Rattle.flow_base.specs.declared.event.Cmd.TheVariants.{Schedule, StartTimer, CancelTimer, RecordMarker, Complete, Fail, ContinueAsNew}
use Rattle.flow_base.specs.declared.event.Input.{Input}
use Rattle.flow_base.specs.declared.event.Input.TheVariants as input
use Rattle.flow_base.specs.declared.event.What.TheVariants.{Asked}
use Rattle.flow_base.specs.declared.event.Event.{Event}
use Rattle.flow_base.specs.declared.effect.Effect.{Effect}
use Rattle.flow_base.specs.declared.effect.Effect.TheVariants as effect
use Rattle.flow_base.specs.declared.book.OpenActivity.{OpenActivity}
use Rattle.flow_base.specs.declared.book.Turn.{Turn}
use Rattle.flow_base.specs.declared.book.Run.{Run}
use Rattle.flow_base.specs.Effects.{effect_of, effect_of_input, effect_of_command}
use Rattle.flow_model.specs.Turned.{traces, turn_events}
use Rattle.flow_model.specs.Open.{without, tasks_by, tasks_after_one, tasks_after, open_activities}
use Rattle.flow_model.specs.Book.{nth, with_turn}
use Rattle.flow_model.specs.Sound.{IsSoundTask}
use Rattle.flow_model.proofs.Tries.{AskedWell}
use Rattle.flow_machine.proofs.Places.{get_past, nth_at, nth_kept}

---- Attempts

asked_tasks : (r : Run) (n at : ℕ) (c : Cmd) (ts : List OpenActivity) → nth r.history n ≡ Some (record { id = n; at = at; what = Asked c }) → AskedWell c → All (IsSoundTask r) ts → All (IsSoundTask r) (tasks_by ts n at (effect_of_command c))
asked_tasks r n at (Schedule a vs tries every k) ts e w h =
    All-push (IsSoundTask r) ts (record { event = n; attempt = 1; ready = at }) h
    (record { first = omega arith; event = record { id = n; at = at; what = Asked (Schedule a vs tries every k) }; scheduled = e; tries = tries; asked = (a, (vs, (every, (k, refl)))); last = w.1.0 })
asked_tasks r n at (StartTimer d) ts e w h = h
asked_tasks r n at (CancelTimer m) ts e w h = h
asked_tasks r n at (RecordMarker id) ts e w h = h
asked_tasks r n at (Complete v) ts e w h = All-nil (IsSoundTask r)
asked_tasks r n at (Fail c t) ts e w h = All-nil (IsSoundTask r)
asked_tasks r n at (ContinueAsNew vs) ts e w h = All-nil (IsSoundTask r)

traced_tasks : (r : Run) (n at : ℕ) (cs : List Cmd) (ts : List OpenActivity) → ((i : ℕ) (e : Event) → slice_get (traces n at cs) i ≡ Some e → nth r.history (n + i) ≡ Some e)
    → All AskedWell cs → All (IsSoundTask r) ts → All (IsSoundTask r) (tasks_after ts (traces n at cs))
traced_tasks r n at [] ts f w h = h
traced_tasks r n at (c ∷ cs) ts f w h =
    let e : Event = record { id = n; at = at; what = Asked c } in
    let first : n + 0 ≡ n = omega arith in
    let here : nth r.history n ≡ Some e = subst (λ m. nth r.history m ≡ Some e) first (f 0 e refl) in
    traced_tasks r (n + 1) at cs (tasks_by ts n at (effect_of_command c))
    (λ i d g. let next : n + suc i ≡ n + 1 + i = omega arith in subst (λ m. nth r.history m ≡ Some d) next (f (suc i) d g))
    (All-tail AskedWell c cs w) (asked_tasks r n at c ts here (All-head AskedWell c cs w) h)

came_tasks : (r : Run) (ts : List OpenActivity) (id at : ℕ) (i : Input) → All (IsSoundTask r) ts → All (IsSoundTask r) (tasks_by ts id at (effect_of_input i))
came_tasks r ts id at (input.Started vs) h = h
came_tasks r ts id at (input.Signaled a q v) h = h
came_tasks r ts id at (input.ActivityCompleted n v) h = All-filter (λ (t : OpenActivity). not (nat_eq t.event n)) (IsSoundTask r) ts h
came_tasks r ts id at (input.ActivityFailed n t) h = All-filter (λ (t : OpenActivity). not (nat_eq t.event n)) (IsSoundTask r) ts h
came_tasks r ts id at (input.TimerFired n) h = h
came_tasks r ts id at (input.Terminated t) h = All-nil (IsSoundTask r)

kept_task : (r : Run) (t : Turn) (k : OpenActivity) → IsSoundTask r k → IsSoundTask (with_turn t r) k
kept_task r t k s =
    record {
      first = s.first;
      event = s.event;
      scheduled = nth_kept r.history (turn_events (length r.history + 1) t.at t.input t.commands) k.event s.event s.scheduled;
      tries = s.tries;
      asked = s.asked;
      last = s.last;
    }

-- the attempts of a run with one more turn
pub turn_attempts : (r : Run) (t : Turn) → All AskedWell t.commands → All (IsSoundTask r) r.tasks → All (IsSoundTask (with_turn t r)) (with_turn t r).tasks
turn_attempts r t w h =
    let n = length r.history + 1 in
    let es = turn_events n t.at t.input t.commands in
    let q = with_turn t r in
    let kept : All (IsSoundTask q) r.tasks = All-weaker (IsSoundTask r) (IsSoundTask q) (λ k s. kept_task r t k s) r.tasks h in
    traced_tasks q (n + 1) t.at t.commands (tasks_by r.tasks n t.at (effect_of_input t.input))
    (λ i e g.
    let place : n + 1 + i ≡ suc (length r.history + suc i) = omega arith in
    let there : length r.history + suc i ≡ length r.history + suc i = refl in
    nth_at (r.history ++ es) (n + 1 + i) (length r.history + suc i) place ∙ get_past r.history es (length r.history + suc i) (suc i) there ∙ g)
    w (came_tasks q r.tasks n t.at t.input kept)

---- Which are open

abbrev pub events_of : List OpenActivity → List ℕ
events_of ts = map (λ (t : OpenActivity). t.event) ts

-- what a list loses by its numbers its numbers lose
pub kept_numbers : {A : Type 0} (number : A → ℕ) (n : ℕ) (xs : List A) → map number (filter (λ x. not (nat_eq (number x) n)) xs) ≡ filter (λ m. not (nat_eq m n)) (map number xs)
kept_numbers number n [] = refl
kept_numbers number n (x ∷ xs) =
    let more = filter (λ y. not (nat_eq (number y) n)) xs in
    elim (not (nat_eq (number x) n)) as (λ b. map number (if b then x ∷ more else more) ≡ (if b then number x ∷ filter (λ m. not (nat_eq m n)) (map number xs) else filter (λ m. not (nat_eq m n)) (map number xs))) [
      | true ↦ ap (λ l. number x ∷ l) (kept_numbers number n xs)
      | false ↦ kept_numbers number n xs
    ]

same_without : (n : ℕ) (ts us : List OpenActivity) → events_of ts ≡ events_of us → events_of (without n ts) ≡ events_of (without n us)
same_without n ts us e =
    let number = λ (t : OpenActivity). t.event in
    kept_numbers number n ts ∙ ap (filter (λ m. not (nat_eq m n))) e ∙ sym (kept_numbers number n us)

same_by : (ts us : List OpenActivity) (id at : ℕ) (e : Effect) → events_of ts ≡ events_of us → events_of (tasks_by ts id at e) ≡ events_of (tasks_by us id at e)
same_by ts us id at effect.Begins e = e
same_by ts us id at effect.OpensActivity e =
    let new : List OpenActivity = record { event = id; attempt = 1; ready = at } ∷ [] in
    map-append (λ (t : OpenActivity). t.event) ts new ∙ ap (λ l. l ++ id ∷ []) e ∙ sym (map-append (λ (t : OpenActivity). t.event) us new)
same_by ts us id at (effect.OpensTimer due) e = e
same_by ts us id at (effect.EndsActivity n) e = same_without n ts us e
same_by ts us id at (effect.EndsTimer n) e = e
same_by ts us id at (effect.Closes s) e = refl
same_by ts us id at effect.Nothing e = e

same_after : (ts us : List OpenActivity) (es : List Event) → events_of ts ≡ events_of us → events_of (tasks_after ts es) ≡ events_of (tasks_after us es)
same_after ts us [] e = e
same_after ts us (d ∷ es) e = same_after (tasks_after_one ts d) (tasks_after_one us d) es (same_by ts us d.id d.at (effect_of d.what) e)

appended_tasks : (ts : List OpenActivity) (h es : List Event) → tasks_after ts (h ++ es) ≡ tasks_after (tasks_after ts h) es
appended_tasks ts [] es = refl
appended_tasks ts (e ∷ h) es = appended_tasks (tasks_after_one ts e) h es

-- the open activities of a run with more events are those of its history
pub turn_activities : (r : Run) (es : List Event) → events_of r.tasks ≡ events_of (open_activities r.history) → events_of (tasks_after r.tasks es) ≡ events_of (open_activities (r.history ++ es))
turn_activities r es e = same_after r.tasks (open_activities r.history) es e ∙ sym (ap events_of (appended_tasks [] r.history es))
