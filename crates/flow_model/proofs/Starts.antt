-- What a standing history begins with, and what it leaves open: its first event alone starts the run, and a closed run has no
-- open activities.
use Rattle.std.proofs.Common.{◌≡◌, ◌≢◌, ℕ, suc, List, [], ◌∷◌, refl, sym, ap, ◌∙◌, subst, Option, Some, None, Bool, true, false}
use Rattle.std.specs.List.{AllByRecursion}
use Rattle.std.proofs.lemmas.Bool.{true≢false}
use Rattle.std.proofs.lemmas.Option.{none-some}
use Rattle.flow_base.specs.Syntax.{Program}
use Rattle.flow_base.specs.declared.event.Cmd.{Cmd}
use Rattle.flow_base.specs.declared.event.Cmd.TheVariants.{Schedule, StartTimer, CancelTimer, RecordMarker, Complete, Fail, ContinueAsNew}
use Rattle.flow_base.specs.declared.event.Input.{Input}
use Rattle.flow_base.specs.declared.event.Input.TheVariants as input
use Rattle.flow_base.specs.declared.event.What.{What}
use Rattle.flow_base.specs.declared.event.What.TheVariants.{Came, Asked}
use Rattle.flow_base.specs.declared.event.Event.{Event}
use Rattle.flow_base.specs.declared.event.State.{State}
use Rattle.flow_base.specs.declared.event.State.TheVariants as state
use Rattle.flow_base.specs.declared.book.OpenActivity.{OpenActivity}
use Rattle.flow_model.specs.Configuration.{Configuration, first_configuration, is_open}
use Rattle.flow_model.specs.Deliver.{Progress, deliver, begun}
use Rattle.flow_model.specs.Turn.{Recorded, is_started}
use Rattle.flow_model.specs.Stands.{Leads, Stands}
use Rattle.flow_model.specs.Open.{tasks_after_one, tasks_after, open_activities, state_after_one, state_after, state_of}
use Rattle.flow_model.proofs.Tries.{TriedBlock, TriedRest}
use Rattle.flow_model.proofs.Leaves.{state_asked, state_came, states_asked, AskedOpen, turn_leaves, came_state, asked_state, delivered_open}

-- an event that starts its run
abbrev pub is_start : What → Bool
is_start (Came i) = is_started i
is_start (Asked c) = false

abbrev pub StartNone : List Event → Type 0
StartNone es = AllByRecursion (λ (e : Event). is_start e.what ≡ false) es

-- the first event starts the run, and no later one does
abbrev pub StartsOnce : List Event → Type 0
StartsOnce [] = Unit {0}
StartsOnce (e ∷ es) = (is_start e.what ≡ true) × StartNone es

-- a run that isn't open has no open activities
abbrev pub NoneLeft : State → List OpenActivity → Type 0
NoneLeft s ts = is_open s ≡ false → ts ≡ []

---- One event

abbrev has_begun : State → Bool
has_begun state.Unbegun = false
has_begun state.Open = true
has_begun state.Completed = true
has_begun state.Failed = true
has_begun state.Continued = true
has_begun state.Terminated = true

abbrev told : ℕ → ℕ → What → Event
told id at w = record { id = id; at = at; what = w }

-- a command is asked of an open run
abbrev FitsState : State → What → Type 0
FitsState s (Came i) = Unit {0}
FitsState s (Asked c) = is_open s ≡ true

one_begun : (s : State) (id at : ℕ) (w : What) → has_begun s ≡ true → has_begun (state_after_one s (told id at w)) ≡ true
one_begun s id at (Came (input.Started vs)) h = refl
one_begun s id at (Came (input.Signaled a r v)) h = h
one_begun s id at (Came (input.ActivityCompleted n v)) h = h
one_begun s id at (Came (input.ActivityFailed n t)) h = h
one_begun s id at (Came (input.TimerFired n)) h = h
one_begun s id at (Came (input.Terminated t)) h = refl
one_begun s id at (Asked (Schedule a vs n m k)) h = h
one_begun s id at (Asked (StartTimer d)) h = h
one_begun s id at (Asked (CancelTimer n)) h = h
one_begun s id at (Asked (RecordMarker p)) h = h
one_begun s id at (Asked (Complete v)) h = refl
one_begun s id at (Asked (Fail c t)) h = refl
one_begun s id at (Asked (ContinueAsNew vs)) h = refl

not_closed : (s : State) (ts : List OpenActivity) → is_open s ≡ true → NoneLeft s ts
not_closed s ts o c = absurd (true≢false (sym o ∙ c))

one_left : (s : State) (ts : List OpenActivity) (id at : ℕ) (w : What) → FitsState s w → NoneLeft s ts → NoneLeft (state_after_one s (told id at w)) (tasks_after_one ts (told id at w))
one_left s ts id at (Came (input.Started vs)) f h = not_closed state.Open ts refl
one_left s ts id at (Came (input.Signaled a r v)) f h = h
one_left s ts id at (Came (input.ActivityCompleted n v)) f h = λ c. ap (λ (us : List OpenActivity). tasks_after_one us (told id at (Came (input.ActivityCompleted n v)))) (h c)
one_left s ts id at (Came (input.ActivityFailed n t)) f h = λ c. ap (λ (us : List OpenActivity). tasks_after_one us (told id at (Came (input.ActivityFailed n t)))) (h c)
one_left s ts id at (Came (input.TimerFired n)) f h = h
one_left s ts id at (Came (input.Terminated t)) f h = λ c. refl
one_left s ts id at (Asked (Schedule a vs n m k)) f h = not_closed s (tasks_after_one ts (told id at (Asked (Schedule a vs n m k)))) f
one_left s ts id at (Asked (StartTimer d)) f h = h
one_left s ts id at (Asked (CancelTimer n)) f h = h
one_left s ts id at (Asked (RecordMarker p)) f h = h
one_left s ts id at (Asked (Complete v)) f h = λ c. refl
one_left s ts id at (Asked (Fail c t)) f h = λ e. refl
one_left s ts id at (Asked (ContinueAsNew vs)) f h = λ c. refl

---- Which inputs can be delivered

none_begun : (s : State) (o : Option Progress) (start : Progress) → has_begun s ≡ true → elim s [ state.Unbegun ↦ o | _ ↦ None ] ≡ Some start → ⊥
none_begun state.Unbegun o start h e = true≢false (sym h)
none_begun state.Open o start h e = none-some start e
none_begun state.Completed o start h e = none-some start e
none_begun state.Failed o start h e = none-some start e
none_begun state.Continued o start h e = none-some start e
none_begun state.Terminated o start h e = none-some start e

-- a run that has begun isn't started
not_again : (p : Program) (k : Configuration) (i : Input) (start : Progress) → has_begun k.state ≡ true → deliver p k i ≡ Some start → is_started i ≡ false
not_again p k (input.Started vs) start h e = absurd (none_begun k.state (begun p vs) start h e)
not_again p k (input.Signaled a r v) start h e = refl
not_again p k (input.ActivityCompleted n v) start h e = refl
not_again p k (input.ActivityFailed n t) start h e = refl
not_again p k (input.TimerFired n) start h e = refl
not_again p k (input.Terminated t) start h e = refl

-- one that hasn't begun takes its start alone
first_starts : (p : Program) (i : Input) (start : Progress) → deliver p first_configuration i ≡ Some start → is_started i ≡ true
first_starts p i start e =
    elim (is_started i) as (λ b. is_started i ≡ b → b ≡ true) [
      | true ↦ λ is. refl
      | false ↦ λ is. absurd (true≢false (sym (delivered_open p first_configuration i start is e)))
    ] refl

-- a start opens the run
start_opens : (s : State) (e : Event) (w : What) → e.what ≡ w → is_start w ≡ true → state_after_one s e ≡ state.Open
start_opens s e (Came (input.Started vs)) h is = came_state s e (input.Started vs) h
start_opens s e (Came (input.Signaled a r v)) h is = absurd (true≢false (sym is))
start_opens s e (Came (input.ActivityCompleted n v)) h is = absurd (true≢false (sym is))
start_opens s e (Came (input.ActivityFailed n t)) h is = absurd (true≢false (sym is))
start_opens s e (Came (input.TimerFired n)) h is = absurd (true≢false (sym is))
start_opens s e (Came (input.Terminated t)) h is = absurd (true≢false (sym is))
start_opens s e (Asked c) h is = absurd (true≢false (sym is))

---- Histories

-- Events of a run that has begun: none starts it, and where they leave it closed they leave nothing open.
leads_keep : (p : Program) (n : ℕ) (due : List Cmd) (k : Configuration) (h : List Event) (k' : Configuration) (s : State) (ts : List OpenActivity)
    → TriedBlock p.body → TriedRest k.rest → states_asked s due ≡ k.state → AskedOpen s due → has_begun s ≡ true → NoneLeft s ts → Leads p n due k h k'
    → StartNone h × NoneLeft (state_after s h) (tasks_after ts h)
leads_keep p n due k [] k' s ts b t e going begun left l = (tt, left)
leads_keep p n [] k (d ∷ later) k' s ts b t e going begun left l =
    let a = l.1.1.0 in
    let i : Input = a.2.0 in
    let turn = turn_leaves p (Recorded later) k d.at i l.0 l.1.0 b t a.2.2 in
    let came : state_after_one s d ≡ state_came k.state i = came_state s d i a.2.1 ∙ ap (λ (x : State). state_came x i) e in
    let other : is_started i ≡ false = not_again p k i a.2.2.start (ap has_begun (sym e) ∙ begun) a.2.2.delivered in
    let rest = leads_keep p (suc n) l.0 l.1.0 later k' (state_after_one s d) (tasks_after_one ts d) b turn.tried
    (ap (λ (x : State). states_asked x l.0) came ∙ turn.leaves)
    (subst (λ (x : State). AskedOpen x l.0) (sym came) turn.going)
    (one_begun s d.id d.at d.what begun)
    (one_left s ts d.id d.at d.what (subst (FitsState s) (sym a.2.1) tt) left) l.1.1.1 in
    ((ap is_start a.2.1 ∙ other, rest.0), rest.1)
leads_keep p n (c ∷ due) k (d ∷ later) k' s ts b t e going begun left l =
    let a = l.1.1.0 in
    let same : k ≡ l.1.0 = sym a.4 in
    let asked : state_after_one s d ≡ state_asked s c = asked_state s d c a.2 in
    let rest = leads_keep p (suc n) l.0 l.1.0 later k' (state_after_one s d) (tasks_after_one ts d) b
    (subst (λ (q : Configuration). TriedRest q.rest) same t)
    (ap (states_asked (state_after_one s d)) a.3 ∙ ap (λ (x : State). states_asked x due) asked ∙ e ∙ ap (λ (q : Configuration). q.state) same)
    (subst (AskedOpen (state_after_one s d)) (sym a.3) (subst (λ (x : State). AskedOpen x due) (sym asked) going.1))
    (one_begun s d.id d.at d.what begun)
    (one_left s ts d.id d.at d.what (subst (FitsState s) (sym a.2) going.0) left) l.1.1.1 in
    ((ap is_start a.2, rest.0), rest.1)

whole_keeps : (p : Program) (h : List Event) (k : Configuration) → TriedBlock p.body → h ≢ [] → Leads p 1 [] first_configuration h k → StartsOnce h × NoneLeft (state_of h) (open_activities h)
whole_keeps p [] k b some l = absurd (some refl)
whole_keeps p (d ∷ later) k b some l =
    let a = l.1.1.0 in
    let i : Input = a.2.0 in
    let turn = turn_leaves p (Recorded later) first_configuration d.at i l.0 l.1.0 b tt a.2.2 in
    let came : state_after_one state.Unbegun d ≡ state_came state.Unbegun i = came_state state.Unbegun d i a.2.1 in
    let starts : is_start d.what ≡ true = ap is_start a.2.1 ∙ first_starts p i a.2.2.start a.2.2.delivered in
    let opens : state_after_one state.Unbegun d ≡ state.Open = start_opens state.Unbegun d d.what refl starts in
    let rest = leads_keep p 2 l.0 l.1.0 later k (state_after_one state.Unbegun d) (tasks_after_one [] d) b turn.tried
    (ap (λ (x : State). states_asked x l.0) came ∙ turn.leaves)
    (subst (λ (x : State). AskedOpen x l.0) (sym came) turn.going)
    (ap has_begun opens)
    (not_closed (state_after_one state.Unbegun d) (tasks_after_one [] d) (ap is_open opens)) l.1.1.1 in
    ((starts, rest.0), rest.1)

-- the first event of a standing history alone starts the run
pub starts_once : (p : Program) (h : List Event) (k : Configuration) → TriedBlock p.body → Stands p h k → StartsOnce h
starts_once p h k b s = (whole_keeps p h k b s.0 s.1).0

-- a standing history that is closed leaves no activity open
pub none_left : (p : Program) (h : List Event) (k : Configuration) → TriedBlock p.body → Stands p h k → NoneLeft (state_of h) (open_activities h)
none_left p h k b s = (whole_keeps p h k b s.0 s.1).1
