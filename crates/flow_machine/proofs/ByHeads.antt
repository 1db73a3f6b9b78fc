-- What commands that go on decide is decided by their run's head: each word of `ByHead` is that of `Apply`, for every book.
use Rattle.std.proofs.Common.{◌≡◌, ℕ, List, refl, ap, ◌∙◌, Bool, true, false, Option, Some, None, Result}
use Rattle.std.specs.Prelude.{◌+◌, length, max, nat_eq, nat_lt, if◌then◌else◌}
use Rattle.flow_base.specs.Syntax.{Bytes, Program}
use Rattle.flow_base.specs.declared.value.Kind.{Kind}
use Rattle.flow_base.specs.declared.value.Value.{Value}
use Rattle.flow_base.specs.declared.event.Cmd.{Cmd}
use Rattle.flow_base.specs.declared.event.Event.{Event}
use Rattle.flow_base.specs.declared.event.Input.{Input}
use Rattle.flow_base.specs.declared.event.Input.TheVariants.{ActivityCompleted, ActivityFailed, Signaled, TimerFired}
use Rattle.flow_base.specs.declared.book.Due.{Due}
use Rattle.flow_base.specs.declared.book.Run.{Run}
use Rattle.flow_base.specs.declared.book.OpenActivity.{OpenActivity}
use Rattle.flow_base.specs.declared.book.Turn.{Turn}
use Rattle.flow_base.specs.declared.code.Code.{Code}
use Rattle.flow_base.specs.declared.code.Code.TheVariants.{NoRun, NoOpenRun, NoSuchSignal, NotOpen, OldAttempt, WrongType}
use Rattle.flow_base.specs.declared.command.Complete.{Complete}
use Rattle.flow_base.specs.declared.command.Fail.{Fail}
use Rattle.flow_base.specs.declared.command.Reply.TheVariants as reply
use Rattle.flow_base.specs.declared.command.TextFault.{TextFault}
use Rattle.flow_model.specs.Deliver.{has_kind}
use Rattle.flow_model.specs.Configuration.{is_open}
use Rattle.flow_model.specs.Open.{moment_of, state_of}
use Rattle.flow_model.specs.WellFormed.{signal_of}
use Rattle.flow_model.specs.Turn.{Fresh}
use Rattle.flow_model.specs.Turned.{turned, position_by_inputs}
use Rattle.flow_model.specs.Book.{Book, nth, open_run, signalled}
use Rattle.flow_model.specs.Apply.{Rules, Outcome, run_from, next_run, first_turn, continued, turn_made, recorded, input_recorded, report_refusal, failure_refusal, attempt_failed, signal_recorded, if_sound, must_be, must_hold, none_there, tested, refuse_unless, on_task, task_at, gives_kind, tries_of, program_at, retried, ready_after, complete, describe, fail, says, signal, fired, terminate, terminated}
use Rattle.flow_view.specs.Heads.{head_of, head_if, event_if}
use Rattle.flow_view.specs.Outlines.{outline_if, outline_of}
use Rattle.flow_view.specs.declared.head.Head.{Head}
use Rattle.flow_machine.specs.ByHead.{history_if, begun_by, next_by, made_by, recorded_by, recorded_at, input_at, StuckInputAt, attempt_refusal, given_at, StuckGivenAt, complete_at, StuckCompleteAt, run_failed_at, StuckFailureAt, fail_at, StuckFailAt, on_signal, signal_refused, signal_at, StuckSignalAt, run_sent_at, StuckSentAt, sent_at, StuckSendAt, fired_at, StuckFiredAt, ended_by, terminate_at, described_by, describe_at}
use Rattle.flow_machine.specs.Stuck.{unless_there, where_there, where_holds, unless_holds, needs, CantRecord, StuckInput, StuckSent, StuckSignal, StuckComplete, StuckFail, StuckFailed, StuckFired}

---- Turns

begun_is : (r : Run) (t : Option Turn) → run_from r t ≡ begun_by (head_of r) t
begun_is r None = refl
begun_is r (Some t) = refl

next_is : (p : Program) (r : Run) (at : ℕ) (o : Option (List Value)) → next_run p r at o ≡ next_by p (head_of r) at o
next_is p r at None = refl
next_is p r at (Some vs) = begun_is r (first_turn p at vs)

made_is : (limit : ℕ) (p : Program) (r : Run) (run at : ℕ) (i : Input) (cs : List Cmd) → turn_made limit p r run at i cs ≡ made_by limit p (head_of r) (length r.history) run at i cs
made_is limit p r run at i cs = rw (next_is p r at (continued cs)) refl

sound_is : {A : Type 0} (o : Option A) (f g : A → Outcome) → ((x : A) → f x ≡ g x) → if_sound o f ≡ if_sound o g
sound_is None f g same = refl
sound_is (Some x) f g same = same x

must_is : {A : Type 0} (o : Option A) (c : Code) (f g : A → Outcome) → ((x : A) → f x ≡ g x) → must_be o c f ≡ must_be o c g
must_is None c f g same = refl
must_is (Some x) c f g same = same x

pub recorded_is : (limit : ℕ) (p : Program) (r : Run) (run at : ℕ) (i : Input) → recorded limit p r run at i ≡ recorded_at limit p (head_of r) r.history run at i
unfolding recorded recorded_at
recorded_is limit p r run at i =
    let now = max at (moment_of r.history) in
    sound_is (position_by_inputs p r.history) (λ k. if_sound (turned p Fresh k now i) (λ t. turn_made limit p r run now i t.0)) (λ k. recorded_by limit p (head_of r) (length r.history) k run at i)
    (λ k. sound_is (turned p Fresh k now i) (λ t. turn_made limit p r run now i t.0) (λ t. made_by limit p (head_of r) (length r.history) run now i t.0) (λ t. made_is limit p r run now i t.0))

-- a run takes an input, over its head and its history
abbrev input_over : Rules → Book → Head → List Event → ℕ → ℕ → Input → Outcome
input_over u b h es run at i = if_sound (program_at u.program_of b h.text) (λ p. recorded_at u.limit p h es run at i)

abbrev stuck_over : (Bytes → Result Program TextFault) → Book → Head → List Event → Input → Type 0
stuck_over m b h es i = needs (program_at m b h.text) (λ p. CantRecord p es i)

input_is : (u : Rules) (b : Book) (r : Run) (run at : ℕ) (i : Input) → input_recorded u b r run at i ≡ input_over u b (head_of r) r.history run at i
unfolding input_recorded
input_is u b r run at i =
    sound_is (program_at u.program_of b r.text) (λ p. recorded u.limit p r run at i) (λ p. recorded_at u.limit p (head_of r) r.history run at i) (λ p. recorded_is u.limit p r run at i)

---- An activity that gave a value

attempted : (a g : Bool) (x : Outcome) → tested (refuse_unless a OldAttempt (refuse_unless g WrongType None)) x ≡ tested (refuse_unless a OldAttempt None) (must_hold g WrongType x)
attempted true true x = refl
attempted true false x = refl
attempted false g x = refl

reported : (o : Option OpenActivity) (attempt : ℕ) (g : Bool) (x : Outcome)
    → tested (on_task o (λ t. refuse_unless (nat_eq t.attempt attempt) OldAttempt (refuse_unless g WrongType None))) x ≡ tested (on_task o (λ t. refuse_unless (nat_eq t.attempt attempt) OldAttempt None)) (must_hold g WrongType x)
reported None attempt g x = refl
reported (Some t) attempt g x = attempted (nat_eq t.attempt attempt) g x

attempt_stuck : (a g : Bool) (s : Type 0) → unless_there (refuse_unless a OldAttempt None) (where_holds g s) → unless_there (refuse_unless a OldAttempt (refuse_unless g WrongType None)) s
attempt_stuck true true s h = h
attempt_stuck true false s h = h
attempt_stuck false g s h = h

report_stuck : (o : Option OpenActivity) (attempt : ℕ) (g : Bool) (s : Type 0)
    → unless_there (on_task o (λ t. refuse_unless (nat_eq t.attempt attempt) OldAttempt None)) (where_holds g s) → unless_there (on_task o (λ t. refuse_unless (nat_eq t.attempt attempt) OldAttempt (refuse_unless g WrongType None))) s
report_stuck None attempt g s h = h
report_stuck (Some t) attempt g s h = attempt_stuck (nat_eq t.attempt attempt) g s h

completed_is : (u : Rules) (b : Book) (r : Run) (run event attempt : ℕ) (v : Value) (at : ℕ)
    → tested (report_refusal r event attempt v) (input_recorded u b r run at (ActivityCompleted event v)) ≡ tested (attempt_refusal (head_of r) event attempt) (must_hold (gives_kind (nth r.history event) v) WrongType (input_over u b (head_of r) r.history run at (ActivityCompleted event v)))
unfolding report_refusal attempt_refusal
completed_is u b r run event attempt v at =
    reported (task_at r.tasks event) attempt (gives_kind (nth r.history event) v) (input_recorded u b r run at (ActivityCompleted event v))
    ∙ ap (λ (x : Outcome). tested (attempt_refusal (head_of r) event attempt) (must_hold (gives_kind (nth r.history event) v) WrongType x)) (input_is u b r run at (ActivityCompleted event v))

pub complete_is : (u : Rules) (b : Book) (c : Complete) → complete u b c.run c.event c.attempt c.value c.at ≡ complete_at u b c
unfolding complete complete_at given_at input_at
complete_is u b c =
    elim (nth b.runs c.run) as (λ (o : Option Run).
    must_be o NoRun (λ r. tested (report_refusal r c.event c.attempt c.value) (input_recorded u b r c.run c.at (ActivityCompleted c.event c.value)))
    ≡ must_be (head_if o) NoRun (λ h. tested (attempt_refusal h c.event c.attempt) (must_hold (gives_kind (event_if o c.event) c.value) WrongType (input_over u b h (history_if o) c.run c.at (ActivityCompleted c.event c.value))))) [
      | None ↦ refl
      | Some r ↦ completed_is u b r c.run c.event c.attempt c.value c.at
    ]

completed_stuck : (m : Bytes → Result Program TextFault) (b : Book) (r : Run) (event attempt : ℕ) (v : Value)
    → unless_there (attempt_refusal (head_of r) event attempt) (where_holds (gives_kind (nth r.history event) v) (stuck_over m b (head_of r) r.history (ActivityCompleted event v))) → unless_there (report_refusal r event attempt v) (StuckInput m b r (ActivityCompleted event v))
unfolding report_refusal attempt_refusal StuckInput
completed_stuck m b r event attempt v h =
    report_stuck (task_at r.tasks event) attempt (gives_kind (nth r.history event) v) (stuck_over m b (head_of r) r.history (ActivityCompleted event v)) h

pub complete_stuck : (m : Bytes → Result Program TextFault) (b : Book) (c : Complete) → StuckCompleteAt m b c → StuckComplete m b c.run c.event c.attempt c.value
unfolding StuckCompleteAt StuckGivenAt StuckInputAt StuckComplete
complete_stuck m b c =
    elim (nth b.runs c.run) as (λ (o : Option Run).
    where_there (head_if o) (λ h. unless_there (attempt_refusal h c.event c.attempt) (where_holds (gives_kind (event_if o c.event) c.value) (stuck_over m b h (history_if o) (ActivityCompleted c.event c.value))))
    → where_there o (λ r. unless_there (report_refusal r c.event c.attempt c.value) (StuckInput m b r (ActivityCompleted c.event c.value)))) [
      | None ↦ λ h. h
      | Some r ↦ λ h. completed_stuck m b r c.event c.attempt c.value h
    ]

---- An attempt that failed

abbrev retried_over : Rules → Book → Head → List Event → ℕ → ℕ → ℕ → Bytes → ℕ → ℕ × ℕ → Outcome
retried_over u b h es run event attempt reason at tries =
    if nat_lt attempt tries.0 then retried run event attempt (ready_after (max at h.moment) tries.1) else input_over u b h es run at (ActivityFailed event reason)

retry_is : (u : Rules) (b : Book) (r : Run) (run event attempt : ℕ) (reason : Bytes) (at : ℕ) (tries : ℕ × ℕ) → attempt_failed u b r run event attempt reason at tries ≡ retried_over u b (head_of r) r.history run event attempt reason at tries
retry_is u b r run event attempt reason at tries =
    ap (λ (o : Outcome). if nat_lt attempt tries.0 then retried run event attempt (ready_after (max at (moment_of r.history)) tries.1) else o) (input_is u b r run at (ActivityFailed event reason))

failed_is : (u : Rules) (b : Book) (r : Run) (run event attempt : ℕ) (reason : Bytes) (at : ℕ)
    → tested (failure_refusal r event attempt) (if_sound (tries_of (nth r.history event)) (attempt_failed u b r run event attempt reason at)) ≡ tested (attempt_refusal (head_of r) event attempt) (if_sound (tries_of (nth r.history event)) (retried_over u b (head_of r) r.history run event attempt reason at))
unfolding failure_refusal attempt_refusal
failed_is u b r run event attempt reason at =
    ap (tested (attempt_refusal (head_of r) event attempt))
    (sound_is (tries_of (nth r.history event)) (attempt_failed u b r run event attempt reason at) (retried_over u b (head_of r) r.history run event attempt reason at) (λ tries. retry_is u b r run event attempt reason at tries))

pub fail_is : (u : Rules) (b : Book) (f : Fail) → fail u b f.run f.event f.attempt f.reason f.at ≡ fail_at u b f
unfolding fail fail_at run_failed_at input_at
fail_is u b f =
    elim (nth b.runs f.run) as (λ (o : Option Run).
    must_be o NoRun (λ r. tested (failure_refusal r f.event f.attempt) (if_sound (tries_of (nth r.history f.event)) (attempt_failed u b r f.run f.event f.attempt f.reason f.at)))
    ≡ must_be (head_if o) NoRun (λ h. tested (attempt_refusal h f.event f.attempt) (if_sound (tries_of (event_if o f.event)) (retried_over u b h (history_if o) f.run f.event f.attempt f.reason f.at)))) [
      | None ↦ refl
      | Some r ↦ failed_is u b r f.run f.event f.attempt f.reason f.at
    ]

failed_stuck : (m : Bytes → Result Program TextFault) (b : Book) (r : Run) (event attempt : ℕ) (reason : Bytes)
    → unless_there (attempt_refusal (head_of r) event attempt) (needs (tries_of (nth r.history event)) (λ tries. unless_holds (nat_lt attempt tries.0) (stuck_over m b (head_of r) r.history (ActivityFailed event reason))))
    → unless_there (failure_refusal r event attempt) (needs (tries_of (nth r.history event)) (StuckFailed m b r event attempt reason))
unfolding failure_refusal attempt_refusal StuckInput
failed_stuck m b r event attempt reason h = h

pub fail_stuck : (m : Bytes → Result Program TextFault) (b : Book) (f : Fail) → StuckFailAt m b f → StuckFail m b f.run f.event f.attempt f.reason
unfolding StuckFailAt StuckFailureAt StuckInputAt StuckFail
fail_stuck m b f =
    elim (nth b.runs f.run) as (λ (o : Option Run).
    where_there (head_if o) (λ h. unless_there (attempt_refusal h f.event f.attempt) (needs (tries_of (event_if o f.event)) (λ tries. unless_holds (nat_lt f.attempt tries.0) (stuck_over m b h (history_if o) (ActivityFailed f.event f.reason)))))
    → where_there o (λ r. unless_there (failure_refusal r f.event f.attempt) (needs (tries_of (nth r.history f.event)) (StuckFailed m b r f.event f.attempt f.reason)))) [
      | None ↦ λ h. h
      | Some r ↦ λ h. failed_stuck m b r f.event f.attempt f.reason h
    ]

---- Signals

held : (t : Bool) (x y : Outcome) → x ≡ y → must_hold t WrongType x ≡ tested (refuse_unless t WrongType None) y
held true x y e = e
held false x y e = refl

declared_is : (o : Option Kind) (v : Value) (x y : Outcome) → x ≡ y → must_be o NoSuchSignal (λ k. must_hold (has_kind k v) WrongType x) ≡ tested (on_signal o (λ k. refuse_unless (has_kind k v) WrongType None)) y
declared_is None v x y e = refl
declared_is (Some k) v x y e = held (has_kind k v) x y e

signal_recorded_is : (limit : ℕ) (p : Program) (r : Run) (run : ℕ) (request name : Bytes) (v : Value) (at : ℕ) → signal_recorded limit r run request name v at p ≡ signal_at limit (head_of r) r.history run request name v at p
unfolding signal_refused
signal_recorded_is limit p r run request name v at =
    declared_is (signal_of p.declarations name) v (recorded limit p r run at (Signaled name request v)) (recorded_at limit p (head_of r) r.history run at (Signaled name request v)) (recorded_is limit p r run at (Signaled name request v))

abbrev sent_over : Rules → Book → Option Run → ℕ → Bytes → Bytes → Value → ℕ → Outcome
sent_over u b o run request name v at =
    if_sound (head_if o) (λ h. if_sound (program_at u.program_of b h.text) (signal_at u.limit h (history_if o) run request name v at))

run_sent_is : (u : Rules) (b : Book) (run : ℕ) (request name : Bytes) (v : Value) (at : ℕ)
    → if_sound (nth b.runs run) (λ r. if_sound (program_at u.program_of b r.text) (signal_recorded u.limit r run request name v at)) ≡ run_sent_at u b run request name v at
unfolding run_sent_at
run_sent_is u b run request name v at =
    elim (nth b.runs run) as (λ (o : Option Run). if_sound o (λ r. if_sound (program_at u.program_of b r.text) (signal_recorded u.limit r run request name v at)) ≡ sent_over u b o run request name v at) [
      | None ↦ refl
      | Some r ↦ sound_is (program_at u.program_of b r.text) (signal_recorded u.limit r run request name v at) (signal_at u.limit (head_of r) r.history run request name v at) (λ p. signal_recorded_is u.limit p r run request name v at)
    ]

pub signal_is : (u : Rules) (b : Book) (request flow name : Bytes) (v : Value) (at : ℕ) → signal u b request flow name v at ≡ sent_at u b request flow name v at
unfolding signal sent_at
signal_is u b request flow name v at =
    ap (none_there (signalled b flow request) (λ x. reply.DuplicateSignal x.0 x.1))
    (must_is (open_run b flow) NoOpenRun (λ run. if_sound (nth b.runs run) (λ r. if_sound (program_at u.program_of b r.text) (signal_recorded u.limit r run request name v at))) (λ run. run_sent_at u b run request name v at)
    (λ run. run_sent_is u b run request name v at))

held_stuck : (t : Bool) (s : Type 0) → unless_there (refuse_unless t WrongType None) s → where_holds t s
held_stuck true s h = h
held_stuck false s h = h

declared_stuck : (o : Option Kind) (v : Value) (s : Type 0) → unless_there (on_signal o (λ k. refuse_unless (has_kind k v) WrongType None)) s → where_there o (λ k. where_holds (has_kind k v) s)
declared_stuck None v s h = h
declared_stuck (Some k) v s h = held_stuck (has_kind k v) s h

needs_on : {A : Type 0} (o : Option A) (f g : A → Type 0) → ((x : A) → f x → g x) → needs o f → needs o g
needs_on None f g on h = tt
needs_on (Some x) f g on h = on x h

signal_stuck_by : (p : Program) (r : Run) (request name : Bytes) (v : Value) → StuckSignalAt r.history request name v p → StuckSent r request name v p
unfolding signal_refused
signal_stuck_by p r request name v h = declared_stuck (signal_of p.declarations name) v (CantRecord p r.history (Signaled name request v)) h

run_sent_stuck : (m : Bytes → Result Program TextFault) (b : Book) (run : ℕ) (request name : Bytes) (v : Value) → StuckSentAt m b run request name v → needs (nth b.runs run) (λ r. needs (program_at m b r.text) (StuckSent r request name v))
unfolding StuckSentAt
run_sent_stuck m b run request name v =
    elim (nth b.runs run) as (λ (o : Option Run). needs (head_if o) (λ h. needs (program_at m b h.text) (StuckSignalAt (history_if o) request name v)) → needs o (λ r. needs (program_at m b r.text) (StuckSent r request name v))) [
      | None ↦ λ h. h
      | Some r ↦ λ h. needs_on (program_at m b r.text) (StuckSignalAt r.history request name v) (StuckSent r request name v) (λ p. signal_stuck_by p r request name v) h
    ]

unless_on : {A : Type 0} (o : Option A) (s t : Type 0) → (s → t) → unless_there o s → unless_there o t
unless_on None s t on h = on h
unless_on (Some x) s t on h = h

where_on : {A : Type 0} (o : Option A) (f g : A → Type 0) → ((x : A) → f x → g x) → where_there o f → where_there o g
where_on None f g on h = h
where_on (Some x) f g on h = on x h

pub signal_stuck : (m : Bytes → Result Program TextFault) (b : Book) (request flow name : Bytes) (v : Value) → StuckSendAt m b request flow name v → StuckSignal m b request flow name v
unfolding StuckSendAt StuckSignal
signal_stuck m b request flow name v h =
    let at = λ (run : ℕ). StuckSentAt m b run request name v in
    let of = λ (run : ℕ). needs (nth b.runs run) (λ r. needs (program_at m b r.text) (StuckSent r request name v)) in
    unless_on (signalled b flow request) (where_there (open_run b flow) at) (where_there (open_run b flow) of)
    (where_on (open_run b flow) at of (λ run. run_sent_stuck m b run request name v)) h

---- Timers

pub fired_is : (u : Rules) (b : Book) (at : ℕ) (d : Due) → fired u b at d ≡ fired_at u b at d
unfolding fired fired_at input_at
fired_is u b at d =
    elim (nth b.runs d.run) as (λ (o : Option Run). if_sound o (λ r. input_recorded u b r d.run at (TimerFired d.id)) ≡ if_sound (head_if o) (λ h. input_over u b h (history_if o) d.run at (TimerFired d.id))) [
      | None ↦ refl
      | Some r ↦ input_is u b r d.run at (TimerFired d.id)
    ]

pub fired_stuck : (m : Bytes → Result Program TextFault) (b : Book) (d : Due) → StuckFiredAt m b d → StuckFired m b d
unfolding StuckFiredAt StuckInputAt StuckFired StuckInput
fired_stuck m b d =
    elim (nth b.runs d.run) as (λ (o : Option Run). needs (head_if o) (λ h. stuck_over m b h (history_if o) (TimerFired d.id)) → needs o (λ r. needs (program_at m b r.text) (λ p. CantRecord p r.history (TimerFired d.id)))) [
      | None ↦ λ h. h
      | Some r ↦ λ h. h
    ]

---- Runs that are closed from outside

pub terminate_is : (b : Book) (run : ℕ) (reason : Bytes) (at : ℕ) → terminate b run reason at ≡ terminate_at b run reason at
unfolding terminate terminate_at
terminate_is b run reason at =
    elim (nth b.runs run) as (λ (o : Option Run).
    must_be o NoRun (λ r. must_hold (is_open (state_of r.history)) NotOpen (terminated r run reason at))
    ≡ must_be (head_if o) NoRun (λ h. must_hold h.is_open NotOpen (ended_by h.moment (h.events + 1) run reason at))) [
      | None ↦ refl
      | Some r ↦ refl
    ]

---- Runs that are told

pub describe_is : (b : Book) (run : ℕ) → describe b run ≡ describe_at b run
unfolding describe describe_at
describe_is b run =
    elim (nth b.runs run) as (λ (o : Option Run).
    must_be o NoRun (λ r. says (reply.Run (described_by (outline_of r)))) ≡ must_be (outline_if o) NoRun (λ s. says (reply.Run (described_by s)))) [
      | None ↦ refl
      | Some r ↦ refl
    ]
