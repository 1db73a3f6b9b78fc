-- What commands that go on decide, said of a run's head, of one event, and of where its history leads: who decides reads no history
-- where he knows the position. Each word is that of `Apply`, over the head.
use Rattle.std.specs.Prelude.{◌+◌, ℕ, List, [], ◌∷◌, length, map, max, Option, Some, None, Result, nat_eq, nat_le, nat_lt, if◌then◌else◌}
use Rattle.flow_base.specs.Syntax.{Bytes, Program}
use Rattle.flow_base.specs.declared.value.Kind.{Kind}
use Rattle.flow_base.specs.declared.value.Value.{Value}
use Rattle.flow_base.specs.declared.event.Cmd.{Cmd}
use Rattle.flow_base.specs.declared.event.Event.{Event}
use Rattle.flow_base.specs.declared.event.Input.{Input}
use Rattle.flow_base.specs.declared.event.Input.TheVariants.{Signaled, ActivityCompleted, ActivityFailed, TimerFired, Terminated}
use Rattle.flow_base.specs.declared.book.Due.{Due}
use Rattle.flow_base.specs.declared.book.OpenActivity.{OpenActivity}
use Rattle.flow_base.specs.declared.book.Run.{Run}
use Rattle.flow_base.specs.declared.book.Timer.{Timer}
use Rattle.flow_base.specs.declared.book.Turn.{Turn}
use Rattle.flow_base.specs.declared.book.Change.{Change}
use Rattle.flow_base.specs.declared.book.Change.TheVariants.{AddRun, AddTurn}
use Rattle.flow_base.specs.declared.code.Code.{Code}
use Rattle.flow_base.specs.declared.code.Code.TheVariants.{NoRun, NoOpenRun, NotOpen, OldAttempt, WrongType, NoSuchSignal}
use Rattle.flow_base.specs.declared.command.Complete.{Complete}
use Rattle.flow_base.specs.declared.command.Description.{Description}
use Rattle.flow_base.specs.declared.command.Fail.{Fail}
use Rattle.flow_base.specs.declared.command.Reply.TheVariants as reply
use Rattle.flow_base.specs.declared.command.TextFault.{TextFault}
use Rattle.flow_model.specs.Configuration.{Configuration}
use Rattle.flow_model.specs.Deliver.{has_kind}
use Rattle.flow_model.specs.Turn.{Fresh}
use Rattle.flow_model.specs.Turned.{turned, position_by_inputs}
use Rattle.flow_model.specs.WellFormed.{signal_of}
use Rattle.flow_model.specs.Book.{Book, nth, signalled, open_run}
use Rattle.flow_model.specs.Apply.{Rules, Outcome, must_be, must_hold, none_there, tested, refuse_unless, on_task, task_at, if_sound, program_at, first_turn, continued, gives_kind, tries_of, ready_after, retried, says, history_limit}
use Rattle.flow_view.specs.declared.head.Head.{Head}
use Rattle.flow_view.specs.declared.outline.Outline.{Outline}
use Rattle.flow_view.specs.Heads.{head_at, event_at}
use Rattle.flow_view.specs.Outlines.{outline_at}
use Rattle.flow_machine.specs.Stuck.{unless_there, where_there, where_holds, unless_holds, needs, CantRecord}

-- the history of a run; none where there is no such run
abbrev pub history_if : Option Run → List Event
history_if None = []
history_if (Some r) = r.history

abbrev pub history_at : List Run → ℕ → List Event
history_at rs n = history_if (nth rs n)

---- Turns

-- the run that a turn continues as: of the same flow and text
abbrev pub begun_by : Head → Option Turn → List Change
begun_by h None = []
begun_by h (Some t) = AddRun h.flow None h.text t ∷ []

abbrev pub next_by : Program → Head → ℕ → Option (List Value) → List Change
next_by p h at None = []
next_by p h at (Some vs) = begun_by h (first_turn p at vs)

-- a turn is recorded behind so many events, or the run is terminated in its place
abbrev pub made_by : ℕ → Program → Head → ℕ → ℕ → ℕ → Input → List Cmd → Outcome
made_by limit p h count run at i cs =
    if nat_le (count + 1 + length cs) limit
    then record {
      reply = reply.Recorded run (count + 1);
      changes = AddTurn run (record { at = at; input = i; commands = cs }) ∷ next_by p h at (continued cs);
    }
    else record {
      reply = reply.Full run (count + 1);
      changes = AddTurn run (record { at = at; input = Terminated history_limit; commands = [] }) ∷ [];
    }

-- a run that stands at k, behind so many events, takes an input
abbrev pub recorded_by : ℕ → Program → Head → ℕ → Configuration → ℕ → ℕ → Input → Outcome
recorded_by limit p h count k run at i = if_sound (turned p Fresh k (max at h.moment) i) (λ t. made_by limit p h count run (max at h.moment) i t.0)

-- the same, of where a history leads
unfoldable pub recorded_at : ℕ → Program → Head → List Event → ℕ → ℕ → Input → Outcome
recorded_at limit p h es run at i = if_sound (position_by_inputs p es) (λ k. recorded_by limit p h (length es) k run at i)

-- the same, of the run's text
unfoldable pub input_at : Rules → Book → Head → ℕ → ℕ → Input → Outcome
input_at u b h run at i = if_sound (program_at u.program_of b h.text) (λ p. recorded_at u.limit p h (history_at b.runs run) run at i)

unfoldable pub StuckInputAt : (Bytes → Result Program TextFault) → Book → Head → ℕ → Input → Type 0
StuckInputAt program_of b h run i = needs (program_at program_of b h.text) (λ p. CantRecord p (history_at b.runs run) i)

---- Reports of activities

-- the first refusal of a report that any report may have: what the activity gave isn't looked at
unfoldable pub attempt_refusal : Head → ℕ → ℕ → Option Code
attempt_refusal h event attempt = on_task (task_at h.tasks event) (λ t. refuse_unless (nat_eq t.attempt attempt) OldAttempt None)

-- its attempt is the one: the value's type is tested
unfoldable pub given_at : Rules → Book → Head → Complete → Outcome
given_at u b h c =
    must_hold (gives_kind (event_at b.runs c.run c.event) c.value) WrongType (input_at u b h c.run c.at (ActivityCompleted c.event c.value))

unfoldable pub StuckGivenAt : (Bytes → Result Program TextFault) → Book → Head → Complete → Type 0
StuckGivenAt program_of b h c =
    where_holds (gives_kind (event_at b.runs c.run c.event) c.value) (StuckInputAt program_of b h c.run (ActivityCompleted c.event c.value))

unfoldable pub complete_at : Rules → Book → Complete → Outcome
complete_at u b c =
    must_be (head_at b.runs c.run) NoRun (λ h.
    tested (attempt_refusal h c.event c.attempt) (given_at u b h c))

unfoldable pub StuckCompleteAt : (Bytes → Result Program TextFault) → Book → Complete → Type 0
StuckCompleteAt program_of b c =
    where_there (head_at b.runs c.run) (λ h.
    unless_there (attempt_refusal h c.event c.attempt) (StuckGivenAt program_of b h c))

-- the next attempt, or the failure
abbrev pub attempt_failed_at : Rules → Book → Head → Fail → ℕ × ℕ → Outcome
attempt_failed_at u b h f tries =
    if nat_lt f.attempt tries.0
    then retried f.run f.event f.attempt (ready_after (max f.at h.moment) tries.1)
    else input_at u b h f.run f.at (ActivityFailed f.event f.reason)

abbrev pub StuckFailedAt : (Bytes → Result Program TextFault) → Book → Head → Fail → ℕ × ℕ → Type 0
StuckFailedAt program_of b h f tries =
    unless_holds (nat_lt f.attempt tries.0) (StuckInputAt program_of b h f.run (ActivityFailed f.event f.reason))

unfoldable pub run_failed_at : Rules → Book → Head → Fail → Outcome
run_failed_at u b h f = if_sound (tries_of (event_at b.runs f.run f.event)) (attempt_failed_at u b h f)

unfoldable pub StuckFailureAt : (Bytes → Result Program TextFault) → Book → Head → Fail → Type 0
StuckFailureAt program_of b h f = needs (tries_of (event_at b.runs f.run f.event)) (StuckFailedAt program_of b h f)

unfoldable pub fail_at : Rules → Book → Fail → Outcome
fail_at u b f =
    must_be (head_at b.runs f.run) NoRun (λ h.
    tested (attempt_refusal h f.event f.attempt) (run_failed_at u b h f))

unfoldable pub StuckFailAt : (Bytes → Result Program TextFault) → Book → Fail → Type 0
StuckFailAt program_of b f =
    where_there (head_at b.runs f.run) (λ h.
    unless_there (attempt_refusal h f.event f.attempt) (StuckFailureAt program_of b h f))

---- Signals

-- the first refusal of a signal that a program may declare
abbrev pub on_signal : Option Kind → (Kind → Option Code) → Option Code
on_signal None next = Some NoSuchSignal
on_signal (Some k) next = next k

unfoldable pub signal_refused : Program → Bytes → Value → Option Code
signal_refused p name v = on_signal (signal_of p.declarations name) (λ k. refuse_unless (has_kind k v) WrongType None)

abbrev pub signal_at : ℕ → Head → List Event → ℕ → Bytes → Bytes → Value → ℕ → Program → Outcome
signal_at limit h es run request name v at p = tested (signal_refused p name v) (recorded_at limit p h es run at (Signaled name request v))

abbrev pub StuckSignalAt : List Event → Bytes → Bytes → Value → Program → Type 0
StuckSignalAt es request name v p = unless_there (signal_refused p name v) (CantRecord p es (Signaled name request v))

unfoldable pub run_sent_at : Rules → Book → ℕ → Bytes → Bytes → Value → ℕ → Outcome
run_sent_at u b run request name v at =
    if_sound (head_at b.runs run) (λ h.
    if_sound (program_at u.program_of b h.text) (signal_at u.limit h (history_at b.runs run) run request name v at))

unfoldable pub StuckSentAt : (Bytes → Result Program TextFault) → Book → ℕ → Bytes → Bytes → Value → Type 0
StuckSentAt program_of b run request name v =
    needs (head_at b.runs run) (λ h.
    needs (program_at program_of b h.text) (StuckSignalAt (history_at b.runs run) request name v))

unfoldable pub sent_at : Rules → Book → Bytes → Bytes → Bytes → Value → ℕ → Outcome
sent_at u b request flow name v at =
    none_there (signalled b flow request) (λ x. reply.DuplicateSignal x.0 x.1) (
    must_be (open_run b flow) NoOpenRun (λ run. run_sent_at u b run request name v at))

unfoldable pub StuckSendAt : (Bytes → Result Program TextFault) → Book → Bytes → Bytes → Bytes → Value → Type 0
StuckSendAt program_of b request flow name v =
    unless_there (signalled b flow request) (
    where_there (open_run b flow) (λ run. StuckSentAt program_of b run request name v))

---- Timers

unfoldable pub fired_at : Rules → Book → ℕ → Due → Outcome
fired_at u b at d = if_sound (head_at b.runs d.run) (λ h. input_at u b h d.run at (TimerFired d.id))

unfoldable pub StuckFiredAt : (Bytes → Result Program TextFault) → Book → Due → Type 0
StuckFiredAt program_of b d = needs (head_at b.runs d.run) (λ h. StuckInputAt program_of b h d.run (TimerFired d.id))

---- Runs that are closed from outside

-- the turn that closes a run, behind an event of this moment and under this number
abbrev pub ended_by : ℕ → ℕ → ℕ → Bytes → ℕ → Outcome
ended_by moment event run reason at =
    record {
      reply = reply.Recorded run event;
      changes = AddTurn run (record { at = max at moment; input = Terminated reason; commands = [] }) ∷ [];
    }

unfoldable pub terminate_at : Book → ℕ → Bytes → ℕ → Outcome
terminate_at b run reason at =
    must_be (head_at b.runs run) NoRun (λ h.
    must_hold h.is_open NotOpen (ended_by h.moment (h.events + 1) run reason at))

---- Runs that are told

-- a run that stands so, told
abbrev pub described_by : Outline → Description
described_by s =
    record {
      flow = s.head.flow;
      text = s.head.text;
      state = s.state;
      events = s.head.events;
      activities = map (λ (t : OpenActivity). t.event) s.head.tasks;
      timers = map (λ (t : Timer). t.id) s.timers;
    }

unfoldable pub describe_at : Book → ℕ → Outcome
describe_at b run = must_be (outline_at b.runs run) NoRun (λ s. says (reply.Run (described_by s)))
