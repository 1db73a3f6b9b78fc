-- Apply: what a command answers, and what it changes in a book. A refusal changes nothing, unless the history is full.
use Rattle.std.specs.Prelude.{ℕ, zero, suc, ◌+◌, Bool, true, false, List, [], ◌∷◌, ◌++◌, length, map, take, drop, max, min, codes, Option, Some, None, Result, Ok, Err, nat_eq, nat_lt, nat_le, is_some, if◌then◌else◌}
use Rattle.flow_base.specs.Syntax.{Bytes, Program}
use Rattle.flow_base.specs.declared.value.Value.{Value}
use Rattle.flow_base.specs.declared.event.Cmd.{Cmd}
use Rattle.flow_base.specs.declared.event.Cmd.TheVariants.{Schedule, ContinueAsNew}
use Rattle.flow_base.specs.declared.event.Input.{Input}
use Rattle.flow_base.specs.declared.event.Input.TheVariants.{Started, Signaled, ActivityCompleted, ActivityFailed, TimerFired, Terminated}
use Rattle.flow_base.specs.declared.event.What.TheVariants.{Came, Asked}
use Rattle.flow_base.specs.declared.event.Event.{Event}
use Rattle.flow_base.specs.declared.event.Wrong.{Wrong}
use Rattle.flow_base.specs.declared.book.OpenActivity.{OpenActivity}
use Rattle.flow_base.specs.declared.book.Timer.{Timer}
use Rattle.flow_base.specs.declared.book.Due.{Due}
use Rattle.flow_base.specs.declared.book.Run.{Run}
use Rattle.flow_base.specs.declared.book.Turn.{Turn}
use Rattle.flow_base.specs.declared.book.Change.{Change}
use Rattle.flow_base.specs.declared.book.Change.TheVariants.{AddText, AddRun, AddTurn, SetAttempt, SetText}
use Rattle.flow_base.specs.declared.code.Code.{Code}
use Rattle.flow_base.specs.declared.code.Code.TheVariants.{NoText, BadArguments, AlreadyOpen, NoOpenRun, NotOpen, OldAttempt, WrongType, NoSuchSignal, NoRun}
use Rattle.flow_base.specs.declared.command.Command.{Command}
use Rattle.flow_base.specs.declared.command.Command.TheVariants as command
use Rattle.flow_base.specs.declared.command.TextFault.{TextFault}
use Rattle.flow_base.specs.declared.command.OpenTask.{OpenTask}
use Rattle.flow_base.specs.declared.command.OpenRun.{OpenRun}
use Rattle.flow_base.specs.declared.command.Reply.{Reply}
use Rattle.flow_base.specs.declared.command.Reply.TheVariants as reply
use Rattle.flow_model.specs.Values.{last_moment}
use Rattle.flow_model.specs.Rest.{signals_awaited}
use Rattle.flow_model.specs.Configuration.{Configuration, first_configuration, is_open}
use Rattle.flow_model.specs.Deliver.{all_fit, has_kind}
use Rattle.flow_model.specs.Turn.{Fresh}
use Rattle.flow_model.specs.Turned.{turned, position_by_inputs}
use Rattle.flow_model.specs.Open.{timers_left, state_of, moment_of}
use Rattle.flow_model.specs.WellFormed.{signal_of}
use Rattle.flow_model.specs.Verdict.{verdict}
use Rattle.flow_model.specs.Book.{Book, nth, text_number, requested, open_run, signalled, least_due, open_runs, changed_by}

-- What decides beside the book: how many events a history may have, and which program a text is, or why it is none.
pub record Rules : Type 0 where
  pub limit : ℕ
  pub program_of : Bytes → Result Program TextFault

-- the most events of a history, but for the one that closes a full one
abbrev pub event_limit : ℕ
event_limit = 8190

-- the rules of the engine, by what texts mean
abbrev pub rules_of : (Bytes → Result Program TextFault) → Rules
rules_of program_of = record { limit = event_limit; program_of = program_of }

pub record Outcome : Type 0 where
  pub reply : Reply
  pub changes : List Change

-- a reply that changes nothing
abbrev pub says : Reply → Outcome
says r = record { reply = r; changes = [] }

-- Tests in order. The first that fails gives the reply, and no later one is made.

-- there may be none; what is there is answered
abbrev pub none_there : {A : Type 0} → Option A → (A → Reply) → Outcome → Outcome
none_there None answer next = next
none_there (Some x) answer next = says (answer x)

-- there must be one, with which it goes on
abbrev pub must_be : {A : Type 0} → Option A → Code → (A → Outcome) → Outcome
must_be None code next = says (reply.Refused code)
must_be (Some x) code next = next x

abbrev pub must_hold : Bool → Code → Outcome → Outcome
must_hold true code next = next
must_hold false code next = says (reply.Refused code)

-- the refusal that some tests gave, if any
abbrev pub tested : Option Code → Outcome → Outcome
tested None next = next
tested (Some code) next = says (reply.Refused code)

-- a test among those of which the first that fails is wanted
abbrev pub refuse_unless : Bool → Code → Option Code → Option Code
refuse_unless true code next = next
refuse_unless false code next = Some code

-- What a sound book never lacks: each text reads as a program, and each history stands under its program.
abbrev pub if_sound : {A : Type 0} → Option A → (A → Outcome) → Outcome
if_sound None next = says (reply.Refused NotOpen)
if_sound (Some x) next = next x

abbrev pub program_if : Result Program TextFault → Option Program
program_if (Ok p) = Some p
program_if (Err fault) = None

-- the program of a text of the book
abbrev pub program_at : (Bytes → Result Program TextFault) → Book → ℕ → Option Program
program_at program_of b n = elim (nth b.texts n) [ None ↦ None | Some body ↦ program_if (program_of body) ]

-- Turns.

-- the first turn of a run
abbrev pub first_turn : Program → ℕ → List Value → Option Turn
first_turn p at vs =
    elim (turned p Fresh first_configuration at (Started vs)) [
      | None ↦ None
      | Some t ↦ Some (record { at = at; input = Started vs; commands = t.0 })
    ]

-- the arguments with which a turn continues the run as a new one
abbrev pub continued : List Cmd → Option (List Value)
continued [] = None
continued (ContinueAsNew vs ∷ cs) = Some vs
continued (c ∷ cs) = continued cs

abbrev pub run_from : Run → Option Turn → List Change
run_from r None = []
run_from r (Some t) = AddRun r.flow None r.text t ∷ []

-- The run that a turn continues as: of the same flow and text, begun at the same moment, by no request.
abbrev pub next_run : Program → Run → ℕ → Option (List Value) → List Change
next_run p r at None = []
next_run p r at (Some vs) = run_from r (first_turn p at vs)

-- the text of the event that closes a full history
abbrev pub history_limit : Bytes
history_limit = codes "history limit"

-- A turn is recorded. One that would bring the history past the limit is not: the run is terminated in its place.
abbrev pub turn_made : ℕ → Program → Run → ℕ → ℕ → Input → List Cmd → Outcome
turn_made limit p r run at i cs =
    if nat_le (length r.history + 1 + length cs) limit
    then record {
      reply = reply.Recorded run (length r.history + 1);
      changes = AddTurn run (record { at = at; input = i; commands = cs }) ∷ next_run p r at (continued cs);
    }
    else record {
      reply = reply.Full run (length r.history + 1);
      changes = AddTurn run (record { at = at; input = Terminated history_limit; commands = [] }) ∷ [];
    }

-- A run takes an input: its fresh turn, at the greater of this moment and that of its last event.
unfoldable pub recorded : ℕ → Program → Run → ℕ → ℕ → Input → Outcome
recorded limit p r run at i =
    if_sound (position_by_inputs p r.history) (λ k.
    if_sound (turned p Fresh k (max at (moment_of r.history)) i) (λ t.
    turn_made limit p r run (max at (moment_of r.history)) i t.0))

-- the same, of the run's text
unfoldable pub input_recorded : Rules → Book → Run → ℕ → ℕ → Input → Outcome
input_recorded u b r run at i = if_sound (program_at u.program_of b r.text) (λ p. recorded u.limit p r run at i)

-- Reports of activities.

-- the open activity of an event
abbrev pub task_at : List OpenActivity → ℕ → Option OpenActivity
task_at [] n = None
task_at (t ∷ ts) n = if nat_eq t.event n then Some t else task_at ts n

abbrev pub on_task : Option OpenActivity → (OpenActivity → Option Code) → Option Code
on_task None next = Some NotOpen
on_task (Some t) next = next t

-- whether an event schedules an activity that gives such a value
abbrev pub gives_kind : Option Event → Value → Bool
gives_kind None v = false
gives_kind (Some e) v =
    elim e.what [ Came i ↦ false | Asked c ↦ elim c [ Schedule a vs tries every k ↦ has_kind k v | _ ↦ false ] ]

-- The first refusal of what an activity gave: that it isn't open, that the attempt is an old one, that the type is wrong.
unfoldable pub report_refusal : Run → ℕ → ℕ → Value → Option Code
report_refusal r event attempt v =
    on_task (task_at r.tasks event) (λ t.
    refuse_unless (nat_eq t.attempt attempt) OldAttempt (
    refuse_unless (gives_kind (nth r.history event) v) WrongType None))

-- How often the activity of an event is tried, and the pause between two attempts.
abbrev pub tries_of : Option Event → Option (ℕ × ℕ)
tries_of None = None
tries_of (Some e) = elim e.what [ Came i ↦ None | Asked c ↦ elim c [ Schedule a vs tries every k ↦ Some (tries, every) | _ ↦ None ] ]

-- The first refusal of a failed attempt.
unfoldable pub failure_refusal : Run → ℕ → ℕ → Option Code
failure_refusal r event attempt =
    on_task (task_at r.tasks event) (λ t.
    refuse_unless (nat_eq t.attempt attempt) OldAttempt None)

-- The commands.

abbrev pub on_program : Result Program TextFault → (Program → Outcome) → Outcome
on_program (Ok p) next = next p
on_program (Err fault) next = says (reply.BadText fault)

-- A text is registered under the next number. The same bytes again answer the first number.
unfoldable pub register : (Bytes → Result Program TextFault) → Book → Bytes → Outcome
register program_of b body =
    on_program (program_of body) (λ p.
    none_there (text_number b body) reply.Registered (
    record { reply = reply.Registered (length b.texts + 1); changes = AddText body ∷ [] }))

-- A run of a flow is started, with its first turn. The same request again answers the run that it started.
unfoldable pub start : (Bytes → Result Program TextFault) → Book → Bytes → Bytes → ℕ → List Value → ℕ → Outcome
start program_of b request flow text vs at =
    none_there (requested b request) reply.Duplicate (
    must_be (nth b.texts text) NoText (λ body.
    if_sound (program_if (program_of body)) (λ p.
    must_hold (all_fit p.parameters vs) BadArguments (
    none_there (open_run b flow) (λ n. reply.Refused AlreadyOpen) (
    if_sound (first_turn p at vs) (λ t.
    record { reply = reply.Started (length b.runs + 1); changes = AddRun flow (Some request) text t ∷ [] }))))))

-- An attempt of an activity gave a value.
unfoldable pub complete : Rules → Book → ℕ → ℕ → ℕ → Value → ℕ → Outcome
complete u b run event attempt v at =
    must_be (nth b.runs run) NoRun (λ r.
    tested (report_refusal r event attempt v) (
    input_recorded u b r run at (ActivityCompleted event v)))

-- the moment of a pause's end: no moment is past the last one
abbrev pub ready_after : ℕ → ℕ → ℕ
ready_after at pause = min last_moment (at + pause)

-- the next attempt, ready after a pause; no event is recorded
abbrev pub retried : ℕ → ℕ → ℕ → ℕ → Outcome
retried run event attempt ready =
    record { reply = reply.Retry run (attempt + 1) ready; changes = SetAttempt run event (attempt + 1) ready ∷ [] }

-- an attempt failed, of an activity with so many attempts and such a pause
abbrev pub attempt_failed : Rules → Book → Run → ℕ → ℕ → ℕ → Bytes → ℕ → ℕ × ℕ → Outcome
attempt_failed u b r run event attempt reason at tries =
    if nat_lt attempt tries.0
    then retried run event attempt (ready_after (max at (moment_of r.history)) tries.1)
    else input_recorded u b r run at (ActivityFailed event reason)

-- An attempt of an activity failed. The last one alone is recorded.
unfoldable pub fail : Rules → Book → ℕ → ℕ → ℕ → Bytes → ℕ → Outcome
fail u b run event attempt reason at =
    must_be (nth b.runs run) NoRun (λ r.
    tested (failure_refusal r event attempt) (
    if_sound (tries_of (nth r.history event)) (attempt_failed u b r run event attempt reason at)))

-- a signal that the run's program may declare
abbrev pub signal_recorded : ℕ → Run → ℕ → Bytes → Bytes → Value → ℕ → Program → Outcome
signal_recorded limit r run request name v at p =
    must_be (signal_of p.declarations name) NoSuchSignal (λ k.
    must_hold (has_kind k v) WrongType (
    recorded limit p r run at (Signaled name request v)))

-- A signal is sent to the open run of a flow. The same request again answers the run that took it, whether it is open still or not.
unfoldable pub signal : Rules → Book → Bytes → Bytes → Bytes → Value → ℕ → Outcome
signal u b request flow name v at =
    none_there (signalled b flow request) (λ x. reply.DuplicateSignal x.0 x.1) (
    must_be (open_run b flow) NoOpenRun (λ run.
    if_sound (nth b.runs run) (λ r.
    if_sound (program_at u.program_of b r.text) (signal_recorded u.limit r run request name v at))))

-- Timers.

-- a timer that is due fires
unfoldable pub fired : Rules → Book → ℕ → Due → Outcome
fired u b at d = if_sound (nth b.runs d.run) (λ r. input_recorded u b r d.run at (TimerFired d.id))

-- What several firings change, how many there were, and the book that they leave.
pub record Firings : Type 0 where
  pub changes : List Change
  pub count : ℕ
  pub book : Book

abbrev pub no_firing : Book → Firings
no_firing b = record { changes = []; count = 0; book = b }

abbrev pub on_due : Option Due → Book → (Due → Firings) → Firings
on_due None b next = no_firing b
on_due (Some d) b next = next d

abbrev pub before_firings : List Change → Firings → Firings
before_firings cs f = record { changes = cs ++ f.changes; count = f.count + 1; book = f.book }

-- Up to so many timers fire, each time the one that is due first, over the book that those before it left.
unfoldable pub firings : Rules → ℕ → ℕ → Book → Firings
firings u at zero b = no_firing b
firings u at (suc n) b =
    on_due (least_due b at) b (λ d. before_firings (fired u b at d).changes (firings u at n (changed_by b (fired u b at d).changes)))

-- the most timers that one command fires
abbrev pub firing_limit : ℕ
firing_limit = 32

abbrev pub all_fired : ℕ → Firings → Outcome
all_fired at f = record { reply = reply.Fired f.count (is_some (least_due f.book at)); changes = f.changes }

-- Timers that are due by a moment fire.
unfoldable pub tick : Rules → Book → ℕ → Outcome
tick u b at = all_fired at (firings u at firing_limit b)

-- a run is closed for this reason, and its program isn't run
abbrev pub terminated : Run → ℕ → Bytes → ℕ → Outcome
terminated r run reason at =
    record {
      reply = reply.Recorded run (length r.history + 1);
      changes = AddTurn run (record { at = max at (moment_of r.history); input = Terminated reason; commands = [] }) ∷ [];
    }

-- An open run is terminated. Its last event has this reason however long the history is: a full one takes it too.
unfoldable pub terminate : Book → ℕ → Bytes → ℕ → Outcome
terminate b run reason at =
    must_be (nth b.runs run) NoRun (λ r.
    must_hold (is_open (state_of r.history)) NotOpen (terminated r run reason at))

-- the run goes on under a text under which its history stands
abbrev pub if_stands : ℕ → ℕ → Result Configuration (ℕ × Wrong) → Outcome
if_stands run text (Ok k) = record { reply = reply.Upgraded run text; changes = SetText run text ∷ [] }
if_stands run text (Err m) = says (reply.Mismatch m.0 m.1)

-- An open run goes on under another text, where its history stands under that.
unfoldable pub upgrade : (Bytes → Result Program TextFault) → Book → ℕ → ℕ → Outcome
upgrade program_of b run text =
    must_be (nth b.runs run) NoRun (λ r.
    must_hold (is_open (state_of r.history)) NotOpen (
    must_be (nth b.texts text) NoText (λ body.
    if_sound (program_if (program_of body)) (λ p.
    if_stands run text (verdict p r.history)))))

-- A run, told.
unfoldable pub describe : Book → ℕ → Outcome
describe b run =
    must_be (nth b.runs run) NoRun (λ r. says (reply.Run (record {
      flow = r.flow;
      text = r.text;
      state = state_of r.history;
      events = length r.history;
      activities = map (λ (t : OpenActivity). t.event) r.tasks;
      timers = map (λ (t : Timer). t.id) (timers_left r.history);
    })))

unfoldable pub history : Book → ℕ → Outcome
history b run = must_be (nth b.runs run) NoRun (λ r. says (reply.History r.history))

-- Open runs, listed.

-- an open activity with its name; in a sound book its event always schedules one
abbrev pub named_by : OpenActivity → Option Event → Option OpenTask
named_by t None = None
named_by t (Some e) =
    elim e.what [
      | Came i ↦ None
      | Asked c ↦ elim c [ Schedule a vs tries every k ↦ Some (record { event = t.event; activity = a; attempt = t.attempt; ready = t.ready }) | _ ↦ None ]
    ]

abbrev pub with_named : Option OpenTask → List OpenTask → List OpenTask
with_named None ts = ts
with_named (Some t) ts = t ∷ ts

abbrev pub named_tasks : List Event → List OpenActivity → List OpenTask
named_tasks h [] = []
named_tasks h (t ∷ ts) = with_named (named_by t (nth h t.event)) (named_tasks h ts)

abbrev pub signals_at : Option Configuration → List Bytes
signals_at None = []
signals_at (Some k) = signals_awaited k.rest

-- The signals that a run of this program waits for where its history leads it; one that was sent and lies there isn't waited for.
abbrev pub awaited : Option Program → Run → List Bytes
awaited None r = []
awaited (Some p) r = signals_at (position_by_inputs p r.history)

-- An open run, told: what it waits for, and since when.
abbrev pub open_run_told : (Bytes → Result Program TextFault) → Book → ℕ × Run → OpenRun
open_run_told program_of b p =
    record {
      run = p.0;
      flow = p.1.flow;
      text = p.1.text;
      events = length p.1.history;
      at = moment_of p.1.history;
      activities = named_tasks p.1.history p.1.tasks;
      timers = timers_left p.1.history;
      waits = awaited (program_at program_of b p.1.text) p.1;
    }

-- the number of the first of them
abbrev pub first_number : List (ℕ × Run) → Option ℕ
first_number [] = None
first_number (p ∷ ps) = Some p.0

-- The open runs from a number on, rising and at most so many, and the number of the next one where there are more.
unfoldable pub list_open : (Bytes → Result Program TextFault) → Book → ℕ → ℕ → Outcome
list_open program_of b from most =
    says (reply.Open (map (open_run_told program_of b) (take most (open_runs b from))) (first_number (drop most (open_runs b from))))

-- The outcome of a command.
unfoldable pub outcome : Rules → Book → Command → Outcome
outcome u b (command.Register body) = register u.program_of b body
outcome u b (command.Start s) = start u.program_of b s.request s.flow s.text s.arguments s.at
outcome u b (command.Signal request flow name v at) = signal u b request flow name v at
outcome u b (command.Complete c) = complete u b c.run c.event c.attempt c.value c.at
outcome u b (command.Fail f) = fail u b f.run f.event f.attempt f.reason f.at
outcome u b (command.Tick at) = tick u b at
outcome u b (command.Terminate run reason at) = terminate b run reason at
outcome u b (command.Upgrade run text) = upgrade u.program_of b run text
outcome u b (command.Describe run) = describe b run
outcome u b (command.History run) = history b run
outcome u b (command.Open from most) = list_open u.program_of b from most

-- After and replies: commands, one after the other.

-- the book after one command
abbrev pub after_one : Rules → Book → Command → Book
after_one u b c = changed_by b (outcome u b c).changes

-- The book after a list of commands.
abbrev pub after : Rules → Book → List Command → Book
after u b [] = b
after u b (c ∷ cs) = after u (after_one u b c) cs

-- What they are answered, in their order.
abbrev pub replies : Rules → Book → List Command → List Reply
replies u b [] = []
replies u b (c ∷ cs) = (outcome u b c).reply ∷ replies u (after_one u b c) cs
