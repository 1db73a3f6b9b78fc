-- Signals, failures, ticks and upgrades on worked rows, by computation.
use Rattle.std.proofs.Common.{◌≡◌, ℕ, List, [], ◌∷◌, ◌++◌, ◌+◌, refl}
use Rattle.std.specs.Prelude.{false, codes, pos, Result, Ok, Err, Some, None, bytes_eq, if◌then◌else◌}
use Rattle.flow_base.specs.Syntax.{Bytes, Expression, Number, Literal, Variable, Now, Combine, Statement, Let, Assign, Call, WaitSignal, WaitSignalFor, Sleep, While, Patch, Return, Continue, block_of, once, NoElse, Declared, Activity, Signal, Program}
use Rattle.flow_base.specs.declared.syntax.Binary.TheVariants.{Add, Equal}
use Rattle.flow_base.specs.declared.syntax.Parameter.{Parameter}
use Rattle.flow_base.specs.declared.value.Value.{Value}
use Rattle.flow_base.specs.declared.value.Value.TheVariants.{Int, Text}
use Rattle.flow_base.specs.declared.value.Kind.TheVariants as kind
use Rattle.flow_base.specs.declared.event.Cause.TheVariants as cause
use Rattle.flow_base.specs.declared.event.Cmd.{Cmd}
use Rattle.flow_base.specs.declared.event.Cmd.TheVariants as cmd
use Rattle.flow_base.specs.declared.event.Event.{Event}
use Rattle.flow_base.specs.declared.event.Input.{Input}
use Rattle.flow_base.specs.declared.event.Input.TheVariants as input
use Rattle.flow_base.specs.declared.event.State.TheVariants as state
use Rattle.flow_base.specs.declared.event.What.TheVariants.{Came, Asked}
use Rattle.flow_base.specs.declared.event.Wrong.TheVariants.{OtherContent}
use Rattle.flow_base.specs.declared.code.Code.TheVariants.{Unexpected, NoText, NoOpenRun, NotOpen, OldAttempt, WrongType, NoSuchSignal, NoRun}
use Rattle.flow_base.specs.declared.command.Command.{Command}
use Rattle.flow_base.specs.declared.command.Command.TheVariants as command
use Rattle.flow_base.specs.declared.command.TextFault.{TextFault}
use Rattle.flow_base.specs.declared.command.OpenRun.{OpenRun}
use Rattle.flow_base.specs.declared.command.Reply.TheVariants as reply
use Rattle.flow_model.specs.Turned.{turned, position_from}
use Rattle.flow_model.specs.Verdict.{verdict_from}
use Rattle.flow_model.specs.Book.{no_book}
use Rattle.flow_model.specs.Apply.{Rules, rules_of, outcome, register, start, signal, complete, fail, tick, firings, fired, terminate, upgrade, describe, history, list_open, report_refusal, failure_refusal, input_recorded, recorded, after, replies}
use Rattle.flow_model.proofs.Commands.{start_of, complete_of, fail_of}

---- Programs

abbrev program : List Parameter → List Declared → List Statement → Program
program ps ds ss =
    record { at = 0; name = codes "w"; parameters = ps; parameters_end = 0; declarations = ds; body = block_of ss; body_end = 0 }

abbrev number : ℕ → Expression
number n = Number 0 (pos n)

abbrev text : Bytes → Expression
text t = Literal 0 t

abbrev var : Bytes → Expression
var x = Variable 0 x

abbrev whole : Bytes → List Parameter
whole x = record { at = 0; name = x; kind = kind.Int } ∷ []

abbrev takes_text : List Declared
takes_text = Activity 0 0 (codes "p") (record { at = 0; kind = kind.Text } ∷ []) kind.Int ∷ []

-- signal s: text; let v = ""; v = wait signal s for 100 else { v = "late"; }; return v;
abbrev B : Program
B = program [] (Signal 0 0 (codes "s") kind.Text ∷ []) (
    Let 0 0 (codes "v") (text [])
    ∷ WaitSignalFor 0 (codes "v") 0 (codes "s") (number 100) (block_of (Assign 0 (codes "v") (text (codes "late")) ∷ [])) 0
    ∷ Return 0 (var (codes "v")) ∷ [])

-- sleep d; return now;
abbrev T : Program
T = program (whole (codes "d")) [] (Sleep 0 (var (codes "d")) ∷ Return 0 (Now 0) ∷ [])

-- sleep 10; continue as new(n + 1);
abbrev M : Program
M = program (whole (codes "n")) [] (Sleep 0 (number 10) ∷ Continue 0 (Combine Add (var (codes "n")) (number 1) ∷ []) ∷ [])

abbrev paid : Bytes → Statement
paid t = Call 0 (codes "r") 0 (codes "p") (text t ∷ []) once NoElse

-- let r = 0; r = call p("eur"); return r;
abbrev euros : Program
euros = program [] takes_text (Let 0 0 (codes "r") (number 0) ∷ paid (codes "eur") ∷ Return 0 (var (codes "r")) ∷ [])

abbrev dollars : Program
dollars = program [] takes_text (Let 0 0 (codes "r") (number 0) ∷ paid (codes "usd") ∷ Return 0 (var (codes "r")) ∷ [])

-- let r = 0; patch "v2" { r = call p("usd"); } else { r = call p("eur"); } return r;
abbrev patched : Program
patched = program [] takes_text (
    Let 0 0 (codes "r") (number 0)
    ∷ Patch 0 0 (codes "v2") (block_of (paid (codes "usd") ∷ [])) 0 (block_of (paid (codes "eur") ∷ [])) 0
    ∷ Return 0 (var (codes "r")) ∷ [])

-- signal s: int; let v = 0; while 1 == 1 { v = wait signal s; }
abbrev W : Program
W = program [] (Signal 0 0 (codes "s") kind.Int ∷ []) (
    Let 0 0 (codes "v") (number 0)
    ∷ While 0 (Combine Equal (number 1) (number 1)) (block_of (WaitSignal 0 (codes "v") 0 (codes "s") ∷ [])) 0 ∷ [])

-- let r = 0; r = call p("eur") retry 3 every 500; return r;
abbrev R : Program
R = program [] takes_text (
    Let 0 0 (codes "r") (number 0)
    ∷ Call 0 (codes "r") 0 (codes "p") (text (codes "eur") ∷ []) (record { tries_at = 0; tries = 3; every_at = 0; every = 500 }) NoElse
    ∷ Return 0 (var (codes "r")) ∷ [])

-- signal s: int; let v = 0; sleep 50; v = wait signal s;
abbrev S : Program
S = program [] (Signal 0 0 (codes "s") kind.Int ∷ []) (
    Let 0 0 (codes "v") (number 0) ∷ Sleep 0 (number 50) ∷ WaitSignal 0 (codes "v") 0 (codes "s") ∷ [])

abbrev library : Bytes → Result Program TextFault
library t =
    if bytes_eq t (codes "b") then Ok B else (
    if bytes_eq t (codes "t") then Ok T else (
    if bytes_eq t (codes "m") then Ok M else (
    if bytes_eq t (codes "euros") then Ok euros else (
    if bytes_eq t (codes "dollars") then Ok dollars else (
    if bytes_eq t (codes "patched") then Ok patched else (
    if bytes_eq t (codes "w") then Ok W else (
    if bytes_eq t (codes "s") then Ok S else (
    if bytes_eq t (codes "r") then Ok R else Err (record { code = Unexpected; at = 0 })))))))))

abbrev rules : Rules
rules = rules_of library

-- with room for three events
abbrev tight : Rules
tight = record { limit = 3; program_of = library }

abbrev int : ℕ → Value
int n = Int (pos n)

abbrev came : ℕ → ℕ → Input → Event
came n at i = record { id = n; at = at; what = Came i }

abbrev asked : ℕ → ℕ → Cmd → Event
asked n at c = record { id = n; at = at; what = Asked c }

---- Signals

abbrev waiting : List Command
waiting = command.Register (codes "b") ∷ start_of (codes "q1") (codes "f") 1 [] 1000 ∷ []

abbrev sends : Value → ℕ → Command
sends v at = command.Signal (codes "q2") (codes "f") (codes "s") v at

-- A signal in time cancels the timer.
in_time : replies rules no_book (waiting ++ sends (Text (codes "x")) 1100 ∷ command.Tick 1100 ∷ command.History 1 ∷ [])
    ≡ reply.Registered 1 ∷ reply.Started 1 ∷ reply.Recorded 1 3 ∷ reply.Fired 0 false ∷ reply.History (
    came 1 1000 (input.Started []) ∷ asked 2 1000 (cmd.StartTimer 1100) ∷ came 3 1100 (input.Signaled (codes "s") (codes "q2") (Text (codes "x")))
    ∷ asked 4 1100 (cmd.CancelTimer 2) ∷ asked 5 1100 (cmd.Complete (Text (codes "x"))) ∷ []) ∷ []
unfolding outcome register start signal tick firings fired history input_recorded recorded turned position_from
in_time = refl

-- Without one the timer fires.
too_late : replies rules no_book (waiting ++ command.Tick 1099 ∷ command.Tick 1100 ∷ command.History 1 ∷ [])
    ≡ reply.Registered 1 ∷ reply.Started 1 ∷ reply.Fired 0 false ∷ reply.Fired 1 false ∷ reply.History (
    came 1 1000 (input.Started []) ∷ asked 2 1000 (cmd.StartTimer 1100) ∷ came 3 1100 (input.TimerFired 2)
    ∷ asked 4 1100 (cmd.Complete (Text (codes "late"))) ∷ []) ∷ []
unfolding outcome register start tick firings fired history input_recorded recorded turned position_from
too_late = refl

-- The refusals of a signal in their order; a request that is known is answered first, also where the run is closed.
signals : replies rules (after rules no_book waiting) (
    command.Signal (codes "q2") (codes "g") (codes "s") (Text []) 1050 ∷ command.Signal (codes "q2") (codes "f") (codes "z") (int 1) 1050 ∷ sends (int 1) 1050
    ∷ sends (Text (codes "x")) 1050 ∷ sends (Text (codes "y")) 1060 ∷ command.Signal (codes "q3") (codes "f") (codes "s") (Text []) 1060
    ∷ command.Signal (codes "q2") (codes "g") (codes "s") (Text []) 1060 ∷ start_of (codes "q1") (codes "g") 1 [] 1060 ∷ [])
    ≡ reply.Refused NoOpenRun ∷ reply.Refused NoSuchSignal ∷ reply.Refused WrongType
    ∷ reply.Recorded 1 3 ∷ reply.DuplicateSignal 1 3 ∷ reply.Refused NoOpenRun
    ∷ reply.Refused NoOpenRun ∷ reply.Duplicate 1 ∷ []
unfolding outcome register start signal input_recorded recorded turned position_from
signals = refl

-- A signal that has no room closes the run, and isn't recorded.
no_room : replies tight no_book (
    command.Register (codes "w") ∷ start_of (codes "q") (codes "f") 1 [] 0
    ∷ command.Signal (codes "a") (codes "f") (codes "s") (int 1) 1 ∷ command.Signal (codes "b") (codes "f") (codes "s") (int 2) 2
    ∷ command.Signal (codes "c") (codes "f") (codes "s") (int 3) 3 ∷ command.Signal (codes "c") (codes "f") (codes "s") (int 3) 3 ∷ command.History 1 ∷ [])
    ≡ reply.Registered 1 ∷ reply.Started 1 ∷ reply.Recorded 1 2 ∷ reply.Recorded 1 3 ∷ reply.Full 1 4 ∷ reply.Refused NoOpenRun ∷ reply.History (
    came 1 0 (input.Started []) ∷ came 2 1 (input.Signaled (codes "s") (codes "a") (int 1)) ∷ came 3 2 (input.Signaled (codes "s") (codes "b") (int 2))
    ∷ came 4 3 (input.Terminated (codes "history limit")) ∷ []) ∷ []
unfolding outcome register start signal history input_recorded recorded turned position_from
no_room = refl

---- Ticks

abbrev sleeps : Bytes → Bytes → ℕ → ℕ → Command
sleeps q f d at = start_of q f 1 (int d ∷ []) at

-- Timers that are due at one moment fire by their runs.
by_run : replies rules no_book (
    command.Register (codes "t") ∷ sleeps (codes "a") (codes "a") 90 10 ∷ sleeps (codes "b") (codes "b") 100 0 ∷ command.Tick 100 ∷ command.History 1 ∷ command.History 2 ∷ [])
    ≡ reply.Registered 1 ∷ reply.Started 1 ∷ reply.Started 2 ∷ reply.Fired 2 false
    ∷ reply.History (came 1 10 (input.Started (int 90 ∷ [])) ∷ asked 2 10 (cmd.StartTimer 100) ∷ came 3 100 (input.TimerFired 2) ∷ asked 4 100 (cmd.Complete (int 100)) ∷ [])
    ∷ reply.History (came 1 0 (input.Started (int 100 ∷ [])) ∷ asked 2 0 (cmd.StartTimer 100) ∷ came 3 100 (input.TimerFired 2) ∷ asked 4 100 (cmd.Complete (int 100)) ∷ []) ∷ []
unfolding outcome register start tick firings fired history input_recorded recorded turned position_from
by_run = refl

-- A terminated run has no timer left.
none_left : replies rules no_book (
    command.Register (codes "t") ∷ sleeps (codes "a") (codes "a") 100 0 ∷ command.Terminate 1 (codes "x") 50 ∷ command.Tick 100 ∷ [])
    ≡ reply.Registered 1 ∷ reply.Started 1 ∷ reply.Recorded 1 3 ∷ reply.Fired 0 false ∷ []
unfolding outcome register start terminate tick firings fired input_recorded recorded turned position_from
none_left = refl

-- A run that continues as new begins the next one at the same moment; its timer isn't due yet.
continues : replies rules no_book (
    command.Register (codes "m") ∷ start_of (codes "q") (codes "f") 1 (int 0 ∷ []) 0 ∷ command.Tick 10 ∷ command.History 1 ∷ command.History 2 ∷ [])
    ≡ reply.Registered 1 ∷ reply.Started 1 ∷ reply.Fired 1 false
    ∷ reply.History (came 1 0 (input.Started (int 0 ∷ [])) ∷ asked 2 0 (cmd.StartTimer 10) ∷ came 3 10 (input.TimerFired 2) ∷ asked 4 10 (cmd.ContinueAsNew (int 1 ∷ [])) ∷ [])
    ∷ reply.History (came 1 10 (input.Started (int 1 ∷ [])) ∷ asked 2 10 (cmd.StartTimer 20) ∷ []) ∷ []
unfolding outcome register start tick firings fired history input_recorded recorded turned position_from
continues = refl

---- Upgrades

abbrev begun : List Command
begun = command.Register (codes "euros") ∷ command.Register (codes "patched") ∷ command.Register (codes "dollars") ∷ start_of (codes "q") (codes "f") 1 [] 0 ∷ []

-- A text that wraps the old one takes over; a new run of it records the marker.
upgrades : replies rules no_book (
    begun ++ command.Upgrade 1 2 ∷ complete_of 1 2 1 (int 5) 7 ∷ start_of (codes "r") (codes "f") 2 [] 0 ∷ command.History 1 ∷ command.History 2 ∷ [])
    ≡ reply.Registered 1 ∷ reply.Registered 2 ∷ reply.Registered 3 ∷ reply.Started 1 ∷ reply.Upgraded 1 2 ∷ reply.Recorded 1 3 ∷ reply.Started 2
    ∷ reply.History (came 1 0 (input.Started []) ∷ asked 2 0 (cmd.Schedule (codes "p") (Text (codes "eur") ∷ []) 1 0 kind.Int)
    ∷ came 3 7 (input.ActivityCompleted 2 (int 5)) ∷ asked 4 7 (cmd.Complete (int 5)) ∷ [])
    ∷ reply.History (came 1 0 (input.Started []) ∷ asked 2 0 (cmd.RecordMarker (codes "v2")) ∷ asked 3 0 (cmd.Schedule (codes "p") (Text (codes "usd") ∷ []) 1 0 kind.Int) ∷ []) ∷ []
unfolding outcome register start complete upgrade history report_refusal input_recorded recorded turned position_from verdict_from
upgrades = refl

-- The refusals of an upgrade in their order; the run keeps its text.
stays : replies rules (after rules no_book begun) (
    command.Upgrade 2 9 ∷ command.Upgrade 1 9 ∷ command.Upgrade 1 3 ∷ command.Describe 1 ∷ command.Terminate 1 [] 1 ∷ command.Upgrade 1 9 ∷ [])
    ≡ reply.Refused NoRun ∷ reply.Refused NoText ∷ reply.Mismatch 2 OtherContent
    ∷ reply.Run (record { flow = codes "f"; text = 1; state = state.Open; events = 2; activities = 2 ∷ []; timers = [] })
    ∷ reply.Recorded 1 3 ∷ reply.Refused NotOpen ∷ []
unfolding outcome register start terminate upgrade describe turned verdict_from
stays = refl

---- Failed attempts

abbrev tried : List Command
tried = command.Register (codes "r") ∷ start_of (codes "q") (codes "f") 1 [] 1000 ∷ []

-- The last attempt alone is recorded.
fails : replies rules no_book (
    tried ++ fail_of 1 2 1 (codes "no") 2000 ∷ complete_of 1 2 1 (int 1) 2000 ∷ fail_of 1 2 2 (codes "no") 900 ∷ fail_of 1 2 3 (codes "no") 4000 ∷ command.History 1 ∷ [])
    ≡ reply.Registered 1 ∷ reply.Started 1 ∷ reply.Retry 1 2 2500 ∷ reply.Refused OldAttempt ∷ reply.Retry 1 3 1500 ∷ reply.Recorded 1 3 ∷ reply.History (
    came 1 1000 (input.Started []) ∷ asked 2 1000 (cmd.Schedule (codes "p") (Text (codes "eur") ∷ []) 3 500 kind.Int)
    ∷ came 3 4000 (input.ActivityFailed 2 (codes "no")) ∷ asked 4 4000 (cmd.Fail cause.ActivityFailed (codes "no")) ∷ []) ∷ []
unfolding outcome register start complete fail history report_refusal failure_refusal input_recorded recorded turned position_from
fails = refl

-- Its refusals in their order.
failures : replies rules (after rules no_book tried) (fail_of 2 2 9 [] 1 ∷ fail_of 1 3 9 [] 1 ∷ fail_of 1 2 9 [] 1 ∷ [])
    ≡ reply.Refused NoRun ∷ reply.Refused NotOpen ∷ reply.Refused OldAttempt ∷ []
unfolding outcome register start fail failure_refusal turned
failures = refl

-- A next attempt is ready at the last moment at the latest.
last_pause : replies rules (after rules no_book tried) (fail_of 1 2 1 [] 999999999999900 ∷ []) ≡ reply.Retry 1 2 1000000000000000 ∷ []
unfolding outcome register start fail failure_refusal turned
last_pause = refl

---- Open runs

-- An activity that failed once, a wait with a timer, a sleep that is over, and another wait.
abbrev several : List Command
several =
    command.Register (codes "r") ∷ command.Register (codes "b") ∷ command.Register (codes "t")
    ∷ start_of (codes "q1") (codes "f1") 1 [] 1000 ∷ start_of (codes "q2") (codes "f2") 2 [] 1200
    ∷ start_of (codes "q3") (codes "f3") 3 (int 50 ∷ []) 1200 ∷ fail_of 1 2 1 (codes "no") 2000
    ∷ command.Tick 1250 ∷ start_of (codes "q4") (codes "f4") 2 [] 1300 ∷ []

abbrev failing : OpenRun
failing =
    record {
      run = 1;
      flow = codes "f1";
      text = 1;
      events = 2;
      at = 1000;
      activities = record { event = 2; activity = codes "p"; attempt = 2; ready = 2500 } ∷ [];
      timers = [];
      waits = [];
    }

abbrev waits_until : ℕ → Bytes → ℕ → OpenRun
waits_until n f at =
    record {
      run = n;
      flow = f;
      text = 2;
      events = 2;
      at = at;
      activities = [];
      timers = record { id = 2; due = at + 100 } ∷ [];
      waits = codes "s" ∷ [];
    }

-- The closed run isn't among them, and the next one's number is told where there are more.
lists : replies rules (after rules no_book several) (command.Open 1 2 ∷ command.Open 2 1 ∷ command.Open 3 256 ∷ command.Open 1 3 ∷ command.Open 5 1 ∷ [])
    ≡ reply.Open (failing ∷ waits_until 2 (codes "f2") 1200 ∷ []) (Some 4)
    ∷ reply.Open (waits_until 2 (codes "f2") 1200 ∷ []) (Some 4)
    ∷ reply.Open (waits_until 4 (codes "f4") 1300 ∷ []) None
    ∷ reply.Open (failing ∷ waits_until 2 (codes "f2") 1200 ∷ waits_until 4 (codes "f4") 1300 ∷ []) None
    ∷ reply.Open [] None ∷ []
unfolding outcome register start fail tick firings fired list_open failure_refusal input_recorded recorded turned position_from
lists = refl

abbrev sleeping : ℕ → ℕ → List Bytes → OpenRun
sleeping events at waits =
    record { run = 1; flow = codes "f"; text = 1; events = events; at = at; activities = []; timers = record { id = 2; due = 50 } ∷ []; waits = waits }

-- A signal that lies there isn't waited for; behind the sleep it is.
lies_there : replies rules no_book (
    command.Register (codes "s") ∷ start_of (codes "q") (codes "f") 1 [] 0 ∷ command.Open 1 1
    ∷ command.Signal (codes "a") (codes "f") (codes "s") (int 1) 7 ∷ command.Open 1 1 ∷ start_of (codes "r") (codes "g") 1 [] 0
    ∷ command.Tick 50 ∷ command.Open 1 1 ∷ [])
    ≡ reply.Registered 1 ∷ reply.Started 1 ∷ reply.Open (sleeping 2 0 [] ∷ []) None ∷ reply.Recorded 1 3 ∷ reply.Open (sleeping 3 7 [] ∷ []) None
    ∷ reply.Started 2 ∷ reply.Fired 2 false
    ∷ reply.Open (record { run = 2; flow = codes "g"; text = 1; events = 3; at = 50; activities = []; timers = []; waits = codes "s" ∷ [] } ∷ []) None ∷ []
unfolding outcome register start signal tick firings fired list_open input_recorded recorded turned position_from
lies_there = refl
