-- Lines of replies: what is written for one line that was read.
use Rattle.std.specs.Prelude.{ℕ, List, map, Some, None, ◌++◌, true, false, codes, decimal}
use Rattle.serde_json.specs.Data.{Data, object, array, boolean, number, unsigned, string, member, no_members, item, no_items}
use Rattle.json.specs.Print.{quoted}
use Rattle.serde_json.specs.View.{items_of}
use Rattle.serde_json.specs.Written.{compact_text}
use Rattle.flow_base.specs.Codes.{code_text, wrong_code}
use Rattle.flow_base.specs.declared.book.Timer.{Timer}
use Rattle.flow_base.specs.declared.code.Code.{Code}
use Rattle.flow_base.specs.declared.command.Description.{Description}
use Rattle.flow_base.specs.declared.command.OpenTask.{OpenTask}
use Rattle.flow_base.specs.declared.command.OpenRun.{OpenRun}
use Rattle.flow_base.specs.declared.command.Reply.{Reply}
use Rattle.flow_base.specs.declared.command.Reply.TheVariants as reply
use Rattle.flow_base.specs.declared.event.Event.{Event}
use Rattle.flow_base.specs.declared.event.State.{State}
use Rattle.flow_base.specs.declared.event.State.TheVariants as state
use Rattle.flow_events.specs.Body.{data_out}
use Rattle.flow_events.specs.Kinds.{event_kind_name, kind_of}
use Rattle.flow_events.specs.declared.spelling.Spelling.TheVariants.{Inside}
use Rattle.flow_lines.specs.declared.reply.Line.{Line}
use Rattle.flow_lines.specs.declared.reply.Line.TheVariants as line

-- a run that hasn't begun isn't closed
abbrev pub state_name : State → List ℕ
state_name state.Unbegun = codes "open"
state_name state.Open = codes "open"
state_name state.Completed = codes "completed"
state_name state.Failed = codes "failed"
state_name state.Continued = codes "continued"
state_name state.Terminated = codes "terminated"

-- ---- the JSON object of each line, its keys in byte order

abbrev pub whole_out : ℕ → Data
whole_out n = number (unsigned n)

abbrev pub numbers_out : List ℕ → Data
numbers_out ns = array (items_of (map whole_out ns))

-- an event of a history: its number, the name of its kind, and its body
abbrev pub event_out : Event → Data
event_out e = array (item (whole_out e.id) (item (string (event_kind_name (kind_of e.what))) (item (data_out Inside e) no_items)))

abbrev pub events_out : List Event → Data
events_out es = array (items_of (map event_out es))

abbrev pub refused_out : Code → Data
refused_out c = object (member (codes "code") (string (code_text c)) (member (codes "reply") (string (codes "refused")) no_members))

abbrev pub run_out : Description → Data
run_out d = object (
    member (codes "activities") (numbers_out d.activities) (
    member (codes "events") (whole_out d.events) (
    member (codes "flow") (string d.flow) (
    member (codes "reply") (string (codes "run")) (
    member (codes "state") (string (state_name d.state)) (
    member (codes "text") (whole_out d.text) (
    member (codes "timers") (numbers_out d.timers) no_members)))))))

-- an open activity: the event that scheduled it, its name, its attempt, and when that is ready
abbrev pub open_task_out : OpenTask → Data
open_task_out t = array (item (whole_out t.event) (item (string t.activity) (item (whole_out t.attempt) (item (whole_out t.ready) no_items))))

abbrev pub open_tasks_out : List OpenTask → Data
open_tasks_out ts = array (items_of (map open_task_out ts))

-- an open timer: the event that started it, and when it is due
abbrev pub timer_out : Timer → Data
timer_out t = array (item (whole_out t.id) (item (whole_out t.due) no_items))

abbrev pub timers_out : List Timer → Data
timers_out ts = array (items_of (map timer_out ts))

abbrev pub texts_out : List (List ℕ) → Data
texts_out ts = array (items_of (map string ts))

abbrev pub open_run_out : OpenRun → Data
open_run_out r = object (
    member (codes "activities") (open_tasks_out r.activities) (
    member (codes "at") (whole_out r.at) (
    member (codes "events") (whole_out r.events) (
    member (codes "flow") (string r.flow) (
    member (codes "run") (whole_out r.run) (
    member (codes "text") (whole_out r.text) (
    member (codes "timers") (timers_out r.timers) (
    member (codes "waits") (texts_out r.waits) no_members))))))))

abbrev pub open_runs_out : List OpenRun → Data
open_runs_out rs = array (items_of (map open_run_out rs))

abbrev pub reply_out : Reply → Data
reply_out (reply.Registered text) = object (member (codes "reply") (string (codes "registered")) (member (codes "text") (whole_out text) no_members))
reply_out (reply.Started run) = object (member (codes "reply") (string (codes "started")) (member (codes "run") (whole_out run) no_members))
reply_out (reply.Recorded run event) = object (
    member (codes "event") (whole_out event) (member (codes "reply") (string (codes "recorded")) (member (codes "run") (whole_out run) no_members)))
reply_out (reply.Duplicate run) = object (member (codes "reply") (string (codes "duplicate")) (member (codes "run") (whole_out run) no_members))
reply_out (reply.DuplicateSignal run event) = object (
    member (codes "event") (whole_out event) (member (codes "reply") (string (codes "duplicate")) (member (codes "run") (whole_out run) no_members)))
reply_out (reply.Retry run attempt from) = object (
    member (codes "attempt") (whole_out attempt) (member (codes "from") (whole_out from) (
    member (codes "reply") (string (codes "retry")) (member (codes "run") (whole_out run) no_members))))
reply_out (reply.Fired count more) = object (
    member (codes "count") (whole_out count) (member (codes "more") (boolean more) (member (codes "reply") (string (codes "fired")) no_members)))
reply_out (reply.Upgraded run text) = object (
    member (codes "reply") (string (codes "upgraded")) (member (codes "run") (whole_out run) (member (codes "text") (whole_out text) no_members)))
reply_out (reply.Run d) = run_out d
reply_out (reply.History es) = object (member (codes "events") (events_out es) (member (codes "reply") (string (codes "history")) no_members))
reply_out (reply.Open rs None) = object (member (codes "reply") (string (codes "open")) (member (codes "runs") (open_runs_out rs) no_members))
reply_out (reply.Open rs (Some next)) = object (
    member (codes "next") (whole_out next) (member (codes "reply") (string (codes "open")) (member (codes "runs") (open_runs_out rs) no_members)))
reply_out (reply.Refused c) = refused_out c
reply_out (reply.BadText f) = object (
    member (codes "at") (whole_out f.at) (member (codes "code") (string (code_text f.code)) (member (codes "reply") (string (codes "refused")) no_members)))
reply_out (reply.Mismatch event wrong) = object (
    member (codes "code") (string (codes "E68")) (member (codes "event") (whole_out event) (
    member (codes "name") (string (code_text (wrong_code wrong))) (member (codes "reply") (string (codes "refused")) no_members))))
reply_out (reply.Full run event) = object (
    member (codes "code") (string (codes "E69")) (member (codes "event") (whole_out event) (
    member (codes "reply") (string (codes "refused")) (member (codes "run") (whole_out run) no_members))))

abbrev pub line_out : Line → Data
line_out (line.Of r) = reply_out r
line_out line.Bad = object (member (codes "code") (string (codes "E02")) (member (codes "reply") (string (codes "refused")) no_members))
line_out (line.NotApplied c) = object (member (codes "code") (string (code_text c)) (member (codes "reply") (string (codes "not applied")) no_members))

-- ---- the same, byte for byte; `quoted` is a JSON string

abbrev pub reply_text : Reply → List ℕ
reply_text (reply.Registered text) = codes "{\"reply\":\"registered\",\"text\":" ++ (decimal text ++ codes "}")
reply_text (reply.Started run) = codes "{\"reply\":\"started\",\"run\":" ++ (decimal run ++ codes "}")
reply_text (reply.Recorded run event) = codes "{\"event\":" ++ (decimal event ++ (codes ",\"reply\":\"recorded\",\"run\":" ++ (decimal run ++ codes "}")))
reply_text (reply.Duplicate run) = codes "{\"reply\":\"duplicate\",\"run\":" ++ (decimal run ++ codes "}")
reply_text (reply.DuplicateSignal run event) = codes "{\"event\":" ++ (decimal event ++ (codes ",\"reply\":\"duplicate\",\"run\":" ++ (decimal run ++ codes "}")))
reply_text (reply.Retry run attempt from) =
    codes "{\"attempt\":" ++ (decimal attempt ++ (codes ",\"from\":" ++ (decimal from ++ (codes ",\"reply\":\"retry\",\"run\":" ++ (decimal run ++ codes "}")))))
reply_text (reply.Fired count true) = codes "{\"count\":" ++ (decimal count ++ codes ",\"more\":true,\"reply\":\"fired\"}")
reply_text (reply.Fired count false) = codes "{\"count\":" ++ (decimal count ++ codes ",\"more\":false,\"reply\":\"fired\"}")
reply_text (reply.Upgraded run text) = codes "{\"reply\":\"upgraded\",\"run\":" ++ (decimal run ++ (codes ",\"text\":" ++ (decimal text ++ codes "}")))
reply_text (reply.Run d) =
    codes "{\"activities\":" ++ (compact_text (numbers_out d.activities)
    ++ (codes ",\"events\":" ++ (decimal d.events
    ++ (codes ",\"flow\":" ++ (quoted d.flow
    ++ (codes ",\"reply\":\"run\",\"state\":" ++ (quoted (state_name d.state)
    ++ (codes ",\"text\":" ++ (decimal d.text
    ++ (codes ",\"timers\":" ++ (compact_text (numbers_out d.timers) ++ codes "}")))))))))))
reply_text (reply.History es) = codes "{\"events\":" ++ (compact_text (events_out es) ++ codes ",\"reply\":\"history\"}")
reply_text (reply.Open rs None) = codes "{\"reply\":\"open\",\"runs\":" ++ (compact_text (open_runs_out rs) ++ codes "}")
reply_text (reply.Open rs (Some next)) = codes "{\"next\":" ++ (decimal next ++ (codes ",\"reply\":\"open\",\"runs\":" ++ (compact_text (open_runs_out rs) ++ codes "}")))
reply_text (reply.Refused c) = codes "{\"code\":" ++ (quoted (code_text c) ++ codes ",\"reply\":\"refused\"}")
reply_text (reply.BadText f) = codes "{\"at\":" ++ (decimal f.at ++ (codes ",\"code\":" ++ (quoted (code_text f.code) ++ codes ",\"reply\":\"refused\"}")))
reply_text (reply.Mismatch event wrong) =
    codes "{\"code\":\"E68\",\"event\":" ++ (decimal event ++ (codes ",\"name\":" ++ (quoted (code_text (wrong_code wrong)) ++ codes ",\"reply\":\"refused\"}")))
reply_text (reply.Full run event) =
    codes "{\"code\":\"E69\",\"event\":" ++ (decimal event ++ (codes ",\"reply\":\"refused\",\"run\":" ++ (decimal run ++ codes "}")))

-- an open run, as the reply lists it
abbrev pub open_run_text : OpenRun → List ℕ
open_run_text r = compact_text (open_run_out r)

abbrev pub line_text : Line → List ℕ
line_text (line.Of r) = reply_text r
line_text line.Bad = codes "{\"code\":\"E02\",\"reply\":\"refused\"}"
line_text (line.NotApplied c) = codes "{\"code\":" ++ (quoted (code_text c) ++ codes ",\"reply\":\"not applied\"}")
