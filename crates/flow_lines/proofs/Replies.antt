-- The bytes of replies.
use Rattle.std.proofs.Common.{◌≡◌, ℕ, List, [], ◌∷◌, map, true, false, refl, Some, None}
use Rattle.serde_json.specs.Written.{has_float, items_have_float, compact_text}
use Rattle.serde_json.specs.Data.{string}
use Rattle.serde_json.specs.View.{items_of}
use Rattle.serde_json.proofs.OnLiterals.{serde_json_on_literals}
use Rattle.flow_base.specs.declared.book.Timer.{Timer}
use Rattle.flow_base.specs.declared.command.OpenTask.{OpenTask}
use Rattle.flow_base.specs.declared.command.OpenRun.{OpenRun}
use Rattle.flow_base.specs.declared.command.Reply.{Reply}
use Rattle.flow_base.specs.declared.command.Reply.TheVariants as reply
use Rattle.flow_base.specs.declared.event.Event.{Event}
use Rattle.flow_events.specs.declared.spelling.Spelling.TheVariants.{Inside}
use Rattle.flow_events.proofs.Laws.{plain}
use Rattle.flow_lines.specs.Replies.{whole_out, event_out, open_task_out, timer_out, open_run_out, reply_out, line_out, reply_text, line_text}
use Rattle.flow_lines.specs.declared.reply.Line.{Line}
use Rattle.flow_lines.specs.declared.reply.Line.TheVariants as line

numbers_plain : (ns : List ℕ) → items_have_float (items_of (map whole_out ns)) ≡ false
numbers_plain [] = refl
numbers_plain (n ∷ ns) = numbers_plain ns

events_plain : (es : List Event) → items_have_float (items_of (map event_out es)) ≡ false
events_plain [] = refl
events_plain (e ∷ es) = rw (plain Inside e, events_plain es) refl

open_tasks_plain : (ts : List OpenTask) → items_have_float (items_of (map open_task_out ts)) ≡ false
open_tasks_plain [] = refl
open_tasks_plain (t ∷ ts) = open_tasks_plain ts

timers_plain : (ts : List Timer) → items_have_float (items_of (map timer_out ts)) ≡ false
timers_plain [] = refl
timers_plain (t ∷ ts) = timers_plain ts

texts_plain : (ts : List (List ℕ)) → items_have_float (items_of (map string ts)) ≡ false
texts_plain [] = refl
texts_plain (t ∷ ts) = texts_plain ts

pub open_run_plain : (r : OpenRun) → has_float (open_run_out r) ≡ false
open_run_plain r = rw (open_tasks_plain r.activities, timers_plain r.timers, texts_plain r.waits) refl

open_runs_plain : (rs : List OpenRun) → items_have_float (items_of (map open_run_out rs)) ≡ false
open_runs_plain [] = refl
open_runs_plain (r ∷ rs) = rw (open_tasks_plain r.activities, timers_plain r.timers, texts_plain r.waits, open_runs_plain rs) refl

reply_plain : (r : Reply) → has_float (reply_out r) ≡ false
reply_plain (reply.Registered text) = refl
reply_plain (reply.Started run) = refl
reply_plain (reply.Recorded run event) = refl
reply_plain (reply.Duplicate run) = refl
reply_plain (reply.DuplicateSignal run event) = refl
reply_plain (reply.Retry run attempt from) = refl
reply_plain (reply.Fired count more) = refl
reply_plain (reply.Upgraded run text) = refl
reply_plain (reply.Run d) = rw (numbers_plain d.activities, numbers_plain d.timers) refl
reply_plain (reply.History es) = rw (events_plain es) refl
reply_plain (reply.Open rs None) = rw (open_runs_plain rs) refl
reply_plain (reply.Open rs (Some next)) = rw (open_runs_plain rs) refl
reply_plain (reply.Refused c) = refl
reply_plain (reply.BadText f) = refl
reply_plain (reply.Mismatch event wrong) = refl
reply_plain (reply.Full run event) = refl

pub line_plain : (l : Line) → has_float (line_out l) ≡ false
line_plain (line.Of r) = reply_plain r
line_plain line.Bad = refl
line_plain (line.NotApplied c) = refl

reply_bytes : (r : Reply) → compact_text (reply_out r) ≡ reply_text r
unfolding serde_json_on_literals
reply_bytes (reply.Registered text) = refl
reply_bytes (reply.Started run) = refl
reply_bytes (reply.Recorded run event) = refl
reply_bytes (reply.Duplicate run) = refl
reply_bytes (reply.DuplicateSignal run event) = refl
reply_bytes (reply.Retry run attempt from) = refl
reply_bytes (reply.Fired count true) = refl
reply_bytes (reply.Fired count false) = refl
reply_bytes (reply.Upgraded run text) = refl
reply_bytes (reply.Run d) = refl
reply_bytes (reply.History es) = refl
reply_bytes (reply.Open rs None) = refl
reply_bytes (reply.Open rs (Some next)) = refl
reply_bytes (reply.Refused c) = refl
reply_bytes (reply.BadText f) = refl
reply_bytes (reply.Mismatch event wrong) = refl
reply_bytes (reply.Full run event) = refl

-- the reply that tells a history
pub history_plain : (es : List Event) → has_float (reply_out (reply.History es)) ≡ false
history_plain es = reply_plain (reply.History es)

pub history_bytes : (es : List Event) → compact_text (reply_out (reply.History es)) ≡ reply_text (reply.History es)
history_bytes es = reply_bytes (reply.History es)

pub line_bytes : (l : Line) → compact_text (line_out l) ≡ line_text l
unfolding serde_json_on_literals
line_bytes (line.Of r) = reply_bytes r
line_bytes line.Bad = refl
line_bytes (line.NotApplied c) = refl
