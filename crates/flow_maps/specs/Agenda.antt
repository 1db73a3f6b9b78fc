-- What the runs of a book wait for: their open timers and activities, and how many runs are open.
use Rattle.std.specs.Prelude.{ℕ, ◌+◌, Bool, List, length, filter}
use Rattle.flow_base.specs.declared.event.Event.{Event}
use Rattle.flow_base.specs.declared.book.Run.{Run}
use Rattle.flow_base.specs.declared.book.OpenActivity.{OpenActivity}
use Rattle.flow_base.specs.declared.book.Timer.{Timer}
use Rattle.flow_base.specs.declared.book.Turn.{Turn}
use Rattle.flow_model.specs.Book.{Book, nth}
use Rattle.flow_model.specs.Configuration.{is_open}
use Rattle.flow_model.specs.Open.{timers_after, tasks_after, state_of}
use Rattle.flow_model.specs.Turned.{turn_events}
use Rattle.flow_maps.specs.Timers.{of_run}

-- the events of a turn behind so many
abbrev pub events_behind : ℕ → Turn → List Event
events_behind count t = turn_events (count + 1) t.at t.input t.commands

abbrev pub timers_behind : ℕ → Turn → List Timer → List Timer
timers_behind count t ts = timers_after ts (events_behind count t)

abbrev pub tasks_behind : ℕ → Turn → List OpenActivity → List OpenActivity
tasks_behind count t ts = tasks_after ts (events_behind count t)

abbrev pub is_open_run : Run → Bool
is_open_run r = is_open (state_of r.history)

-- how many runs of a book are open
abbrev pub open_runs : Book → ℕ
open_runs b = length (filter is_open_run b.runs)

abbrev pub tasks_of : Run → List OpenActivity
tasks_of r = r.tasks

-- the open activities of the run of a number
abbrev pub tasks_at : Book → ℕ → List OpenActivity
tasks_at b n = of_run tasks_of (nth b.runs n)
