-- What is known of runs: of each open one its seat, and of all of them how many there are, their names and what they wait for.
use Rattle.std.specs.Prelude.{◌≡◌, ◌+◌, ℕ, true, false, List, [], length, Option, Some, None, slice_get}
use Rattle.std.specs.BTreeMap.{BTreeMap, get}
use Rattle.std.specs.Ordering.{nat_cmp}
use Rattle.flow_base.specs.declared.event.Event.{Event}
use Rattle.flow_base.specs.declared.book.Change.{Change}
use Rattle.flow_base.specs.declared.book.Change.TheVariants.{AddTurn, SetAttempt, SetText}
use Rattle.flow_base.specs.declared.book.OpenActivity.{OpenActivity}
use Rattle.flow_base.specs.declared.book.Run.{Run}
use Rattle.flow_base.specs.declared.book.Turn.{Turn}
use Rattle.flow_model.specs.Book.{Book, nth, with_attempt, with_text, with_turn}
use Rattle.flow_model.specs.Open.{open_timers}
use Rattle.flow_view.specs.Heads.{event_of, head_of}
use Rattle.flow_view.specs.declared.head.Head.{Head}
use Rattle.flow_maps.specs.Agenda.{is_open_run, tasks_behind, tasks_of}
use Rattle.flow_maps.specs.Calendars.{HasSlots, date_of_task, date_of_timer}
use Rattle.flow_maps.specs.Keys.{IsIndex, name_of, open_key, request_key}
use Rattle.flow_maps.specs.Signals.{AreOf}
use Rattle.flow_maps.specs.Timers.{of_run, timers_of}
use Rattle.flow_maps.specs.Turned.{is_open_behind}
use Rattle.flow_maps.specs.declared.facts.Facts.{Facts}
use Rattle.flow_maps.specs.declared.facts.KnownRuns.{KnownRuns}
use Rattle.flow_maps.specs.declared.open_seats.OpenSeats.{OpenSeats}
use Rattle.flow_maps.specs.declared.seat.Seat.{Seat}

---- One run

-- events that stand in a history, each under its own number
abbrev pub AreCalls : List Event → List Event → Type 0
AreCalls es h = (k : ℕ) → (e : Event) → slice_get es k ≡ Some e → event_of h e.id ≡ Some e

-- What is known of a run, be it open or not.
pub record IsSeat (s : Seat) (r : Run) : Type 0 where
  pub head : head_of r ≡ s.head
  pub timers : open_timers r.history ≡ s.timers
  pub calls : AreCalls s.calls.items r.history

-- An open run has its seat; one that is closed has none, and nothing is open of it.
abbrev pub IsSeated : Option Seat → Option Run → Type 0
IsSeated None None = Unit {0}
IsSeated None (Some r) = (is_open_run r ≡ false) × (r.tasks ≡ [])
IsSeated (Some s) None = ⊥
IsSeated (Some s) (Some r) = IsSeat s r × (is_open_run r ≡ true)

-- the head of a run behind a turn more
abbrev pub head_behind : Turn → Head → Head
head_behind t h =
    record h { events = h.events + 1 + length t.commands; moment = t.at; is_open = is_open_behind h.is_open t; tasks = tasks_behind h.events t h.tasks }

-- what a change of a run makes of it
abbrev pub made_of : Change → Run → Run
made_of (AddTurn run t) r = with_turn t r
made_of (SetAttempt run event attempt ready) r = with_attempt event attempt ready r
made_of (SetText run text) r = with_text text r
made_of c r = r

abbrev pub seat_tasks : Option Seat → List OpenActivity
seat_tasks None = []
seat_tasks (Some s) = s.head.tasks

---- All runs

-- The runs of these numbers, as far as they are open.
pub record KnowsOpen (m : OpenSeats) (rs : ℕ → Option Run) : Type 0 where
  pub by_run : (n : ℕ) → IsSeated (get nat_cmp m.by_run n) (rs n)
  pub flows : IsIndex m.flows (λ n. name_of open_key (rs n))
  pub due : HasSlots date_of_timer m.due (λ n. of_run timers_of (rs n))
  pub ready : HasSlots date_of_task m.ready (λ n. of_run tasks_of (rs n))

-- what is known is of the runs of this book
pub record KnowsRuns (m : KnownRuns) (b : Book) : Type 0 where
  pub count : m.count ≡ length b.runs
  pub requests : IsIndex m.requests (λ n. name_of request_key (nth b.runs n))
  pub seats : KnowsOpen m.seats (λ n. nth b.runs n)

-- and of the signals that they have taken
pub record Knows (f : Facts) (b : Book) : Type 0 where
  pub runs : KnowsRuns f.runs b
  pub signals : AreOf f.signals b
