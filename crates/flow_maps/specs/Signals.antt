-- Where the signals of flows are recorded, by their flows and requests.
use Rattle.std.specs.Prelude.{◌≡◌, ◌+◌, ℕ, List, Option, Some, None, bytes_eq, false, if◌then◌else◌}
use Rattle.flow_base.specs.Syntax.{Bytes}
use Rattle.flow_base.specs.declared.event.Event.{Event}
use Rattle.flow_base.specs.declared.event.Input.{Input}
use Rattle.flow_base.specs.declared.event.Input.TheVariants.{Signaled}
use Rattle.flow_base.specs.declared.event.What.TheVariants.{Came, Asked}
use Rattle.flow_model.specs.Book.{Book, signal_in, signalled, found_in}
use Rattle.flow_maps.specs.Names.{at_name, both}
use Rattle.flow_maps.specs.declared.signals.SignalEvents.{SignalEvents}

-- the event that records the signal of a request in the runs of a flow, by the map
abbrev pub at_request : SignalEvents → Bytes → Bytes → Option (ℕ × ℕ)
at_request m flow q = at_name m.map (both flow q)

-- the request of a signal that came
abbrev pub asked_by : Input → Option Bytes
asked_by (Signaled name q v) = Some q
asked_by _ = None

-- the request of a signal that an event records
abbrev pub signal_of : Event → Option Bytes
signal_of e = elim e.what [ Came i ↦ asked_by i | Asked c ↦ None ]

-- what is found first, or what is found later
abbrev pub or_later : Option (ℕ × ℕ) → Option (ℕ × ℕ) → Option (ℕ × ℕ)
or_later None later = later
or_later (Some x) later = Some x

-- behind what was found already, what the history of a run of this flow and number records
abbrev pub with_history : Bytes → ℕ → List Event → (Bytes → Bytes → Option (ℕ × ℕ)) → Bytes → Bytes → Option (ℕ × ℕ)
with_history flow run h g f q = or_later (g f q) (found_in run (if bytes_eq flow f then signal_in q h else None) None)

-- all signals that the runs of flows have taken
abbrev pub AreOf : SignalEvents → Book → Type 0
AreOf m b = (flow q : Bytes) → at_request m flow q ≡ signalled b flow q

-- another book says nothing else of the other flows
abbrev pub IsSameBut : Book → Book → Bytes → Type 0
IsSameBut b c but = (flow : Bytes) → bytes_eq but flow ≡ false → (q : Bytes) → signalled c flow q ≡ signalled b flow q

-- In the second book a run of a flow has taken the signal of a request by its next event, behind so many; nothing else is found
-- otherwise.
pub record IsTaken (b c : Book) (flow : Bytes) (run count : ℕ) (request : Bytes) : Type 0 where
  pub others : IsSameBut b c flow
  pub same : (q : Bytes) → bytes_eq request q ≡ false → signalled c flow q ≡ signalled b flow q
  pub taken : signalled b flow request ≡ None → signalled c flow request ≡ Some (run, count + 1)

-- The first book has the signals of the second, but for that of a run of this flow which the second has more.
abbrev pub IsUntaken : Option Bytes → Bytes → Book → Book → Type 0
IsUntaken None flow b c = (f q : Bytes) → signalled b f q ≡ signalled c f q
IsUntaken (Some request) flow b c = (f q : Bytes) → signalled b f q ≡ (if bytes_eq (both flow request) (both f q) then None else signalled c f q)
