use Rattle.std.specs.Prelude.{◌≡◌}
use Rattle.flow_maps.proofs.Names.{take, Bytes, at_request, with_history}
use Rattle.flow_maps.proofs.signals.SignalEvents.add_history.Given as goal

-- behind what was there the signals of the events so far
abbrev pub invariant-loop-event : goal.invariant-loop-event
invariant-loop-event l = (f q : Bytes) → at_request l.self f q ≡ with_history l.flow l.run (take l.event-index l.history) (at_request l.initial.self) f q
