use Rattle.std.proofs.Common.{◌≡◌, drop}
use Rattle.std.specs.List.{list_any}
use Rattle.flow_rows.specs.Rows.{events_of}
use Rattle.flow_rows.specs.Damages.{closes}
use Rattle.flow_rows.proofs.runs.is_closed.Given as goal

abbrev pub invariant-loop-event : goal.invariant-loop-event
invariant-loop-event l = list_any closes (events_of l.events l.run) ≡ list_any closes (events_of (drop l.event-index l.events) l.run)
