use Rattle.std.proofs.Common.{◌≡◌}
use Rattle.flow_hub.specs.Knowing.{IsBefore}
use Rattle.flow_hub.specs.Seating.{IsSubmitters}
use Rattle.flow_hub.proofs.submitter.ticked.Given as goal

abbrev pub invariant-loop : goal.invariant-loop
invariant-loop g l =
    IsBefore l.initial.me.was l.me.was × IsSubmitters l.me × (l.me.owed ≡ l.initial.me.owed) ×
    (goal.iterator-loop g).can_next l.iterator' × (goal.iterator-loop g).is_finite l.iterator'
