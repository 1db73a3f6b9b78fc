use Rattle.std.proofs.Common.{◌≡◌, length}
use Rattle.std.specs.Vec.{vec_capacity}
use Rattle.flow_hub.specs.Knowing.{IsBefore}
use Rattle.flow_hub.specs.Seating.{IsSubmitters}
use Rattle.flow_hub.proofs.submitter.awaited.Given as goal

abbrev pub invariant-loop : goal.invariant-loop
invariant-loop g l =
    IsBefore l.initial.me.was l.me.was × IsSubmitters l.me ×
    (length l.mine.items ≡ l.me.owed) × (l.mine.items ≡ l.initial.mine.items) × (vec_capacity l.mine ≡ vec_capacity l.initial.mine) ×
    (goal.iterator-loop g).can_next l.iterator' × (goal.iterator-loop g).is_finite l.iterator'
