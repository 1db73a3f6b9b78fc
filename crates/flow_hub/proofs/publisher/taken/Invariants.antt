use Rattle.std.proofs.Common.{◌≡◌, []}
use Rattle.std.specs.Vec.{vec_capacity}
use Rattle.flow_hub.specs.Knowing.{IsBefore, IsSamePart}
use Rattle.flow_hub.specs.Seating.{IsPublishers}
use Rattle.flow_hub.proofs.publisher.taken.Given as goal

abbrev pub invariant-loop : goal.invariant-loop
invariant-loop g l =
    IsBefore l.initial.me.was l.me.was × IsSamePart l.initial.me.was l.me.was × IsPublishers l.me ×
    (l.into.items ≡ []) × (vec_capacity l.into ≡ vec_capacity l.initial.into) ×
    (goal.iterator-loop g).can_next l.iterator' × (goal.iterator-loop g).is_finite l.iterator'
