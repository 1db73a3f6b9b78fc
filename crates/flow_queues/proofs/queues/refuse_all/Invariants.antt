use Rattle.std.proofs.Common.{◌≡◌, ◌++◌, map}
use Rattle.std.specs.Vec.{vec_capacity}
use Rattle.std.specs.Vec.Iter.{into_iter_items}
use Rattle.flow_queues.specs.Refusing.{refused_by}
use Rattle.flow_queues.proofs.queues.refuse_all.Given as goal

abbrev pub invariant-loop-asked : goal.invariant-loop-asked
invariant-loop-asked l =
    (goal.iterator-loop-asked).can_next l.asked-iterator ×
    (goal.iterator-loop-asked).is_finite l.asked-iterator ×
    (l.yielded ++ into_iter_items l.asked-iterator ≡ l.fn.all.items) ×
    (l.refused.items ≡ l.initial.refused.items ++ map (refused_by l.code) l.yielded) ×
    (vec_capacity l.refused ≡ vec_capacity l.initial.refused)
