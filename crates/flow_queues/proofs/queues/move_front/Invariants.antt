use Rattle.std.proofs.Common.{◌≡◌, ◌≤◌, ◌+◌, ◌++◌, length}
use Rattle.std.specs.Vec.{vec_capacity}
use Rattle.std.specs.VecDeque.{deque_capacity, deque_len}
use Rattle.flow_queues.proofs.queues.move_front.Given as goal

abbrev pub invariant-loop-waiting : goal.invariant-loop-waiting
invariant-loop-waiting l =
    (l.initial.waiting.items ≡ l.into.items ++ l.waiting.items) ×
    (length l.into.items ≤ l.most) ×
    (vec_capacity l.into ≡ vec_capacity l.initial.into) ×
    (deque_len l.waiting + length l.into.items ≡ deque_len l.initial.waiting) ×
    (deque_capacity l.waiting ≡ deque_capacity l.initial.waiting)

abbrev pub decreases-loop-waiting : goal.decreases-loop-waiting
decreases-loop-waiting l = deque_len l.waiting
