use Rattle.std.proofs.Common.{◌≡◌, ◌+◌, ◌++◌, ◌≤◌, length}
use Rattle.std.specs.VecDeque.{deque_len, deque_capacity}
use Rattle.std.specs.Vec.Iter.{into_iter_items, into_iter_len}
use Rattle.std.specs.Iterator.Adapters.{zip_first, zip_second}
use Rattle.flow_queues.specs.Posting.{chosen}
use Rattle.flow_queues.proofs.posting.push_marked.Given as goal

-- what is moved and what is still to be moved are the whole, and there is room for the rest
abbrev pub invariant-loop-task : goal.invariant-loop-task
invariant-loop-task l =
    let tasks = zip_first l.task-iterator in
    let marks = zip_second l.task-iterator in
    record {
      moved : l.waiting.items ++ chosen (into_iter_items tasks) (into_iter_items marks) ≡ l.fn.waiting.items ++ chosen l.fn.tasks.items l.fn.marks.items;
      left : into_iter_len tasks ≡ length (into_iter_items tasks);
      marked : into_iter_len marks ≡ length (into_iter_items marks);
      room : deque_len l.waiting + into_iter_len tasks ≤ deque_capacity l.waiting;
    }
