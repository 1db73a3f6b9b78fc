use Rattle.std.proofs.Common.{◌≡◌, ◌≤◌, length, vec_len, vec_capacity}
use Rattle.flow_queues.proofs.Chosen.{IsMarked}
use Rattle.flow_queues.proofs.posting.add_all.Given as goal

abbrev pub invariant-loop-task : goal.invariant-loop-task
invariant-loop-task l = IsMarked l.gone l.fn.keys l.keys l.tasks l.marks.items × (vec_len l.marks ≡ l.task-index) × (length l.tasks ≤ vec_capacity l.marks)
