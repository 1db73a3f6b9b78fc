use Rattle.std.proofs.Common.{◌≡◌, ◌+◌, ◌≤◌, length, vec_len, vec_capacity}
use Rattle.std.specs.Vec.Iter.{into_iter_items, into_iter_len}
use Rattle.flow_engine.proofs.Singly.{Answering}
use Rattle.flow_engine.proofs.answering.all_answers.Given as goal

-- there is room for what is left to answer
abbrev pub invariant-loop-done : goal.invariant-loop-done
invariant-loop-done l = record {
  left : into_iter_len l.done-iterator ≡ length (into_iter_items l.done-iterator);
  room : vec_len l.answers + into_iter_len l.done-iterator ≤ vec_capacity l.answers;
  answering : Answering l.fn.answers.items l.fn.dones.items l.answers.items (into_iter_items l.done-iterator);
}
