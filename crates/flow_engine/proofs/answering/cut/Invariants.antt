use Rattle.std.proofs.Common.{◌≡◌, ◌+◌, ◌≤◌, length, vec_len, vec_capacity}
use Rattle.std.specs.Vec.Iter.{into_iter_items, into_iter_len}
use Rattle.flow_engine.proofs.Singly.{Cutting}
use Rattle.flow_engine.proofs.answering.cut.Given as goal

abbrev pub invariant-loop-command : goal.invariant-loop-command
invariant-loop-command l = record {
  left : into_iter_len l.command-iterator ≡ length (into_iter_items l.command-iterator);
  room : vec_len l.batches + into_iter_len l.command-iterator ≤ vec_capacity l.batches;
  cutting : Cutting l.fn.commands.items (into_iter_items l.command-iterator) l.batches.items;
}
