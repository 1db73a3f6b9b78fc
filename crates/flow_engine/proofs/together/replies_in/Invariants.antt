use Rattle.std.proofs.Common.{◌≡◌, ◌+◌, ◌≤◌, ◌++◌, length, map, vec_len, vec_capacity}
use Rattle.std.specs.Vec.Iter.{into_iter_items, into_iter_len}
use Rattle.flow_engine.specs.Driving.{reply_of}
use Rattle.flow_engine.proofs.together.replies_in.Given as goal

-- there is room for what is left
abbrev pub invariant-loop-receipt : goal.invariant-loop-receipt
invariant-loop-receipt l = record {
  left : into_iter_len l.receipt-iterator ≡ length (into_iter_items l.receipt-iterator);
  room : vec_len l.replies + into_iter_len l.receipt-iterator ≤ vec_capacity l.replies;
  told : l.replies.items ++ map reply_of (into_iter_items l.receipt-iterator) ≡ map reply_of l.fn.receipts.items;
}
