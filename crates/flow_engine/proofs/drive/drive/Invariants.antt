use Rattle.std.proofs.Common.{◌≡◌, ◌+◌, ◌≤◌, length, vec_len, vec_capacity}
use Rattle.std.specs.Vec.Iter.{into_iter_items, into_iter_len}
use Rattle.flow_engine.proofs.OneMore.{Drove}
use Rattle.flow_engine.proofs.drive.drive.Given as goal

-- there is room for what is left to answer
abbrev pub invariant-loop-batch : goal.invariant-loop-batch
invariant-loop-batch g l = record {
  left : into_iter_len l.batch-iterator ≡ length (into_iter_items l.batch-iterator);
  room : vec_len l.dones + into_iter_len l.batch-iterator ≤ vec_capacity l.dones;
  drove : Drove g.S.Store l.fn.engine l.engine l.fn.batches.items (into_iter_items l.batch-iterator) l.dones.items;
}
