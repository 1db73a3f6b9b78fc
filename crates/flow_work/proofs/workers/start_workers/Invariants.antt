use Rattle.std.proofs.Common.{◌≡◌, ◌≤◌, ◌+◌, length, vec_len, vec_capacity}
use Rattle.std.specs.Vec.Iter.{into_iter_items, into_iter_len}
use Rattle.flow_work.proofs.workers.start_workers.Given as goal

-- a thread is started for each end that is gone, and there is room for the rest
abbrev pub invariant-starts : goal.invariant-starts
invariant-starts g l = record {
  left : into_iter_len l.receiver-iterator ≡ length (into_iter_items l.receiver-iterator);
  room : vec_len l.workers + into_iter_len l.receiver-iterator ≤ vec_capacity l.workers;
  started : length l.workers.items + into_iter_len l.receiver-iterator ≡ length l.fn.receivers.items;
}
