use Rattle.std.proofs.Common.{◌≡◌, ◌+◌, ◌++◌, ◌≤◌, length, vec_len, vec_capacity}
use Rattle.std.specs.Vec.Iter.{into_iter_items, into_iter_len}
use Rattle.std.specs.Iterator.Adapters.{zip_first, zip_second}
use Rattle.flow_commit.specs.Keeping.{receipts_with}
use Rattle.flow_commit.proofs.receipts.add_receipts.Given as goal

-- what is made and what is still to be made are the whole, and there is room for the rest
abbrev pub invariant-loop-taken : goal.invariant-loop-taken
invariant-loop-taken l =
    let batch = zip_first l.taken-iterator in
    let replies = zip_second l.taken-iterator in
    record {
      made : l.receipts.items ++ receipts_with l.place (into_iter_items batch) (into_iter_items replies) ≡ receipts_with l.fn.kept l.fn.batch.items l.fn.replies.items;
      left : into_iter_len batch ≡ length (into_iter_items batch);
      answered : into_iter_len replies ≡ length (into_iter_items replies);
      room : vec_len l.receipts + into_iter_len batch ≤ vec_capacity l.receipts;
      places : l.place + into_iter_len batch ≡ l.fn.kept + length l.fn.batch.items;
    }
