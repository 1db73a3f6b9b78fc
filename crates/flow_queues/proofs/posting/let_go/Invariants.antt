use Rattle.std.proofs.Common.{◌≡◌, ◌&&◌, ◌++◌, not, take}
use Rattle.std.specs.BTreeSet.{contains}
use Rattle.flow_base.specs.Keys.{Key}
use Rattle.flow_queues.specs.Posting.{is_of, key_cmp}
use Rattle.flow_queues.proofs.posting.let_go.Given as goal

abbrev pub invariant-loop-i : goal.invariant-loop-i
invariant-loop-i l = record {
  gone : l.gone ≡ l.fn.gone ++ take l.i l.runs;
  keys : (q : Key) → contains key_cmp l.keys q ≡ (contains key_cmp l.fn.keys q && not (is_of (take l.i l.runs) q.0));
}
