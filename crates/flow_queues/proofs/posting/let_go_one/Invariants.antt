use Rattle.std.proofs.Common.{◌≡◌, ◌&&◌, not, [], ◌∷◌}
use Rattle.std.specs.BTreeSet.{btree_set_len, contains}
use Rattle.flow_base.specs.Keys.{Key}
use Rattle.flow_queues.specs.Posting.{is_of, key_cmp}
use Rattle.flow_queues.proofs.posting.let_go_one.Given as goal

-- the keys of other runs are as they were
abbrev pub invariant-loop-key : goal.invariant-loop-key
invariant-loop-key l = (q : Key) → (contains key_cmp l.keys q && not (is_of (l.run ∷ []) q.0)) ≡ (contains key_cmp l.fn.keys q && not (is_of (l.run ∷ []) q.0))

abbrev pub decreases-loop-key : goal.decreases-loop-key
decreases-loop-key l = btree_set_len l.keys
