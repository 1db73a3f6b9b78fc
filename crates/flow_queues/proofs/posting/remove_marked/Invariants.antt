use Rattle.std.proofs.Common.{◌≡◌, ◌&&◌, not, drop}
use Rattle.std.specs.BTreeSet.{contains}
use Rattle.flow_base.specs.Keys.{Key}
use Rattle.flow_queues.specs.Posting.{key_cmp, has_key, chosen}
use Rattle.flow_queues.proofs.posting.remove_marked.Given as goal

abbrev pub invariant-loop-k : goal.invariant-loop-k
invariant-loop-k l = (q : Key) → (contains key_cmp l.keys q && not (has_key (chosen (drop l.k l.tasks) (drop l.k l.marks.items)) q)) ≡ (contains key_cmp l.fn.keys q && not (has_key (chosen l.tasks l.marks.items) q))
