use Rattle.std.proofs.Common.{◌≡◌, ◌++◌, length}
use Rattle.std.specs.Vec.Iter.{into_iter_items, into_iter_len}
use Rattle.flow_machine.proofs.puts.list_behind.Given as goal

abbrev pub invariant-loop-change : goal.invariant-loop-change
invariant-loop-change l =
    (into_iter_len l.change-iterator ≡ length (into_iter_items l.change-iterator))
    × (l.changes.items ++ into_iter_items l.change-iterator ≡ l.fn.changes.items ++ l.fn.more.items)
