use Rattle.std.proofs.Common.{◌≡◌, ◌++◌, drop}
use Rattle.flow_commit.specs.Shutting.{shut_in}
use Rattle.flow_commit.proofs.shutting.add_shut.Given as goal

abbrev pub invariant-loop-change : goal.invariant-loop-change
invariant-loop-change l = l.list.items ++ shut_in l.reply (drop l.change-index l.changes) ≡ l.fn.list.items ++ shut_in l.reply l.changes
