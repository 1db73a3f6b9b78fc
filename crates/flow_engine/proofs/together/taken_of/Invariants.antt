use Rattle.std.proofs.Common.{◌≡◌, ◌+◌, ◌≤◌, ◌++◌, length, vec_len, vec_capacity}
use Rattle.std.specs.Vec.Iter.{into_iter_items, into_iter_len}
use Rattle.flow_commit.specs.Keeping.{commands_of}
use Rattle.flow_engine.proofs.together.taken_of.Given as goal

abbrev pub invariant-loop-command : goal.invariant-loop-command
invariant-loop-command l = record {
  left : into_iter_len l.command-iterator ≡ length (into_iter_items l.command-iterator);
  room : vec_len l.all + into_iter_len l.command-iterator ≤ vec_capacity l.all;
  split : l.fn.commands.items ≡ commands_of l.all.items ++ into_iter_items l.command-iterator;
}
