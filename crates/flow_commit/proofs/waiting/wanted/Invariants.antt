use Rattle.std.proofs.Common.{◌≡◌, take, filter}
use Rattle.flow_commit.specs.Boards.{is_new}
use Rattle.flow_commit.proofs.waiting.wanted.Given as goal

abbrev pub invariant-loop-entry : goal.invariant-loop-entry
invariant-loop-entry l = l.list.items ≡ filter (is_new l.posted.keys) (take l.entry-index l.ready)
