use Rattle.std.proofs.Common.{◌≡◌, ◌+◌, drop}
use Rattle.flow_commit.specs.Boards.{since_all}
use Rattle.flow_commit.proofs.waiting.since_next.Given as goal

abbrev pub invariant-loop-entry : goal.invariant-loop-entry
invariant-loop-entry l = since_all l.since (drop l.entry-index l.new) ≡ since_all (l.fn.at + 1) l.new
