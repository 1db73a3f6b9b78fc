use Rattle.std.proofs.Common.{◌≡◌, drop}
use Rattle.flow_commit.specs.Boards.{since_changes}
use Rattle.flow_commit.proofs.deciding.since_changes.Given as goal

abbrev pub invariant-loop-change : goal.invariant-loop-change
invariant-loop-change l = since_changes l.least (drop l.change-index l.changes) ≡ since_changes l.since l.changes
