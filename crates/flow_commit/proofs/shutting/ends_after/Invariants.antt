use Rattle.std.proofs.Common.{◌≡◌, drop}
use Rattle.flow_commit.specs.Shutting as rule
use Rattle.flow_commit.proofs.shutting.ends_after.Given as goal

abbrev pub invariant-loop-command : goal.invariant-loop-command
invariant-loop-command l = rule.ends_after l.last (drop l.command-index l.commands) ≡ rule.ends_after l.fn.before l.commands
