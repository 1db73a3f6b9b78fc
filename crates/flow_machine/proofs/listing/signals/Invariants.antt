use Rattle.std.proofs.Common.{◌≡◌, ◌++◌, drop}
use Rattle.flow_machine.specs.Listed.{signals_in}
use Rattle.flow_machine.proofs.listing.signals.Given as goal

abbrev pub invariant-loop-wait : goal.invariant-loop-wait
invariant-loop-wait l = signals_in l.waits ≡ l.list.items ++ signals_in (drop l.wait-index l.waits)
