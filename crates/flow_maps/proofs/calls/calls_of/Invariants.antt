use Rattle.flow_maps.proofs.Names.{AreCalls}
use Rattle.flow_maps.proofs.calls.calls_of.Given as goal

abbrev pub invariant-loop-task : goal.invariant-loop-task
invariant-loop-task l = AreCalls l.calls.items l.whole.history
