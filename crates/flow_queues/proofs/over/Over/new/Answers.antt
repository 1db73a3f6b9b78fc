use Rattle.flow_queues.proofs.Stretches.{none_over}
use Rattle.flow_queues.proofs.over.Over.new.Goals as goal

pub invariant_of-result : goal.invariant_of-result
invariant_of-result c = rw (c.of.ensures) (none_over c.new.result c.new-2.result c.new.ensures.empty c.new-2.ensures.empty)
