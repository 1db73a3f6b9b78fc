use Rattle.flow_queues.proofs.Stretches.{next_none, next_some}
use Rattle.flow_queues.proofs.over.next.Goals as goal

pub returns-in_default : goal.returns-in_default
returns-in_default c = next_none c.args.set.now c.range-later.result c.args.number (c.range-later.ensures.in_range tt) c.in_default.ensures.steps.0

pub returns : goal.returns
returns c = next_some c.args.set.now c.range-later.result c.args.number (c.range-later.ensures.in_range tt) c.in-Some.first.now _ c.in-Some.ensures.steps
