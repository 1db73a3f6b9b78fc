use Rattle.flow_queues.proofs.Still.{first_none, first_some, forward}
use Rattle.flow_queues.proofs.posting.first_of.Goals as goal

pub range-own-requires : goal.range-own-requires
range-own-requires c = forward c.args.run

pub returns-in_default : goal.returns-in_default
returns-in_default c = first_none c.args.keys.now c.range-own.result c.args.run (c.range-own.ensures.in_range tt) c.in_default.ensures.steps.0

pub returns : goal.returns
returns c = first_some c.args.keys.now c.range-own.result c.args.run (c.range-own.ensures.in_range tt) c.in-Some.key.now _ c.in-Some.ensures.steps
