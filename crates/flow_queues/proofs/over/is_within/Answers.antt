use Rattle.std.proofs.Common.{rules}
use Rattle.flow_queues.proofs.Stretches.{both_next, none_ends, only_ends}
use Rattle.flow_queues.proofs.over.is_within.Goals as goal

pub returns-in_default : goal.returns-in_default
returns-in_default c runs h = none_ends c.args.firsts.now c.args.ends.now runs h c.args.run c.in_default.ensures

pub returns-in_default-next : goal.returns-in_default-next
returns-in_default-next c runs h = only_ends c.args.firsts.now c.args.ends.now runs h c.args.run c.in-Some.end c.in-Some.ensures c.in_default-next.ensures

pub returns : goal.returns
returns c runs h = both_next c.args.firsts.now c.args.ends.now runs h c.args.run c.in-Some.end c.in-Some-next.first _ c.in-Some.ensures c.in-Some-next.ensures (search rules) (search rules)
