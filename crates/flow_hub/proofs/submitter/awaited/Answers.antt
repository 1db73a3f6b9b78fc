use Rattle.std.proofs.Common.{rules}
use Rattle.flow_hub.proofs.Growing.{before_self, before_trans, fetches_later}
use Rattle.flow_hub.proofs.submitter.awaited.Goals as goal

pub loop-init : goal.loop-init
loop-init g c = (before_self c.args.seat.was, search rules, search rules, search rules, search rules, search rules, search rules)

pub loop-preserved : goal.loop-preserved
loop-preserved g c = (
  before_trans c.args.seat.was c.loop.me.was c.answer-seen.result.0.was c.loop.invariant.0 c.answer-seen.ensures.grows,
  search rules,
  search rules,
  search rules,
  search rules,
  search rules,
  search rules,
)

pub returns-in-Some-answer-clause-grows : goal.returns-in-Some-answer-clause-grows
returns-in-Some-answer-clause-grows g c = before_trans c.args.seat.was c.loop.me.was c.answer-seen.result.0.was c.loop.invariant.0 c.answer-seen.ensures.grows

pub returns-in-Some-answer-clause-one_more : goal.returns-in-Some-answer-clause-one_more
returns-in-Some-answer-clause-one_more g c = fetches_later c.args.seat.was c.loop.me.was c.answer-seen.result.0.was c.loop.invariant.0 (search rules)
