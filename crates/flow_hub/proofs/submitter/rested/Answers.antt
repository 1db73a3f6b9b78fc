use Rattle.std.proofs.Common.{rules}
use Rattle.flow_hub.proofs.Growing.{before_self, before_trans}
use Rattle.flow_hub.proofs.submitter.rested.Goals as goal

pub loop-init : goal.loop-init
loop-init g c = (before_self c.args.seat.was, search rules, search rules, search rules, search rules)

pub loop-preserved : goal.loop-preserved
loop-preserved g c = (
  before_trans c.args.seat.was c.loop.me.was c.rest-seen.result.0.was c.loop.invariant.0 c.rest-seen.ensures.grows,
  search rules,
  search rules,
  search rules,
  search rules,
)

pub returns-in-Closed-clause-grows : goal.returns-in-Closed-clause-grows
returns-in-Closed-clause-grows g c = before_trans c.args.seat.was c.loop.me.was c.rest-seen.result.0.was c.loop.invariant.0 c.rest-seen.ensures.grows
