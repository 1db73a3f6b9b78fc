use Rattle.std.proofs.Common.{rules, refl}
use Rattle.flow_hub.proofs.Growing.{before_self, before_trans}
use Rattle.flow_hub.proofs.Sound.{none_given}
use Rattle.flow_hub.proofs.feed.given.Goals as goal

pub loop-init : goal.loop-init
loop-init g c = (before_self c.args.seat.was, search rules, refl, search rules, search rules)

pub returns-then-is_closed-clause-grows : goal.returns-then-is_closed-clause-grows
returns-then-is_closed-clause-grows g c = before_trans c.args.seat.was c.loop.me.was c.give-seen.result.0.was c.loop.invariant.0 c.give-seen.ensures.grows

pub returns-then-has_come-clause-grows : goal.returns-then-has_come-clause-grows
returns-then-has_come-clause-grows g c = before_trans c.args.seat.was c.loop.me.was c.give-seen.result.0.was c.loop.invariant.0 c.give-seen.ensures.grows

pub loop-preserved : goal.loop-preserved
loop-preserved g c = (
  before_trans c.args.seat.was c.loop.me.was c.give-seen.result.0.was c.loop.invariant.0 c.give-seen.ensures.grows,
  search rules,
  none_given c.args.seat.was c.loop.me.was c.give-seen.result.0.was c.give-seen.result.1 (search rules) c.loop.invariant.2 c.give-seen.ensures.seen,
  search rules,
  search rules,
)
