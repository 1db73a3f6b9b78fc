use Rattle.std.proofs.Common.{rules, ◌≡◌, []}
use Rattle.flow_hub.proofs.Growing.{before_self, before_trans, same_part}
use Rattle.flow_hub.proofs.Lists.{no_length}
use Rattle.flow_hub.proofs.Sound.{none_taken, takes_all_since}
use Rattle.flow_hub.proofs.publisher.taken.Goals as goal

pub loop-init : goal.loop-init
loop-init g c = (
  before_self c.args.seat.was,
  same_part c.args.seat.was,
  search rules,
  search rules,
  search rules,
  search rules,
  search rules,
)

pub loop-preserved : goal.loop-preserved
loop-preserved g c =
    let empty : c.take-me.new.into.items ≡ [] = no_length c.take-me.new.into.items (search rules) in (
      before_trans c.args.seat.was c.loop.me.was c.take-me.result.was c.loop.invariant.0 c.take-me.ensures.grows,
      none_taken c.args.seat.was c.loop.me.was c.take-me.result.was c.take-me.new.into.items empty c.loop.invariant.1 c.take-me.ensures.seen,
      search rules,
      empty,
      search rules,
      search rules,
      search rules,
    )

pub returns-then-not-is_empty-clause-whole : goal.returns-then-not-is_empty-clause-whole
returns-then-not-is_empty-clause-whole g c = takes_all_since c.args.most c.args.seat.was c.loop.me.was c.take-me.result.was c.loop.invariant.1 c.take-me.ensures.whole

pub returns-then-is_closed-clause-whole : goal.returns-then-is_closed-clause-whole
returns-then-is_closed-clause-whole g c = takes_all_since c.args.most c.args.seat.was c.loop.me.was c.take-me.result.was c.loop.invariant.1 c.take-me.ensures.whole
