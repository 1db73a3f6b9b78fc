use Rattle.std.proofs.Common.{◌∙◌, refl}
use Rattle.flow_queues.proofs.Still.{none_left, one_fewer}
use Rattle.flow_queues.proofs.posting.let_go_one.Goals as goal

pub loop-key-init : goal.loop-key-init
loop-key-init c q = refl

pub loop-key-preserved : goal.loop-key-preserved
loop-key-preserved c q = one_fewer c.loop-key.keys c.drop_key.new.keys c.in-Some.key c.args.run q c.in-Some.ensures.0 (c.drop_key.ensures.dropped q) ∙ c.loop-key.invariant q

pub loop-key-smaller : goal.loop-key-smaller
loop-key-smaller c = c.drop_key.ensures.fewer c.in-Some.ensures.1

pub returns : goal.returns
returns c q = none_left c.args.keys.now c.loop-key.keys c.args.run q c.in_default.ensures (c.loop-key.invariant q)
