use Rattle.flow_hub.proofs.Keys.{rest_none}
use Rattle.flow_hub.proofs.publisher.Publisher.over.Goals as goal

pub invariant_of-result : goal.invariant_of-result
invariant_of-result g c = (c.requires.seat, rest_none c.new.result c.new-2.result c.args.seat.was c.new.ensures.empty c.new-2.ensures c.requires.none c.requires.gone)
