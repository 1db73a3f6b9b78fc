use Rattle.std.proofs.Common.{rules, ap}
use Rattle.flow_hub.specs.declared.seats.Sight.{Sight}
use Rattle.flow_hub.proofs.Keys.{rest_ended}
use Rattle.flow_hub.proofs.publisher.Publisher.close.Goals as goal

pub invariant_of-self : goal.invariant_of-self
invariant_of-self g c = (
  search rules,
  rest_ended c.self.inside.keys c.self.inside.gone c.self.inside.seat.was c.leave-me.result.was c.end-me.result.0.was (ap (λ (v : Sight). v.was) c.leave-me.ensures.0) c.end-me.ensures.seen c.self.invariant.1,
)
