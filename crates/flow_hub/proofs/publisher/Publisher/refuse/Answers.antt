use Rattle.std.proofs.Common.{rules, ap}
use Rattle.flow_hub.specs.declared.seats.Sight.{Sight}
use Rattle.flow_hub.proofs.Keys.{rest_refused}
use Rattle.flow_hub.proofs.publisher.Publisher.refuse.Goals as goal

pub invariant_of-self : goal.invariant_of-self
invariant_of-self g c = (
  search rules,
  rest_refused c.self.inside.keys c.self.inside.gone c.self.inside.seat.was c.leave-me.result.was c.refuse-me.result.0.was _ _ (ap (λ (v : Sight). v.was) c.leave-me.ensures.0) c.refuse-me.ensures.seen c.self.invariant.1,
)
