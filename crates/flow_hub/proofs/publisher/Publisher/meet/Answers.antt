use Rattle.std.proofs.Common.{rules, ap}
use Rattle.flow_hub.specs.declared.seats.Sight.{Sight}
use Rattle.flow_hub.proofs.Keys.{rest_same}
use Rattle.flow_hub.proofs.publisher.Publisher.meet.Goals as goal

pub invariant_of-self : goal.invariant_of-self
invariant_of-self g c = (
  search rules,
  rest_same c.self.inside.keys c.self.inside.gone c.self.inside.seat.was c.leave-me.result.was c.meet.result.was (ap (λ (v : Sight). v.was) c.leave-me.ensures.0) c.meet.ensures.part c.self.invariant.1,
)
