use Rattle.std.proofs.Common.{rules, ap}
use Rattle.flow_hub.specs.declared.seats.Sight.{Sight}
use Rattle.flow_hub.proofs.Keys.{rest_taken}
use Rattle.flow_hub.proofs.publisher.Publisher.take.Goals as goal

pub invariant_of-self : goal.invariant_of-self
invariant_of-self g c = (
  search rules,
  rest_taken c.self.inside.keys c.self.inside.gone c.self.inside.seat.was c.leave-me.result.was c.taken-me.result.0.was _ (ap (λ (v : Sight). v.was) c.leave-me.ensures.0) c.taken-me.ensures.seen c.self.invariant.1,
)
