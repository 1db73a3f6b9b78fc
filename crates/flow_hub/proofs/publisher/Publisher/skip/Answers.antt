use Rattle.std.proofs.Common.{rules, ap}
use Rattle.flow_hub.specs.declared.seats.Sight.{Sight}
use Rattle.flow_hub.proofs.Keys.{rest_skipped}
use Rattle.flow_hub.proofs.publisher.Publisher.skip.Goals as goal

pub invariant_of-self : goal.invariant_of-self
invariant_of-self g c = (
  search rules,
  rest_skipped c.self.inside.keys c.self.inside.gone c.self.inside.seat.was c.leave-me.result.was c.skip-me.result.0.was _ (ap (λ (v : Sight). v.was) c.leave-me.ensures.0) c.skip-me.ensures.seen c.self.invariant.1,
)
