use Rattle.std.proofs.Common.{ap, subst, sym}
use Rattle.flow_hub.specs.declared.seats.Sight.{Sight}
use Rattle.flow_hub.specs.Publishing.{HasRest}
use Rattle.flow_hub.proofs.publisher.Publisher.post.Goals as goal

pub post-me-requires-clause-keys : goal.post-me-requires-clause-keys
post-me-requires-clause-keys g c = subst (HasRest c.self.inside.keys c.self.inside.gone) (sym (ap (λ (v : Sight). v.was) c.leave-me.ensures.0)) c.self.invariant.1
