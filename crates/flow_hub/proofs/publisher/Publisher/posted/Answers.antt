use Rattle.flow_hub.proofs.publisher.Publisher.posted.Goals as goal

pub returns : goal.returns
returns g c = rw (← c.self.view_is) c.self.invariant.1.0
