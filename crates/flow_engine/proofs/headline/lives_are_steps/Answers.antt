use Rattle.flow_engine.proofs.Walking.{are_steps}
use Rattle.flow_engine.proofs.headline.lives_are_steps.Goals as goal

pub returns : goal.returns
returns g c = are_steps g.S.Store c.world_is_safe.ensures.safe
