use Rattle.flow_engine.proofs.Lives.{one_log}
use Rattle.flow_engine.proofs.headline.lives_make_one_log.Goals as goal

pub returns : goal.returns
returns g c = one_log g.S.Store
