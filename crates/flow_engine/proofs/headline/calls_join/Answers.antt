use Rattle.flow_engine.proofs.Joining.{runs_join}
use Rattle.flow_engine.proofs.headline.calls_join.Goals as goal

pub returns : goal.returns
returns g c = runs_join g.S.Store
