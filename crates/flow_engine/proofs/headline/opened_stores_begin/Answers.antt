use Rattle.flow_engine.proofs.Lives.{opened_begin}
use Rattle.flow_engine.proofs.headline.opened_stores_begin.Goals as goal

pub returns : goal.returns
returns g c = opened_begin g.S.Store
