use Rattle.flow_engine.proofs.Boarding as boarding
use Rattle.flow_engine.proofs.headline.boarded_calls_join.Goals as goal

pub returns-clause-join : goal.returns-clause-join
returns-clause-join g c = boarding.boarded_calls_join g.S.Store

pub returns-clause-driven : goal.returns-clause-driven
returns-clause-driven g c = boarding.driven_runs g.S.Store
