use Rattle.std.proofs.lemmas.Result.{on_ok_weaker}
use Rattle.flow_engine.specs.Following.{succeeds_then}
use Rattle.flow_engine.proofs.Committed.{stops_since}
use Rattle.flow_engine.proofs.answering.EngineAnswering.answer.Goals as goal

pub returns-clause-since : goal.returns-clause-since
returns-clause-since g c = on_ok_weaker c.answer.result (λ h e b cs s stops. stops_since c.args.self.now c.answer.new.self h e s stops) c.answer.ensures.unstopped

pub returns-clause-follows : goal.returns-clause-follows
returns-clause-follows g c a before = succeeds_then g.S.Store a c.args.self.now c.answer.new.self before (c.answer.ensures.follows, c.answer.ensures.goes_on)
