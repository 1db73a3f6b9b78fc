use Rattle.std.proofs.Common.{[], ap, ◌∙◌}
use Rattle.flow_hub.specs.declared.known.HubFacts.{HubFacts}
use Rattle.flow_serve.proofs.Living.{over_new, together_new}
use Rattle.flow_work.proofs.Served.{ends_serving, served_all, served_on}
use Rattle.flow_work.proofs.running.serve_new.Goals as goal

pub serve-requires-clause-together : goal.serve-requires-clause-together
serve-requires-clause-together g c = together_new g.S.Store c.args.engine.now c.args.publisher.now c.requires.fresh c.requires.nothing

pub returns-in-Ok-clause-served : goal.returns-in-Ok-clause-served
returns-in-Ok-clause-served g c =
    served_all g.S.Store c.args.engine.now c.serve.new.engine c.args.publisher.now c.serve.new.publisher c.requires.nothing
    c.in-Ok.ensures.given_up c.in-Ok.ensures.served

pub returns-in-Err-clause-ends : goal.returns-in-Err-clause-ends
returns-in-Err-clause-ends g c =
    ends_serving g.S.Store c.args.engine.now c.serve.new.engine c.args.publisher.now c.serve.new.publisher c.in-Err.fault c.requires.nothing
    c.in-Err.ensures.stops c.in-Err.ensures.served

-- what it has kept is what the hub has published
pub returns-in-Ok-clause-hub : goal.returns-in-Ok-clause-hub
returns-in-Ok-clause-hub g c =
    served_on g.S.Store (g.C.Clock.tells c.args.clock.now) c.args.engine.now c.serve.new.engine c.args.publisher.now c.serve.new.publisher []
    c.requires.nothing c.serve.ensures.together c.in-Ok.ensures.served (c.serve.ensures.posts (over_new g.S.Store c.args.engine.now c.args.publisher.now c.requires.nothing))

pub returns-in-Err-clause-hub : goal.returns-in-Err-clause-hub
returns-in-Err-clause-hub g c =
    let h = c.in-Err.ensures.served in
    served_on g.S.Store (g.C.Clock.tells c.args.clock.now) c.args.engine.now c.serve.new.engine c.args.publisher.now c.serve.new.publisher h.0
    c.requires.nothing c.serve.ensures.together h.1 (c.serve.ensures.posts (over_new g.S.Store c.args.engine.now c.args.publisher.now c.requires.nothing))

pub returns-in-Ok-clause-goes_on : goal.returns-in-Ok-clause-goes_on
returns-in-Ok-clause-goes_on g c = c.in-Ok.ensures.goes_on

pub returns-in-Ok-clause-found : goal.returns-in-Ok-clause-found
returns-in-Ok-clause-found g c = c.serve.ensures.found

pub returns-in-Err-clause-found : goal.returns-in-Err-clause-found
returns-in-Err-clause-found g c = c.serve.ensures.found

pub returns-in-Ok-clause-follows : goal.returns-in-Ok-clause-follows
returns-in-Ok-clause-follows g c = c.serve.ensures.follows

pub returns-in-Err-clause-follows : goal.returns-in-Err-clause-follows
returns-in-Err-clause-follows g c = c.serve.ensures.follows

pub returns-in-Ok-clause-done : goal.returns-in-Ok-clause-done
returns-in-Ok-clause-done g c = c.serve.ensures.done

pub returns-in-Err-clause-done : goal.returns-in-Err-clause-done
returns-in-Err-clause-done g c = c.serve.ensures.done

-- a publisher that is new hasn't closed it
pub returns-in-Ok-clause-closed : goal.returns-in-Ok-clause-closed
returns-in-Ok-clause-closed g c = c.in-Ok.ensures.closed ∙ ap (λ (k : HubFacts). k.ended) c.requires.nothing
