use Rattle.flow_serve.proofs.Living.{over_new, serves_hub, together_new}
use Rattle.flow_serve.proofs.life.served.Goals as goal

pub serve-outcome-requires-clause-together : goal.serve-outcome-requires-clause-together
serve-outcome-requires-clause-together g c = together_new g.S.Store c.args.engine c.args.publisher.now c.requires.fresh c.requires.none

pub returns-clause-serves : goal.returns-clause-serves
returns-clause-serves g c =
    let s = c.serve-outcome.ensures in
    serves_hub g.S.Store c.args.engine c.serve-outcome.new.engine c.args.publisher.now.refused c.serve-outcome.new.publisher c.serve-outcome.result c.requires.fresh
    s.served s.together

-- a publisher to which nothing is known has let go of nothing
pub returns-clause-posts : goal.returns-clause-posts
returns-clause-posts g c = c.serve-outcome.ensures.posts (over_new g.S.Store c.args.engine c.args.publisher.now c.requires.none)
