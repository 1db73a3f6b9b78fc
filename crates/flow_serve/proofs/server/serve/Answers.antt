use Rattle.std.proofs.Common.{inl, ◌++◌, refl, subst, sym}
use Rattle.flow_commit.specs.Keeping.{account_of}
use Rattle.flow_commit.specs.Shutting.{AreOver}
use Rattle.flow_hub.proofs.Growing.{before_trans}
use Rattle.flow_hub.proofs.Sound.{takes_then}
use Rattle.flow_serve.proofs.Posted.{later_self, posts_none, posts_still}
use Rattle.flow_serve.proofs.Served.{boarded_behind, served_behind, unboarded, unserved}
use Rattle.flow_engine.proofs.Boarding.{follows_self}
use Rattle.flow_serve.proofs.Serving.{together_still, turned_behind}
use Rattle.flow_serve.proofs.server.serve.Goals as goal

-- a batch has halted the engine, and what waits is turned away
pub returns-in-Err-serve_all-clause-stops : goal.returns-in-Err-serve_all-clause-stops
returns-in-Err-serve_all-clause-stops g c =
    let s = c.in-Err-serve_all.ensures.stops in
    let t = c.turn_away.ensures.turned in
    (s.0 ++ t.0, inl (turned_behind c.args.engine.now c.serve_all.new.engine c.args.publisher.now.refused c.serve_all.new.publisher.refused c.turn_away.new.publisher.refused s.0 t.0 c.in-Err-serve_all.fault s.1 t.1))

pub returns-in-Err-serve_all-clause-served : goal.returns-in-Err-serve_all-clause-served
returns-in-Err-serve_all-clause-served g c =
    let t = c.turn_away.ensures.turned in
    (t.0, served_behind g.S.Store c.args.engine.now c.serve_all.new.engine c.args.publisher.now.refused c.serve_all.new.publisher.refused c.turn_away.new.publisher.refused t.0 c.serve_all.ensures.served t.1)

-- memory was wanting, and nothing was taken
pub returns-in-Err-clause-served : goal.returns-in-Err-clause-served
returns-in-Err-clause-served g c =
    let t = c.turn_away-in-Err.ensures.turned in
    (t.0, unserved g.S.Store c.args.engine.now c.args.publisher.now.refused c.turn_away-in-Err.new.publisher.refused t.0 t.1)

-- what is turned away posts nothing
pub returns-in-Err-serve_all-clause-posts : goal.returns-in-Err-serve_all-clause-posts
returns-in-Err-serve_all-clause-posts g c over =
    let new = c.serve_all.new.engine in
    posts_still g.S.Store (g.C.Clock.tells c.args.clock.now) new new c.args.publisher.now.posted c.serve_all.new.publisher.posted c.turn_away.new.publisher.posted (later_self g.S.Store new) (c.serve_all.ensures.posts over) c.turn_away.ensures.posted

pub returns-in-Err-clause-posts : goal.returns-in-Err-clause-posts
returns-in-Err-clause-posts g c over = posts_none g.S.Store (g.C.Clock.tells c.args.clock.now) c.args.engine.now c.args.publisher.now.posted c.turn_away-in-Err.new.publisher.posted c.turn_away-in-Err.ensures.posted

-- what is turned away has no board
pub returns-in-Err-serve_all-clause-boards : goal.returns-in-Err-serve_all-clause-boards
returns-in-Err-serve_all-clause-boards g c over =
    let t = c.turn_away.ensures.turned in (
      t.0,
      c.serve_all.new.publisher.skipped,
      boarded_behind g.S.Store (g.C.Clock.tells c.args.clock.now) c.args.engine.now c.args.publisher.now.refused
          c.args.publisher.now.posted c.args.publisher.now.skipped c.serve_all.new.engine c.serve_all.new.publisher.refused
          c.turn_away.new.publisher.refused c.serve_all.new.publisher.posted c.turn_away.new.publisher.posted
          c.serve_all.new.publisher.skipped t.0 t.1 c.turn_away.ensures.posted (c.in-Err-serve_all.ensures.boards over),
      c.turn_away.ensures.skipped,
    )

pub returns-in-Err-clause-boards : goal.returns-in-Err-clause-boards
returns-in-Err-clause-boards g c over =
    let t = c.turn_away-in-Err.ensures.turned in (
      t.0,
      c.args.publisher.now.skipped,
      unboarded g.S.Store (g.C.Clock.tells c.args.clock.now) c.args.engine.now c.args.publisher.now.refused
          c.args.publisher.now.posted c.args.publisher.now.skipped c.turn_away-in-Err.new.publisher.refused
          c.turn_away-in-Err.new.publisher.posted t.0 t.1 c.turn_away-in-Err.ensures.posted,
      c.turn_away-in-Err.ensures.skipped,
    )

-- what is turned away changes nothing that is kept
pub returns-in-Err-serve_all-clause-together : goal.returns-in-Err-serve_all-clause-together
returns-in-Err-serve_all-clause-together g c =
    let t = c.turn_away.ensures in
    together_still (account_of g.S.Store c.serve_all.new.engine) c.serve_all.new.publisher c.turn_away.new.publisher
    c.serve_all.ensures.together t.history.0 t.history.1 t.none

pub returns-in-Err-clause-together : goal.returns-in-Err-clause-together
returns-in-Err-clause-together g c =
    let t = c.turn_away-in-Err.ensures in
    together_still (account_of g.S.Store c.args.engine.now) c.args.publisher.now c.turn_away-in-Err.new.publisher
    c.requires.together t.history.0 t.history.1 t.none

pub returns-in-Err-serve_all-clause-found : goal.returns-in-Err-serve_all-clause-found
returns-in-Err-serve_all-clause-found g c = c.serve_all.ensures.found

pub returns-in-Err-clause-found : goal.returns-in-Err-clause-found
returns-in-Err-clause-found g c = refl

pub returns-in-Err-serve_all-clause-follows : goal.returns-in-Err-serve_all-clause-follows
returns-in-Err-serve_all-clause-follows g c = c.serve_all.ensures.follows

pub returns-in-Err-clause-follows : goal.returns-in-Err-clause-follows
returns-in-Err-clause-follows g c = follows_self g.S.Store c.args.engine.now

pub returns-in-Err-serve_all-clause-grows : goal.returns-in-Err-serve_all-clause-grows
returns-in-Err-serve_all-clause-grows g c =
    before_trans c.args.publisher.now c.serve_all.new.publisher c.turn_away.new.publisher c.serve_all.ensures.grows c.turn_away.ensures.grows

pub returns-in-Err-clause-grows : goal.returns-in-Err-clause-grows
returns-in-Err-clause-grows g c = c.turn_away-in-Err.ensures.grows

-- what waits is turned away together
pub returns-in-Err-serve_all-clause-whole : goal.returns-in-Err-serve_all-clause-whole
returns-in-Err-serve_all-clause-whole g c =
    takes_then c.args.most c.args.publisher.now c.serve_all.new.publisher c.turn_away.new.publisher c.serve_all.ensures.whole c.turn_away.ensures.whole

pub returns-in-Err-clause-whole : goal.returns-in-Err-clause-whole
returns-in-Err-clause-whole g c = c.turn_away-in-Err.ensures.whole

-- what is turned away lets go of nothing
pub returns-in-Err-serve_all-clause-over : goal.returns-in-Err-serve_all-clause-over
returns-in-Err-serve_all-clause-over g c over = subst (AreOver g.S.Store c.serve_all.new.engine) (sym c.turn_away.ensures.gone) (c.serve_all.ensures.over over)

pub returns-in-Err-clause-over : goal.returns-in-Err-clause-over
returns-in-Err-clause-over g c over = subst (AreOver g.S.Store c.args.engine.now) (sym c.turn_away-in-Err.ensures.gone) over
