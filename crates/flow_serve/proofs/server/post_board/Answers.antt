use Rattle.std.proofs.Common.{inl, inr, List, ◌∷◌, ap, ◌∙◌, refl, subst}
use Rattle.flow_base.specs.declared.fault.Fault.{Fault}
use Rattle.flow_base.specs.declared.task.Task.{Task}
use Rattle.flow_commit.specs.Keeping.{account_of}
use Rattle.flow_hub.proofs.Growing.{before_trans}
use Rattle.flow_serve.specs.Posting.{PostsOne}
use Rattle.flow_serve.proofs.Posted.{known_still, later_self, lets_none, over_between, posts_still, posts_then, still_later}
use Rattle.flow_serve.proofs.Serving.{together_still}
use Rattle.flow_engine.proofs.Boarding.{still_then}
use Rattle.flow_serve.proofs.Turning.{refused_twice}
use Rattle.flow_serve.proofs.server.post_board.Goals as goal

-- the first one was posted
pub returns-in_default-clause-turn : goal.returns-in_default-clause-turn
returns-in_default-clause-turn g c over = inl (c.in_default.ensures.tried over, c.try_board.ensures.skipped)

-- or the second
pub returns-in_default-try_board-clause-turn : goal.returns-in_default-try_board-clause-turn
returns-in_default-try_board-clause-turn g c over =
    let first = c.in-Err.ensures.tried over in
    let then = over_between g.S.Store c.args.engine.now c.try_board.new.engine c.args.publisher.now.gone c.try_board.new.publisher.gone c.try_board.ensures.still c.try_board.ensures.gone over in
    let one = c.in_default-try_board.ensures.tried then in
    inl (
      subst (λ (ts : List Task). PostsOne g.S.Store (g.C.Clock.tells c.args.clock.now) c.try_board-2.new.engine ts c.try_board-2.new.publisher.posted) first.0 one,
      c.try_board-2.ensures.skipped ∙ c.try_board.ensures.skipped,
    )

pub returns-in_default-try_board-clause-grows : goal.returns-in_default-try_board-clause-grows
returns-in_default-try_board-clause-grows g c = before_trans c.args.publisher.now c.try_board.new.publisher c.try_board-2.new.publisher c.try_board.ensures.grows c.try_board-2.ensures.grows

pub returns-in_default-try_board-clause-still : goal.returns-in_default-try_board-clause-still
returns-in_default-try_board-clause-still g c =
    still_then g.S.Store c.args.engine.now c.try_board.new.engine c.try_board-2.new.engine c.try_board.ensures.still c.try_board-2.ensures.still

pub returns-in_default-try_board-clause-posts : goal.returns-in_default-try_board-clause-posts
returns-in_default-try_board-clause-posts g c over =
    let mid = c.try_board.new.engine in
    let then = over_between g.S.Store c.args.engine.now mid c.args.publisher.now.gone c.try_board.new.publisher.gone c.try_board.ensures.still c.try_board.ensures.gone over in
    let new = c.try_board-2.new.engine in
    posts_then g.S.Store (g.C.Clock.tells c.args.clock.now) mid new c.args.publisher.now.posted c.try_board.new.publisher.posted c.try_board-2.new.publisher.posted
    (still_later g.S.Store mid new c.try_board-2.ensures.still) (c.try_board.ensures.posts over) (c.try_board-2.ensures.posts then)

-- or it was refused twice, and both faults are noted
pub returns-clause-turn : goal.returns-clause-turn
returns-clause-turn g c over =
    let first = c.in-Err.ensures.tried over in
    let last = c.in-Err-try_board.ensures.tried (over_between g.S.Store c.args.engine.now c.try_board.new.engine c.args.publisher.now.gone c.try_board.new.publisher.gone c.try_board.ensures.still c.try_board.ensures.gone over) in
    let one = c.skip.ensures.skipped in
    let two = c.skip-2.ensures.skipped in
    let missed = c.try_board-2.ensures.skipped ∙ c.try_board.ensures.skipped in
    inr (
      two.posted ∙ (one.posted ∙ (last.0 ∙ first.0)),
      (
        c.in-Err.first,
        c.in-Err-try_board.last,
        refused_twice g.S.Store c.args.engine.now c.try_board.new.engine c.try_board-2.new.engine c.in-Err.first c.in-Err-try_board.last
            c.try_board.ensures.still c.try_board-2.ensures.still first.1 last.1,
        two.skipped ∙ ap (λ (fs : List Fault). c.in-Err-try_board.last ∷ fs) (one.skipped ∙ ap (λ (fs : List Fault). c.in-Err.first ∷ fs) missed),
      ),
    )

pub returns-clause-together : goal.returns-clause-together
returns-clause-together g c =
    let one = c.skip.ensures.skipped.rest in
    let two = c.skip-2.ensures.skipped.rest in
    let was = c.try_board-2.ensures.together in
    together_still (account_of g.S.Store c.try_board-2.new.engine) c.try_board-2.new.publisher c.skip-2.new.self was
    (two.history ∙ one.history) (two.last ∙ one.last) (two.held ∙ (one.held ∙ was.none))

pub returns-clause-boarded : goal.returns-clause-boarded
returns-clause-boarded g c = c.skip-2.ensures.skipped.boarded

pub returns-clause-refused : goal.returns-clause-refused
returns-clause-refused g c =
    c.skip-2.ensures.skipped.rest.refused ∙ (c.skip.ensures.skipped.rest.refused ∙ (c.try_board-2.ensures.refused ∙ c.try_board.ensures.refused))

pub returns-clause-takes : goal.returns-clause-takes
returns-clause-takes g c = c.skip-2.ensures.skipped.rest.takes ∙ (c.skip.ensures.skipped.rest.takes ∙ (c.try_board-2.ensures.takes ∙ c.try_board.ensures.takes))

pub returns-clause-ended : goal.returns-clause-ended
returns-clause-ended g c = c.skip-2.ensures.skipped.rest.ended ∙ (c.skip.ensures.skipped.rest.ended ∙ (c.try_board-2.ensures.ended ∙ c.try_board.ensures.ended))

pub returns-clause-grows : goal.returns-clause-grows
returns-clause-grows g c =
    let was = c.args.publisher.now in
    let then = c.try_board-2.new.publisher in
    before_trans was c.skip.new.self c.skip-2.new.self
    (before_trans was then c.skip.new.self (before_trans was c.try_board.new.publisher then c.try_board.ensures.grows c.try_board-2.ensures.grows) c.skip.ensures.grows)
    c.skip-2.ensures.grows

pub returns-clause-still : goal.returns-clause-still
returns-clause-still g c =
    still_then g.S.Store c.args.engine.now c.try_board.new.engine c.try_board-2.new.engine c.try_board.ensures.still c.try_board-2.ensures.still

pub returns-clause-posts : goal.returns-clause-posts
returns-clause-posts g c over =
    let tells = g.C.Clock.tells c.args.clock.now in
    let was = c.args.publisher.now.posted in
    let mid = c.try_board.new.engine in
    let new = c.try_board-2.new.engine in
    let still = over_between g.S.Store c.args.engine.now mid c.args.publisher.now.gone c.try_board.new.publisher.gone c.try_board.ensures.still c.try_board.ensures.gone over in
    let then = c.try_board-2.new.publisher.posted in
    let more = posts_then g.S.Store tells mid new was c.try_board.new.publisher.posted then (still_later g.S.Store mid new c.try_board-2.ensures.still) (c.try_board.ensures.posts over) (c.try_board-2.ensures.posts still) in
    posts_still g.S.Store tells new new was then c.skip-2.new.self.posted (later_self g.S.Store new) more (c.skip-2.ensures.skipped.posted ∙ c.skip.ensures.skipped.posted)

-- what the next one may rest on
pub try_board-requires-2-clause-known : goal.try_board-requires-2-clause-known
try_board-requires-2-clause-known g c = λ _. c.try_board.ensures.known

pub returns-clause-known : goal.returns-clause-known
returns-clause-known g c =
    let new = c.try_board-2.new.engine in
    let was = c.try_board-2.new.publisher.gone in
    known_still g.S.Store new new c.try_board-2.new.publisher.posted c.skip-2.new.self.posted was c.skip-2.new.self.gone (later_self g.S.Store new)
    (lets_none g.S.Store new was c.skip-2.new.self.gone (c.skip-2.ensures.skipped.rest.gone ∙ c.skip.ensures.skipped.rest.gone))
    refl (c.skip-2.ensures.skipped.posted ∙ c.skip.ensures.skipped.posted) (λ goes. goes)
    c.try_board-2.ensures.known

pub returns-in_default-try_board-clause-gone : goal.returns-in_default-try_board-clause-gone
returns-in_default-try_board-clause-gone g c = c.try_board-2.ensures.gone ∙ c.try_board.ensures.gone

pub returns-clause-gone : goal.returns-clause-gone
returns-clause-gone g c = c.skip-2.ensures.skipped.rest.gone ∙ (c.skip.ensures.skipped.rest.gone ∙ (c.try_board-2.ensures.gone ∙ c.try_board.ensures.gone))
