use Rattle.std.proofs.Common.{refl, sym}
use Rattle.flow_hub.proofs.Growing.{same_part}
use Rattle.flow_hub.proofs.Serving.{boarded_together, is_fresh, same_history}
use Rattle.flow_commit.specs.Keeping.{account_of}
use Rattle.flow_serve.proofs.Posted.{board_was, known_asked, known_behind, known_more, later_self, known_still, lets_none, posts_none, posts_one, whole_of}
use Rattle.flow_engine.proofs.Boarding.{board_still}
use Rattle.flow_serve.proofs.Serving.{same_base}
use Rattle.flow_serve.proofs.Turning.{no_memory_board}
use Rattle.flow_serve.proofs.server.try_board.Goals as goal

-- what the last board found posted is posted still
pub ask_board-requires : goal.ask_board-requires
ask_board-requires g c = record { still = λ again goes. known_asked g.S.Store c.args.engine.now c.args.publisher.now.gone c.args.publisher.now.posted c.posted.result.now c.posted.ensures (c.requires.known again) goes }

pub returns-in-Ok-post-clause-known : goal.returns-in-Ok-post-clause-known
returns-in-Ok-post-clause-known g c =
    let was = c.args.publisher.now.posted in
    let gone = c.args.publisher.now.gone in
    known_more g.S.Store c.ask_board.new.engine was _ c.post.new.self.posted gone c.post.new.self.gone c.in-Ok-post.ensures.left.posted c.in-Ok-post.ensures.left.rest.gone
    (known_behind g.S.Store c.args.engine.now c.ask_board.new.engine gone was c.posted.result.now c.posted.ensures c.ask_board.ensures.stayed.same.0 c.ask_board.ensures.owes)

pub returns-in-Err-post-clause-known : goal.returns-in-Err-post-clause-known
returns-in-Err-post-clause-known g c =
    let was = c.args.publisher.now.posted in
    let new = c.ask_board.new.engine in
    let gone = c.args.publisher.now.gone in
    known_still g.S.Store new new was c.post.new.self.posted gone c.post.new.self.gone (later_self g.S.Store new) (lets_none g.S.Store new gone c.post.new.self.gone (sym c.in-Err-post.ensures.refused.1.gone))
    refl (sym c.in-Err-post.ensures.refused.1.posted) (λ goes. goes)
    (known_behind g.S.Store c.args.engine.now new gone was c.posted.result.now c.posted.ensures c.ask_board.ensures.stayed.same.0 c.ask_board.ensures.owes)

pub returns-in-Err-clause-known : goal.returns-in-Err-clause-known
returns-in-Err-clause-known g c =
    known_behind g.S.Store c.args.engine.now c.ask_board.new.engine c.args.publisher.now.gone c.args.publisher.now.posted c.posted.result.now c.posted.ensures c.ask_board.ensures.stayed.same.0 c.ask_board.ensures.owes

-- the board was made of what is kept, which is what is published
pub post-requires : goal.post-requires
post-requires g c =
    record { fresh = is_fresh (account_of g.S.Store c.args.engine.now) c.args.publisher.now c.in-Ok.board c.posted.result.now c.requires.together c.posted.ensures c.in-Ok.ensures.counted c.in-Ok.ensures.names.1 }

-- nothing more is kept, and nothing published
pub returns-in-Ok-post-clause-together : goal.returns-in-Ok-post-clause-together
returns-in-Ok-post-clause-together g c =
    let same = c.ask_board.ensures.stayed.same in
    let base = same_base g.S.Store c.args.engine.now c.ask_board.new.engine same.2 c.ask_board.ensures.stayed.follows.0 in
    boarded_together (account_of g.S.Store c.args.engine.now) (account_of g.S.Store c.ask_board.new.engine) c.args.publisher.now c.post.new.self c.requires.together same.3 base c.in-Ok-post.ensures.left.rest

pub returns-in-Err-post-clause-together : goal.returns-in-Err-post-clause-together
returns-in-Err-post-clause-together g c =
    let same = c.ask_board.ensures.stayed.same in
    let base = same_base g.S.Store c.args.engine.now c.ask_board.new.engine same.2 c.ask_board.ensures.stayed.follows.0 in
    let was = c.args.publisher.now in
    boarded_together (account_of g.S.Store c.args.engine.now) (account_of g.S.Store c.ask_board.new.engine) was c.post.new.self c.requires.together same.3 base (same_history was c.post.new.self c.in-Err-post.ensures.refused.1)

pub returns-in-Err-clause-together : goal.returns-in-Err-clause-together
returns-in-Err-clause-together g c =
    let same = c.ask_board.ensures.stayed.same in
    let base = same_base g.S.Store c.args.engine.now c.ask_board.new.engine same.2 c.ask_board.ensures.stayed.follows.0 in
    let was = c.args.publisher.now in
    boarded_together (account_of g.S.Store c.args.engine.now) (account_of g.S.Store c.ask_board.new.engine) was was c.requires.together same.3 base (same_history was was (same_part was))

pub returns-in-Ok-post-clause-still : goal.returns-in-Ok-post-clause-still
returns-in-Ok-post-clause-still g c =
    let b = c.ask_board.ensures.stayed in
    board_still g.S.Store c.args.engine.now c.ask_board.new.engine b.same b.follows b.fit b.own b.halted

pub returns-in-Err-post-clause-still : goal.returns-in-Err-post-clause-still
returns-in-Err-post-clause-still g c =
    let b = c.ask_board.ensures.stayed in
    board_still g.S.Store c.args.engine.now c.ask_board.new.engine b.same b.follows b.fit b.own b.halted

pub returns-in-Err-clause-still : goal.returns-in-Err-clause-still
returns-in-Err-clause-still g c =
    let b = c.ask_board.ensures.stayed in
    board_still g.S.Store c.args.engine.now c.ask_board.new.engine b.same b.follows b.fit b.own b.halted

-- the board that was posted is that of the kept book at the moment that the clock told
pub returns-in-Ok-post-clause-posts : goal.returns-in-Ok-post-clause-posts
returns-in-Ok-post-clause-posts g c over =
    let tells = g.C.Clock.tells c.args.clock.now in
    let old = c.args.engine.now in
    let new = c.ask_board.new.engine in
    let was = c.args.publisher.now.posted in
    let b = c.in-Ok.ensures in
    let it = c.in-Ok.board in
    let gone = c.args.publisher.now.gone in
    let stayed = c.ask_board.ensures.stayed in
    let made = board_was g.S.Store tells old new was gone c.posted.result.now c.now.result it c.now.ensures stayed.same.3 stayed.same.2 stayed.fit b.counted c.posted.ensures over (λ fit. b.apart fit gone over) b.behind in
    posts_one g.S.Store tells new was c.post.new.self.posted (whole_of gone was it) made c.in-Ok-post.ensures.left.posted

pub returns-in-Err-post-clause-posts : goal.returns-in-Err-post-clause-posts
returns-in-Err-post-clause-posts g c over = posts_none g.S.Store (g.C.Clock.tells c.args.clock.now) c.ask_board.new.engine c.args.publisher.now.posted c.post.new.self.posted (sym c.in-Err-post.ensures.refused.1.posted)

pub returns-in-Err-clause-posts : goal.returns-in-Err-clause-posts
returns-in-Err-clause-posts g c over = posts_none g.S.Store (g.C.Clock.tells c.args.clock.now) c.ask_board.new.engine c.args.publisher.now.posted c.args.publisher.now.posted refl

-- what came of it
pub returns-in-Ok-post-clause-tried : goal.returns-in-Ok-post-clause-tried
returns-in-Ok-post-clause-tried g c over =
    let tells = g.C.Clock.tells c.args.clock.now in
    let b = c.in-Ok.ensures in
    let it = c.in-Ok.board in
    record {
      board = whole_of c.args.publisher.now.gone c.args.publisher.now.posted it;
      made = board_was g.S.Store tells c.args.engine.now c.ask_board.new.engine c.args.publisher.now.posted c.args.publisher.now.gone c.posted.result.now c.now.result it
          c.now.ensures c.ask_board.ensures.stayed.same.3 c.ask_board.ensures.stayed.same.2 c.ask_board.ensures.stayed.fit
          b.counted c.posted.ensures over (λ fit. b.apart fit c.args.publisher.now.gone over) b.behind;
      is = c.in-Ok-post.ensures.left.posted;
    }

pub returns-in-Err-post-clause-tried : goal.returns-in-Err-post-clause-tried
returns-in-Err-post-clause-tried g c over =
    (sym c.in-Err-post.ensures.refused.1.posted, no_memory_board g.S.Store c.args.engine.now c.ask_board.new.engine c.from.result c.from.ensures)

pub returns-in-Err-clause-tried : goal.returns-in-Err-clause-tried
returns-in-Err-clause-tried g c over = (refl, record { among = c.in-Err.ensures.among; cause = λ fit e. c.in-Err.ensures.cause fit e })

pub returns-in-Ok-post-clause-gone : goal.returns-in-Ok-post-clause-gone
returns-in-Ok-post-clause-gone g c = c.in-Ok-post.ensures.left.rest.gone

pub returns-in-Err-post-clause-gone : goal.returns-in-Err-post-clause-gone
returns-in-Err-post-clause-gone g c = sym c.in-Err-post.ensures.refused.1.gone
