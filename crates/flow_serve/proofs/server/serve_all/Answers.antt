use Rattle.std.proofs.Common.{rules, ◌≡◌, ◌≤◌, ℕ, true, suc, List, [], ◌∷◌, ◌++◌, length, sym, ap, ◌∙◌, subst, true≢false}
use Rattle.std.proofs.lemmas.Result.{err_from_is_err_and}
use Rattle.flow_base.specs.declared.submission.Taken.{Taken}
use Rattle.flow_commit.specs.Keeping.{account_of}
use Rattle.flow_commit.specs.Shutting.{AreOver}
use Rattle.flow_queues.specs.declared.refused.Refused.{Refused}
use Rattle.flow_hub.specs.Knowing.{IsOver}
use Rattle.flow_hub.proofs.Growing.{before_trans}
use Rattle.flow_hub.proofs.Sound.{takes_none, takes_then}
use Rattle.flow_serve.specs.Serving.{GivesUp, HasAnswered, IsBatch, StopsAt}
use Rattle.flow_serve.specs.Posting.{LetsGo, Posts}
use Rattle.flow_serve.proofs.Posted.{answered_later, known_still, later_self, over_between, over_gone, posts_still, posts_then, still_later}
use Rattle.flow_serve.proofs.Served.{Served, boarded_done, boarded_first, boarded_last, boarded_more, has_served, served_more}
use Rattle.flow_engine.proofs.Boarding.{follows_then}
use Rattle.flow_serve.proofs.Serving.{gives_none, gives_then, stops_behind, together_still}
use Rattle.flow_serve.proofs.server.serve_all.Goals as goal

-- the batch that stops the engine is behind those that didn't
pub returns-in_err-commit_taken-clause-stops : goal.returns-in_err-commit_taken-clause-stops
returns-in_err-commit_taken-clause-stops g c =
    let i = c.loop.invariant in
    let mid = c.loop.engine in
    let new = c.commit_taken.new.engine in
    let was = c.args.publisher.now.refused in
    let then = c.take.new.self.refused in
    let now = c.commit_taken.new.publisher.refused in
    let hand = c.take.new.into.items in
    let fault = c.in_err-commit_taken.field-0.0 in
    let same = c.take.ensures.taken.refused in
    let some : (1 ≤ length hand) × (length hand ≤ 64) = search rules in
    let stop = subst (λ (ts : List Taken). StopsAt mid new then now ts fault) c.of.ensures c.in_err-commit_taken.ensures.stops in
    let still : mid.halted ≡ true → (mid ≡ c.args.engine.now) × (then ≡ was) = λ h. let back = i.still h in (back.0, same ∙ back.1) in
    let p = err_from_is_err_and c.from_residual.result c.from_residual.ensures.1 in
    rw (p.1, p.2) (stops_behind c.args.engine.now mid new was then now hand fault i.halted still (subst (GivesUp was) (sym same) i.gives) some stop)

-- this batch is the last one
pub returns-in_err-commit_taken-clause-served : goal.returns-in_err-commit_taken-clause-served
returns-in_err-commit_taken-clause-served g c =
    let old = c.args.engine.now in
    let mid = c.loop.engine in
    let new = c.commit_taken.new.engine in
    let was = c.args.publisher.now.refused in
    let now = c.commit_taken.new.publisher.refused in
    let one = subst (λ (rs : List Refused). HasAnswered g.S.Store mid new rs now c.of.result) c.take.ensures.taken.refused c.commit_taken.ensures.answered in
    let hand = c.take.new.into.items in
    let some : (1 ≤ length hand) × (length hand ≤ 64) = search rules in
    let t = c.loop.invariant.turned in
    has_served g.S.Store old new was now (suc t.count) (served_more g.S.Store old mid new was c.loop.publisher.refused now t.count
    t.served c.of.result (subst IsBatch (sym c.of.ensures) some) one)

pub returns-in_err-commit_taken-clause-boards : goal.returns-in_err-commit_taken-clause-boards
returns-in_err-commit_taken-clause-boards g c over =
    let old = c.args.engine.now in
    let mid = c.loop.engine in
    let new = c.commit_taken.new.engine in
    let was = c.args.publisher.now.refused in
    let then = c.loop.publisher.refused in
    let now = c.commit_taken.new.publisher in
    let first = c.args.publisher.now.posted in
    let tells = g.C.Clock.tells c.args.clock.now in
    let one = subst (λ (rs : List Refused). HasAnswered g.S.Store mid new rs now.refused c.of.result) c.take.ensures.taken.refused c.commit_taken.ensures.answered in
    let hand = c.take.new.into.items in
    let some : (1 ≤ length hand) × (length hand ≤ 64) = search rules in
    let p = err_from_is_err_and c.from_residual.result c.from_residual.ensures.1 in
    rw (p.1) (boarded_last g.S.Store tells old was first c.args.publisher.now.skipped (AreOver g.S.Store c.args.engine.now c.args.publisher.now.gone) mid new new then now.refused now.refused
    c.loop.publisher.posted c.loop.publisher.skipped c.of.result
    (subst IsBatch (sym c.of.ensures) some) c.loop.invariant.turned one c.commit_taken.ensures.found
    now.posted now.skipped (c.commit_taken.ensures.posted ∙ c.take.ensures.taken.posted)
    (c.commit_taken.ensures.skipped ∙ c.take.ensures.taken.skipped) over)

-- the hub is closed, and nothing was taken any more
pub returns-then-not-take-clause-served : goal.returns-then-not-take-clause-served
returns-then-not-take-clause-served g c =
    let was = c.args.publisher.now.refused in
    let t = c.loop.invariant.turned in
    let served = subst (λ (rs : List Refused). Served g.S.Store c.args.engine.now c.loop.engine was rs t.count)
    (sym c.take.ensures.taken.refused) t.served in
    has_served g.S.Store c.args.engine.now c.loop.engine was c.take.new.self.refused t.count served

pub returns-then-not-take-clause-boards : goal.returns-then-not-take-clause-boards
returns-then-not-take-clause-boards g c over =
    let first = c.args.publisher.now.posted in
    let tells = g.C.Clock.tells c.args.clock.now in
    boarded_done g.S.Store tells c.args.engine.now c.args.publisher.now.refused first c.args.publisher.now.skipped (AreOver g.S.Store c.args.engine.now c.args.publisher.now.gone) c.loop.engine
    c.loop.publisher.refused c.take.new.self.refused c.loop.publisher.posted c.take.new.self.posted
    c.loop.publisher.skipped c.take.new.self.skipped
    c.take.ensures.taken.refused c.take.ensures.taken.posted c.take.ensures.taken.skipped c.loop.invariant.turned over

pub returns-in_err-commit_taken-clause-grows : goal.returns-in_err-commit_taken-clause-grows
returns-in_err-commit_taken-clause-grows g c =
    let mid = c.take.new.self in
    let now = c.commit_taken.new.publisher in
    before_trans c.args.publisher.now mid now (before_trans c.args.publisher.now c.loop.publisher mid c.loop.invariant.grows c.take.ensures.grows) c.commit_taken.ensures.grows

pub loop-init : goal.loop-init
loop-init g c =
    let b = c.post_board.ensures in
    record {
      together = b.together;
      known = b.known;
      over = λ sure. over_between g.S.Store c.args.engine.now c.post_board.new.engine c.args.publisher.now.gone c.post_board.new.publisher.gone b.still b.gone sure;
      halted = b.still.halted;
      still = λ h. (b.still.nothing (sym b.still.halted ∙ h), b.refused);
      turned = boarded_first g.S.Store (g.C.Clock.tells c.args.clock.now) c.args.engine.now c.args.publisher.now.refused
          c.args.publisher.now.posted c.args.publisher.now.skipped (AreOver g.S.Store c.args.engine.now c.args.publisher.now.gone) c.post_board.new.engine c.post_board.new.publisher.refused
          c.post_board.new.publisher.posted c.post_board.new.publisher.skipped b.still b.refused b.turn;
      whole = takes_none c.args.most c.args.publisher.now c.post_board.new.publisher b.takes;
      gives = gives_none c.args.publisher.now.refused c.post_board.new.publisher.refused b.refused;
      posts = b.posts;
      found = b.still.found;
      follows = b.still.follows;
      grows = b.grows;
      boarded = b.boarded;
      ended = b.ended;
      empty = search rules;
      room = search rules;
      next = search rules;
      ends = search rules;
    }

pub loop-preserved : goal.loop-preserved
loop-preserved g c =
    let i = c.loop.invariant in
    let mid = c.take.new.self in
    let old = c.args.engine.now in
    let kept = c.commit_taken.new.engine in
    let told = c.commit_taken.new.publisher in
    let b = c.post_board-in-loop.ensures in
    let go = c.in_ok-commit_taken.ensures.goes_on in
    let was = c.args.publisher.now.refused in
    let one = subst (λ (rs : List Refused). HasAnswered g.S.Store c.loop.engine kept rs told.refused c.of.result) c.take.ensures.taken.refused c.commit_taken.ensures.answered in
    let hand = c.take.new.into.items in
    let some : (1 ≤ length hand) × (length hand ≤ 64) = search rules in
    let tells = g.C.Clock.tells c.args.clock.now in
    let posted = c.args.publisher.now.posted in
    let later = answered_later g.S.Store c.loop.engine kept c.loop.publisher.refused told.refused c.of.result one c.commit_taken.ensures.found in
    let Sure : Type 0 = AreOver g.S.Store c.args.engine.now c.args.publisher.now.gone in
    let over : Sure → AreOver g.S.Store kept told.gone = λ sure. over_gone g.S.Store c.loop.engine kept mid.gone told.gone later c.commit_taken.ensures.lets_go (subst (AreOver g.S.Store c.loop.engine) (sym c.take.ensures.taken.gone) (i.over sure)) in
    let committed : Sure → Posts g.S.Store tells kept posted told.posted = λ sure. posts_still g.S.Store tells c.loop.engine kept posted c.loop.publisher.posted told.posted later (i.posts sure) (c.commit_taken.ensures.posted ∙ c.take.ensures.taken.posted) in
    let gives = gives_then was mid.refused told.refused (subst (GivesUp was) (sym c.take.ensures.taken.refused) i.gives) c.in_ok-commit_taken.ensures.given_up in
    record {
      together = b.together;
      known = b.known;
      over = λ sure. over_between g.S.Store kept c.post_board-in-loop.new.engine told.gone c.post_board-in-loop.new.publisher.gone b.still b.gone (over sure);
      halted = b.still.halted ∙ (go.1 ∙ (sym go.0 ∙ i.halted));
      still = λ h. absurd (true≢false (sym h ∙ (b.still.halted ∙ go.1)));
      gives = subst (GivesUp was) (sym b.refused) gives;
      whole = takes_then c.args.most c.args.publisher.now mid c.post_board-in-loop.new.publisher
          (takes_then c.args.most c.args.publisher.now c.loop.publisher mid i.whole c.take.ensures.whole)
          (takes_none c.args.most mid c.post_board-in-loop.new.publisher (b.takes ∙ c.commit_taken.ensures.takes));
      turned = boarded_more g.S.Store tells old was posted c.args.publisher.now.skipped (AreOver g.S.Store c.args.engine.now c.args.publisher.now.gone) c.loop.engine kept c.post_board-in-loop.new.engine
          c.loop.publisher.refused told.refused c.post_board-in-loop.new.publisher.refused c.loop.publisher.posted
          c.loop.publisher.skipped c.of.result
          (subst IsBatch (sym c.of.ensures) some) i.turned one c.commit_taken.ensures.found told.posted
          c.post_board-in-loop.new.publisher.posted told.skipped c.post_board-in-loop.new.publisher.skipped
          (c.commit_taken.ensures.posted ∙ c.take.ensures.taken.posted) (c.commit_taken.ensures.skipped ∙ c.take.ensures.taken.skipped)
          (go.1 ∙ (sym go.0 ∙ i.halted)) b.still b.refused (λ sure. b.turn (over sure));
      posts = λ sure. posts_then g.S.Store tells kept c.post_board-in-loop.new.engine posted told.posted c.post_board-in-loop.new.publisher.posted
          (still_later g.S.Store kept c.post_board-in-loop.new.engine b.still) (committed sure) (b.posts (over sure));
      found = b.still.found ∙ (c.commit_taken.ensures.found ∙ i.found);
      follows = follows_then g.S.Store c.args.engine.now kept c.post_board-in-loop.new.engine (follows_then g.S.Store c.args.engine.now c.loop.engine kept i.follows c.commit_taken.ensures.follows) b.still.follows;
      grows =
          before_trans c.args.publisher.now told c.post_board-in-loop.new.publisher
          (before_trans c.args.publisher.now mid told (before_trans c.args.publisher.now c.loop.publisher mid i.grows c.take.ensures.grows) c.commit_taken.ensures.grows) b.grows;
      boarded = b.boarded;
      ended = b.ended ∙ (c.commit_taken.ensures.ended ∙ (c.take.ensures.taken.ended ∙ i.ended));
      empty = search rules;
      room = search rules;
      next = search rules;
      ends = search rules;
    }

-- what is taken and answered posts nothing
pub returns-then-not-take-clause-posts : goal.returns-then-not-take-clause-posts
returns-then-not-take-clause-posts g c over =
    let mid = c.loop.engine in
    posts_still g.S.Store (g.C.Clock.tells c.args.clock.now) mid mid c.args.publisher.now.posted c.loop.publisher.posted c.take.new.self.posted (later_self g.S.Store mid) (c.loop.invariant.posts over) c.take.ensures.taken.posted

pub returns-in_err-commit_taken-clause-posts : goal.returns-in_err-commit_taken-clause-posts
returns-in_err-commit_taken-clause-posts g c over =
    let mid = c.loop.engine in
    let new = c.commit_taken.new.engine in
    let then = c.loop.publisher.refused in
    let now = c.commit_taken.new.publisher in
    let one = subst (λ (rs : List Refused). HasAnswered g.S.Store mid new rs now.refused c.of.result) c.take.ensures.taken.refused c.commit_taken.ensures.answered in
    let later = answered_later g.S.Store mid new then now.refused c.of.result one c.commit_taken.ensures.found in
    posts_still g.S.Store (g.C.Clock.tells c.args.clock.now) mid new c.args.publisher.now.posted c.loop.publisher.posted now.posted later (c.loop.invariant.posts over) (c.commit_taken.ensures.posted ∙ c.take.ensures.taken.posted)

-- nothing here closes the hub
pub returns-then-not-take-clause-ended : goal.returns-then-not-take-clause-ended
returns-then-not-take-clause-ended g c = c.take.ensures.taken.ended ∙ c.loop.invariant.ended

pub returns-in_err-commit_taken-clause-ended : goal.returns-in_err-commit_taken-clause-ended
returns-in_err-commit_taken-clause-ended g c = c.commit_taken.ensures.ended ∙ (c.take.ensures.taken.ended ∙ c.loop.invariant.ended)

-- what is taken stands beside what the engine has kept
pub commit_taken-requires : goal.commit_taken-requires
commit_taken-requires g c =
    let i = c.loop.invariant.together in
    let t = c.take.ensures.taken in
    record {
      hand = record {
        log = i.log ∙ sym t.history;
        over = subst (λ ks. IsOver ks (account_of g.S.Store c.loop.engine ∷ [])) (sym t.last) i.over;
        taken = t.held ∙ (ap (λ (ts : List Taken). ts ++ c.take.new.into.items) i.none ∙ sym c.of.ensures);
      };
    }

pub post_board-requires-clause-known : goal.post_board-requires-clause-known
post_board-requires-clause-known g c = λ again. absurd (true≢false (sym again))

pub post_board-requires-in-loop-clause-together : goal.post_board-requires-in-loop-clause-together
post_board-requires-in-loop-clause-together g c = c.commit_taken.ensures.together

-- what the last board found posted is posted still
pub post_board-requires-in-loop-clause-known : goal.post_board-requires-in-loop-clause-known
post_board-requires-in-loop-clause-known g c =
    let told = c.commit_taken.new.publisher in
    let kept = c.commit_taken.new.engine in
    let one = subst (λ (rs : List Refused). HasAnswered g.S.Store c.loop.engine kept rs told.refused c.of.result) c.take.ensures.taken.refused c.commit_taken.ensures.answered in
    let later = answered_later g.S.Store c.loop.engine kept c.loop.publisher.refused told.refused c.of.result one c.commit_taken.ensures.found in
    λ _. known_still g.S.Store c.loop.engine kept c.loop.publisher.posted told.posted c.loop.publisher.gone told.gone later
    (subst (λ (runs : List ℕ). LetsGo g.S.Store kept runs told.gone) c.take.ensures.taken.gone c.commit_taken.ensures.lets_go) c.commit_taken.ensures.still
    (c.commit_taken.ensures.posted ∙ c.take.ensures.taken.posted) (λ _. c.in_ok-commit_taken.ensures.goes_on.0) c.loop.invariant.known

pub returns-then-not-take-clause-together : goal.returns-then-not-take-clause-together
returns-then-not-take-clause-together g c =
    let i = c.loop.invariant.together in
    let t = c.take.ensures.taken in
    let none = c.take.ensures.none c.if-not-take.true in
    together_still (account_of g.S.Store c.loop.engine) c.loop.publisher c.take.new.self i t.history t.last
    (t.held ∙ (ap (λ (ts : List Taken). ts ++ c.take.new.into.items) i.none ∙ none.0))

pub returns-then-not-take-clause-given_up : goal.returns-then-not-take-clause-given_up
returns-then-not-take-clause-given_up g c = subst (GivesUp c.args.publisher.now.refused) (sym c.take.ensures.taken.refused) c.loop.invariant.gives

pub returns-then-not-take-clause-goes_on : goal.returns-then-not-take-clause-goes_on
returns-then-not-take-clause-goes_on g c = c.loop.invariant.halted

pub returns-then-not-take-clause-found : goal.returns-then-not-take-clause-found
returns-then-not-take-clause-found g c = c.loop.invariant.found

pub returns-then-not-take-clause-follows : goal.returns-then-not-take-clause-follows
returns-then-not-take-clause-follows g c = c.loop.invariant.follows

pub returns-then-not-take-clause-grows : goal.returns-then-not-take-clause-grows
returns-then-not-take-clause-grows g c = before_trans c.args.publisher.now c.loop.publisher c.take.new.self c.loop.invariant.grows c.take.ensures.grows

pub returns-in_err-commit_taken-clause-together : goal.returns-in_err-commit_taken-clause-together
returns-in_err-commit_taken-clause-together g c = c.commit_taken.ensures.together

pub returns-in_err-commit_taken-clause-found : goal.returns-in_err-commit_taken-clause-found
returns-in_err-commit_taken-clause-found g c = c.commit_taken.ensures.found ∙ c.loop.invariant.found

pub returns-in_err-commit_taken-clause-follows : goal.returns-in_err-commit_taken-clause-follows
returns-in_err-commit_taken-clause-follows g c =
    follows_then g.S.Store c.args.engine.now c.loop.engine c.commit_taken.new.engine c.loop.invariant.follows c.commit_taken.ensures.follows

-- what is taken is all that waits, or as many as may be
pub returns-then-not-take-clause-whole : goal.returns-then-not-take-clause-whole
returns-then-not-take-clause-whole g c =
    takes_then c.args.most c.args.publisher.now c.loop.publisher c.take.new.self c.loop.invariant.whole c.take.ensures.whole

pub returns-in_err-commit_taken-clause-whole : goal.returns-in_err-commit_taken-clause-whole
returns-in_err-commit_taken-clause-whole g c =
    let mid = c.take.new.self in
    let now = c.commit_taken.new.publisher in
    takes_then c.args.most c.args.publisher.now mid now
    (takes_then c.args.most c.args.publisher.now c.loop.publisher mid c.loop.invariant.whole c.take.ensures.whole)
    (takes_none c.args.most mid now c.commit_taken.ensures.takes)

-- what is gone is over
pub returns-then-not-take-clause-over : goal.returns-then-not-take-clause-over
returns-then-not-take-clause-over g c over = subst (AreOver g.S.Store c.loop.engine) (sym c.take.ensures.taken.gone) (c.loop.invariant.over over)

pub returns-in_err-commit_taken-clause-over : goal.returns-in_err-commit_taken-clause-over
returns-in_err-commit_taken-clause-over g c over =
    let kept = c.commit_taken.new.engine in
    let told = c.commit_taken.new.publisher in
    let one = subst (λ (rs : List Refused). HasAnswered g.S.Store c.loop.engine kept rs told.refused c.of.result) c.take.ensures.taken.refused c.commit_taken.ensures.answered in
    let later = answered_later g.S.Store c.loop.engine kept c.loop.publisher.refused told.refused c.of.result one c.commit_taken.ensures.found in
    over_gone g.S.Store c.loop.engine kept c.take.new.self.gone told.gone later c.commit_taken.ensures.lets_go (subst (AreOver g.S.Store c.loop.engine) (sym c.take.ensures.taken.gone) (c.loop.invariant.over over))
