use Rattle.std.proofs.Common.{rules, List, [], ◌∷◌, ◌++◌, ap, sym, ◌∙◌, subst, append-nil}
use Rattle.flow_hub.proofs.Growing.{before_trans}
use Rattle.flow_hub.proofs.Sound.{takes_none, takes_then}
use Rattle.flow_queues.specs.declared.refused.Refused.{Refused}
use Rattle.flow_serve.specs.Serving.{TurnsAway}
use Rattle.flow_serve.proofs.Serving.{turns_then}
use Rattle.flow_serve.proofs.Turning.{skips_more, skips_none}
use Rattle.flow_serve.proofs.server.turn_away.Goals as goal

pub loop-init : goal.loop-init
loop-init g c =
    let was = c.args.publisher.now in
    let e = c.close.ensures.ended in
    record {
      ended = e.ended;
      none = e.held ∙ c.requires.none;
      history = e.history;
      last = e.last;
      gone = e.gone;
      posted = e.posted;
      skipped = skips_none c.args.fault.now was.skipped c.close.new.self.skipped e.skipped;
      whole = takes_none c.args.most was c.close.new.self e.takes;
      turned = ([], e.refused ∙ sym (append-nil was.refused));
      grows = c.close.ensures.grows;
      next = search rules;
      ends = search rules;
    }

pub loop-preserved : goal.loop-preserved
loop-preserved g c =
    let i = c.loop.invariant in
    let mid = c.take.new.self in
    let new = c.refuse.new.self in
    let was = c.args.publisher.now.refused in
    let taken = c.take.ensures.taken in
    let told = c.refuse.ensures.refused in
    let rest = c.skip.ensures.skipped.rest in
    let behind = subst (λ (rs : List Refused). TurnsAway rs new.refused c.take.new.into.items) (taken.refused ∙ rest.refused) told.refused in
    record {
      ended = told.ended ∙ (taken.ended ∙ (rest.ended ∙ i.ended));
      none = told.held;
      history = told.history ∙ (taken.history ∙ (rest.history ∙ i.history));
      last = told.last ∙ (taken.last ∙ (rest.last ∙ i.last));
      gone = told.gone ∙ (taken.gone ∙ (rest.gone ∙ i.gone));
      posted = told.posted ∙ (taken.posted ∙ (c.skip.ensures.skipped.posted ∙ i.posted));
      skipped = skips_more c.args.fault.now c.args.publisher.now.skipped c.loop.publisher.skipped new.skipped i.skipped
          (told.skipped ∙ (taken.skipped ∙ c.skip.ensures.skipped.skipped));
      whole = takes_then c.args.most c.args.publisher.now mid new
          (takes_then c.args.most c.args.publisher.now c.skip.new.self mid
          (takes_then c.args.most c.args.publisher.now c.loop.publisher c.skip.new.self i.whole (takes_none c.args.most c.loop.publisher c.skip.new.self rest.takes))
          c.take.ensures.whole)
          (takes_none c.args.most mid new told.takes);
      turned = (i.turned.0 ++ c.take.new.into.items, turns_then was c.loop.publisher.refused new.refused i.turned.0 c.take.new.into.items i.turned.1 behind);
      grows = before_trans c.args.publisher.now mid new
          (before_trans c.args.publisher.now c.skip.new.self mid (before_trans c.args.publisher.now c.loop.publisher c.skip.new.self i.grows c.skip.ensures.grows) c.take.ensures.grows) c.refuse.ensures.grows;
      next = search rules;
      ends = search rules;
    }

-- nothing waits any more
pub returns-then-not-take-clause-skipped : goal.returns-then-not-take-clause-skipped
returns-then-not-take-clause-skipped g c =
    skips_more c.args.fault.now c.args.publisher.now.skipped c.loop.publisher.skipped c.take.new.self.skipped c.loop.invariant.skipped
    (c.take.ensures.taken.skipped ∙ c.skip.ensures.skipped.skipped)

pub returns-then-not-take-clause-gone : goal.returns-then-not-take-clause-gone
returns-then-not-take-clause-gone g c = c.take.ensures.taken.gone ∙ (c.skip.ensures.skipped.rest.gone ∙ c.loop.invariant.gone)

pub returns-then-not-take-clause-whole : goal.returns-then-not-take-clause-whole
returns-then-not-take-clause-whole g c =
    let was = c.args.publisher.now in
    let then = c.skip.new.self in
    takes_then c.args.most was then c.take.new.self
    (takes_then c.args.most was c.loop.publisher then c.loop.invariant.whole (takes_none c.args.most c.loop.publisher then c.skip.ensures.skipped.rest.takes))
    c.take.ensures.whole
