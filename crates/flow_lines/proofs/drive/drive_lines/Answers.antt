use Rattle.std.proofs.Common.{arith, rules, inl, inr, refl, ◌∙◌}
use Rattle.flow_lines.specs.Answering.{HasFew, IsFull, OfBatch}
use Rattle.flow_lines.specs.Counting.{IsCounted}
use Rattle.flow_lines.proofs.Answering.{all_answered, begins, both_within, goes_on, stops_later}
use Rattle.flow_lines.proofs.Counting.{counted_none, counted_then}
use Rattle.flow_lines.proofs.Later.{among_too, answered_too, batch_gives, cause_too, some_too, stops_too, within_too}
use Rattle.flow_lines.proofs.Stopping.{stopped_later}
use Rattle.flow_lines.proofs.Ends.{gives_none, gives_on}
use Rattle.flow_lines.proofs.SomeLines.{some_begin, some_end, some_more, some_still, some_stop_later}
use Rattle.flow_lines.proofs.drive.drive_lines.Goals as goal

pub loop-init : goal.loop-init
loop-init g c =
    let old = c.args.engine.now in
    record {
      answered = λ sure. begins _ _ (IsCounted g.E.Answering old old) _ _ _ _ (counted_none g.E.Answering old old _ (g.met.E.Answering.failures_still old old sure (g.met.E.Answering.follows_self old)));
      lines = λ sure. some_begin _ _ _ (IsCounted g.E.Answering old old) _ _ (counted_none g.E.Answering old old _ (g.met.E.Answering.failures_still old old sure (g.met.E.Answering.follows_self old)));
      within = inl (omega arith);
      given = gives_none _;
      input = refl;
      output = refl;
      since = λ e b cs s h. h;
      sure = λ s. s;
      follows = λ a f. f;
    }

pub loop-preserved : goal.loop-preserved
loop-preserved g c =
    let old = c.args.engine.now in
    let mid = c.loop.engine in
    let new = c.answer_next.new.engine in
    let on = c.answer_next.ensures.follows mid (g.met.E.Answering.follows_self mid) in
    let since = c.loop.invariant.follows old (g.met.E.Answering.follows_self old) in
    let before = OfBatch c.args.most (g.E.Answering.gives_up old mid) in
    let here = OfBatch c.args.most (g.E.Answering.gives_up mid new) in
    let all = OfBatch c.args.most (g.E.Answering.gives_up old new) in
    let still = batch_gives c.args.most (g.E.Answering.gives_up old mid) (g.E.Answering.gives_up old new) (λ b cs k. g.met.E.Answering.gives_up_still old mid new b cs k on) in
    let too = batch_gives c.args.most (g.E.Answering.gives_up mid new) (g.E.Answering.gives_up old new) (λ b cs k. g.met.E.Answering.gives_up_since old mid new b cs k since on) in
    let were = IsCounted g.E.Answering old mid in
    let are = IsCounted g.E.Answering mid new in
    let count = IsCounted g.E.Answering old new in
    let more = rw c.in-Ok-Some.field-0-is at c.in-Ok-Some.ensures.answered in
    let some = rw c.in-Ok-Some.field-0-is at c.in-Ok-Some.ensures.lines in
    let within = rw c.in-Ok-Some.field-0-is at c.in-Ok-Some.ensures.within in
    record {
      answered = λ sure. goes_on _ all count (IsFull c.args.most) were are
          (λ b b1 ps qs. counted_then g.E.Answering old mid new b b1 ps qs (λ k cs. g.met.E.Answering.excuses_still old mid new k cs sure on) (λ k cs. g.met.E.Answering.excuses_since old mid new k cs sure since on))
          _ _ _ _ _ _ _ _ _ _ _ _ (answered_too before all still _ (IsFull c.args.most) were _ _ _ _ _ _ _ (c.loop.invariant.answered (c.answer_next.ensures.sure sure))) (answered_too here all too _ (IsFull c.args.most) are _ _ _ _ _ _ _ (more sure)) (search rules);
      lines = λ sure. some_more _ all c.args.most count were are
          (λ b b1 ps qs. counted_then g.E.Answering old mid new b b1 ps qs (λ k cs. g.met.E.Answering.excuses_still old mid new k cs sure on) (λ k cs. g.met.E.Answering.excuses_since old mid new k cs sure since on))
          _ _ _ _ _ _ _ _ _ _ (some_too before all still _ (HasFew c.args.most) were _ _ _ _ _ _ (c.loop.invariant.lines (c.answer_next.ensures.sure sure))) (some_too here all too _ (HasFew c.args.most) are _ _ _ _ _ _ (some sure)) (search rules);
      within = both_within all _ _ _ (within_too before all still _ c.loop.invariant.within) (within_too here all too _ within) (search rules);
      given = gives_on _ 1 _ _ _ _ (omega arith) c.loop.invariant.given (rw c.in-Ok-Some.field-0-is at c.in-Ok-Some.ensures.given);
      input = c.in-Ok-Some.ensures.input ∙ c.loop.invariant.input;
      output = c.in-Ok-Some.ensures.output ∙ c.loop.invariant.output;
      since = λ e b cs s h. c.loop.invariant.since e b cs s (c.in-Ok-Some.ensures.since e b cs s h);
      sure = λ s. c.loop.invariant.sure (c.answer_next.ensures.sure s);
      follows = λ a f. c.answer_next.ensures.follows a (c.loop.invariant.follows a f);
    }

pub returns-in-Err-clause-stopped : goal.returns-in-Err-clause-stopped
returns-in-Err-clause-stopped g c sure =
    let old = c.args.engine.now in
    let mid = c.loop.engine in
    let new = c.answer_next.new.engine in
    let on = c.answer_next.ensures.follows mid (g.met.E.Answering.follows_self mid) in
    let since = c.loop.invariant.follows old (g.met.E.Answering.follows_self old) in
    let all = OfBatch c.args.most (g.E.Answering.gives_up old new) in
    let still = batch_gives c.args.most (g.E.Answering.gives_up old mid) (g.E.Answering.gives_up old new) (λ b cs k. g.met.E.Answering.gives_up_still old mid new b cs k on) in
    let too = batch_gives c.args.most (g.E.Answering.gives_up mid new) (g.E.Answering.gives_up old new) (λ b cs k. g.met.E.Answering.gives_up_since old mid new b cs k since on) in
    let were = IsCounted g.E.Answering old mid in
    let are = IsCounted g.E.Answering mid new in
    let count = IsCounted g.E.Answering old new in
    let late = OfBatch c.args.most (g.E.Answering.stops old new) in
    let later = batch_gives c.args.most (g.E.Answering.stops mid new) (g.E.Answering.stops old new) (c.loop.invariant.since new) in
    stops_later _ all count (IsFull c.args.most) late were are
    (λ b b1 ps qs. counted_then g.E.Answering old mid new b b1 ps qs (λ k cs. g.met.E.Answering.excuses_still old mid new k cs sure on) (λ k cs. g.met.E.Answering.excuses_since old mid new k cs sure since on))
    _ _ _ c.in-Err.fault _ _ _ _ _ _
    (answered_too (OfBatch c.args.most (g.E.Answering.gives_up old mid)) all still _ (IsFull c.args.most) were _ _ _ _ _ _ _ (c.loop.invariant.answered (c.answer_next.ensures.sure sure)))
    (stops_too (OfBatch c.args.most (g.E.Answering.gives_up mid new)) all too _ (IsFull c.args.most) (OfBatch c.args.most (g.E.Answering.stops mid new)) late later are _ _ c.in-Err.fault _ _ _ (c.in-Err.ensures.stopped sure))

pub returns-in-Err-clause-cause : goal.returns-in-Err-clause-cause
returns-in-Err-clause-cause g c =
    let old = c.args.engine.now in
    let mid = c.loop.engine in
    let new = c.answer_next.new.engine in
    let on = c.answer_next.ensures.follows mid (g.met.E.Answering.follows_self mid) in
    let since = c.loop.invariant.follows old (g.met.E.Answering.follows_self old) in
    let all = OfBatch c.args.most (g.E.Answering.gives_up old new) in
    let still = batch_gives c.args.most (g.E.Answering.gives_up old mid) (g.E.Answering.gives_up old new) (λ b cs k. g.met.E.Answering.gives_up_still old mid new b cs k on) in
    let too = batch_gives c.args.most (g.E.Answering.gives_up mid new) (g.E.Answering.gives_up old new) (λ b cs k. g.met.E.Answering.gives_up_since old mid new b cs k since on) in
    let were = IsCounted g.E.Answering old mid in
    let late = OfBatch c.args.most (g.E.Answering.stops old new) in
    let later = batch_gives c.args.most (g.E.Answering.stops mid new) (g.E.Answering.stops old new) (c.loop.invariant.since new) in
    stopped_later g.E.Answering.rules all were (IsFull c.args.most) _ _ c.in-Err.fault late (g.E.Answering.is_sure new) _ _ _ _ _
    (λ sure. answered_too (OfBatch c.args.most (g.E.Answering.gives_up old mid)) all still _ (IsFull c.args.most) were _ _ _ _ _ _ _ (c.loop.invariant.answered (c.answer_next.ensures.sure sure)))
    (cause_too (OfBatch c.args.most (g.E.Answering.gives_up mid new)) all too g.E.Answering.rules (IsFull c.args.most) (OfBatch c.args.most (g.E.Answering.stops mid new)) late later c.in-Err.fault (g.E.Answering.is_sure new) _ _ c.in-Err.ensures.cause)

pub returns-in-Err-clause-cut : goal.returns-in-Err-clause-cut
returns-in-Err-clause-cut g c sure =
    let old = c.args.engine.now in
    let mid = c.loop.engine in
    let new = c.answer_next.new.engine in
    let on = c.answer_next.ensures.follows mid (g.met.E.Answering.follows_self mid) in
    let since = c.loop.invariant.follows old (g.met.E.Answering.follows_self old) in
    let all = OfBatch c.args.most (g.E.Answering.gives_up old new) in
    let still = batch_gives c.args.most (g.E.Answering.gives_up old mid) (g.E.Answering.gives_up old new) (λ b cs k. g.met.E.Answering.gives_up_still old mid new b cs k on) in
    let too = batch_gives c.args.most (g.E.Answering.gives_up mid new) (g.E.Answering.gives_up old new) (λ b cs k. g.met.E.Answering.gives_up_since old mid new b cs k since on) in
    let were = IsCounted g.E.Answering old mid in
    let are = IsCounted g.E.Answering mid new in
    let count = IsCounted g.E.Answering old new in
    let late = OfBatch c.args.most (g.E.Answering.stops old new) in
    let later = batch_gives c.args.most (g.E.Answering.stops mid new) (g.E.Answering.stops old new) (c.loop.invariant.since new) in
    some_stop_later _ all c.args.most count late were are
    (λ b b1 ps qs. counted_then g.E.Answering old mid new b b1 ps qs (λ k cs. g.met.E.Answering.excuses_still old mid new k cs sure on) (λ k cs. g.met.E.Answering.excuses_since old mid new k cs sure since on))
    _ _ _ c.in-Err.fault _ _ _ _ _
    (some_too (OfBatch c.args.most (g.E.Answering.gives_up old mid)) all still _ (HasFew c.args.most) were _ _ _ _ _ _ (c.loop.invariant.lines (c.answer_next.ensures.sure sure)))
    (among_too (OfBatch c.args.most (g.E.Answering.gives_up mid new)) all too _ (HasFew c.args.most) (OfBatch c.args.most (g.E.Answering.stops mid new)) late later are _ _ c.in-Err.fault _ _ (c.in-Err.ensures.cut sure))

pub returns-in-Err-clause-memory : goal.returns-in-Err-clause-memory
returns-in-Err-clause-memory g c is =
    let old = c.args.engine.now in
    let mid = c.loop.engine in
    let new = c.answer_next.new.engine in
    let on = c.answer_next.ensures.follows mid (g.met.E.Answering.follows_self mid) in
    let all = OfBatch c.args.most (g.E.Answering.gives_up old new) in
    let still = batch_gives c.args.most (g.E.Answering.gives_up old mid) (g.E.Answering.gives_up old new) (λ b cs k. g.met.E.Answering.gives_up_still old mid new b cs k on) in
    elim (c.in-Err.ensures.memory is) [
      | inl lost ↦ inl lost
      | inr same ↦ inr (λ sure. (
        c.loop.status,
        some_still _ all c.args.most (IsCounted g.E.Answering old) g.E.Answering.book g.O.Output.contents old mid new c.args.output.now c.loop.output c.answer_next.new.output _ _ same.0 same.1
            (some_too (OfBatch c.args.most (g.E.Answering.gives_up old mid)) all still _ (HasFew c.args.most) (IsCounted g.E.Answering old mid) _ _ _ _ _ _ (c.loop.invariant.lines (c.answer_next.ensures.sure sure))),
      ))
    ]
