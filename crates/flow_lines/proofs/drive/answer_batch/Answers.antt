use Rattle.std.proofs.lemmas.Result.{IfOk-weaker, IfErr-weaker}
use Rattle.flow_lines.specs.Counting.{IsCounted}
use Rattle.flow_lines.proofs.Counting.{counted_none, counted_one}
use Rattle.flow_lines.proofs.Batches.{batch_marked, begin_cause, begins_batch, none_begun, stops_batch}
use Rattle.flow_lines.proofs.SomeLines.{none_among, some_batch, some_batch_stops}
use Rattle.flow_lines.proofs.drive.answer_batch.Goals as goal

pub answer_begun-requires-clause-marked : goal.answer_begun-requires-clause-marked
answer_begun-requires-clause-marked g c = batch_marked _ _ _ _ _ c.in-Ok.ensures.gathered

pub returns-in-Ok-clause-answered : goal.returns-in-Ok-clause-answered
returns-in-Ok-clause-answered g c =
    IfOk-weaker c.answer_begun.result _ _ (λ n h sure. begins_batch _ _ c.args.most _ _ _ _ _ _ _ _ _ n c.in-Ok.ensures.gathered c.in-Ok.ensures.some c.in-Ok.ensures.few c.in-Ok.ensures.ends c.in-Ok.ensures.full (h sure c.args.most c.in-Ok.ensures.few)) c.answer_begun.ensures.answered

pub returns-in-Ok-clause-within : goal.returns-in-Ok-clause-within
returns-in-Ok-clause-within g c = IfOk-weaker c.answer_begun.result _ _ (λ n h. h c.args.most c.in-Ok.ensures.few) c.answer_begun.ensures.within

pub returns-in-Ok-clause-stopped : goal.returns-in-Ok-clause-stopped
returns-in-Ok-clause-stopped g c =
    let old = c.args.engine.now in
    let new = c.answer_begun.new.engine in
    let on = c.answer_begun.ensures.follows old (g.met.E.Answering.follows_self old) in
    IfErr-weaker c.answer_begun.result _ _ (λ e h sure. stops_batch _ _ (IsCounted g.E.Answering old new) _ c.args.most _ _ e _ _ _ _ _ _ _ c.in-Ok.ensures.gathered c.in-Ok.ensures.some c.in-Ok.ensures.few c.in-Ok.ensures.ends c.in-Ok.ensures.full (h sure c.args.most c.in-Ok.ensures.few) (counted_none g.E.Answering old new _ (g.met.E.Answering.failures_still old new sure on))
    (λ p. counted_one g.E.Answering old new _ (g.met.E.Answering.failures_still old new sure on) c.args.most p (λ cs. g.met.E.Answering.excused_or_failed old new _ cs sure))) c.answer_begun.ensures.stopped

pub returns-in-Ok-clause-cause : goal.returns-in-Ok-clause-cause
returns-in-Ok-clause-cause g c =
    IfErr-weaker c.answer_begun.result _ _ (λ e h. begin_cause e c.args.most _ (g.E.Answering.stops c.args.engine.now c.answer_begun.new.engine) _ _ _ _ _ c.in-Ok.ensures.some c.in-Ok.ensures.few c.in-Ok.ensures.gathered h) c.answer_begun.ensures.cause

pub returns-in-Err-clause-stopped : goal.returns-in-Err-clause-stopped
returns-in-Err-clause-stopped g c sure =
    let old = c.args.engine.now in
    none_begun _ _ _ (IsCounted g.E.Answering old old) _ _ c.in-Err.fault c.args.first _ _ c.in-Err.ensures.between (counted_none g.E.Answering old old _ (g.met.E.Answering.failures_still old old sure (g.met.E.Answering.follows_self old)))

pub returns-in-Ok-clause-lines : goal.returns-in-Ok-clause-lines
returns-in-Ok-clause-lines g c =
    let old = c.args.engine.now in
    let new = c.answer_begun.new.engine in
    let on = c.answer_begun.ensures.follows old (g.met.E.Answering.follows_self old) in
    IfOk-weaker c.answer_begun.result _ _ (λ n h sure line given. some_batch _ _ c.args.most (IsCounted g.E.Answering old new) _ _ _ _ _ _ _ _ _ n c.in-Ok.ensures.gathered c.in-Ok.ensures.some c.in-Ok.ensures.few c.in-Ok.ensures.ends (h sure c.args.most c.in-Ok.ensures.few) line given
    (λ p. counted_one g.E.Answering old new _ (g.met.E.Answering.failures_still old new sure on) c.args.most p (λ cs. g.met.E.Answering.excused_or_failed old new _ cs sure))) c.answer_begun.ensures.answered

pub returns-in-Ok-clause-cut : goal.returns-in-Ok-clause-cut
returns-in-Ok-clause-cut g c =
    let old = c.args.engine.now in
    let new = c.answer_begun.new.engine in
    let on = c.answer_begun.ensures.follows old (g.met.E.Answering.follows_self old) in
    IfErr-weaker c.answer_begun.result _ _ (λ e h sure line given. some_batch_stops _ _ c.args.most (IsCounted g.E.Answering old new) _ _ _ e _ _ _ _ _ _ _ c.in-Ok.ensures.gathered c.in-Ok.ensures.some c.in-Ok.ensures.few c.in-Ok.ensures.ends (h sure c.args.most c.in-Ok.ensures.few) line given (counted_none g.E.Answering old new _ (g.met.E.Answering.failures_still old new sure on))
    (λ p. counted_one g.E.Answering old new _ (g.met.E.Answering.failures_still old new sure on) c.args.most p (λ cs. g.met.E.Answering.excused_or_failed old new _ cs sure))) c.answer_begun.ensures.stopped

pub returns-in-Err-clause-cut : goal.returns-in-Err-clause-cut
returns-in-Err-clause-cut g c sure line given =
    let old = c.args.engine.now in
    none_among _ _ c.args.most (IsCounted g.E.Answering old old) _ _ c.in-Err.fault _ c.in-Err.ensures.between (counted_none g.E.Answering old old _ (g.met.E.Answering.failures_still old old sure (g.met.E.Answering.follows_self old)))
