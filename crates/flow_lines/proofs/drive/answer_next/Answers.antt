use Rattle.std.proofs.Common.{inl, refl}
use Rattle.flow_lines.specs.Answering.{IsFull, OfBatch}
use Rattle.flow_lines.proofs.Answering.{bad_answered, bad_written, each, none_answered}
use Rattle.flow_lines.specs.Counting.{IsCounted}
use Rattle.flow_lines.proofs.Counting.{counted_none, counted_one}
use Rattle.flow_lines.proofs.Batches.{next_batch, next_cause, next_stops}
use Rattle.flow_lines.proofs.SomeLines.{none_among, some_bad, some_bad_stops}
use Rattle.flow_lines.proofs.drive.answer_next.Goals as goal

pub returns-in-Err-clause-stopped : goal.returns-in-Err-clause-stopped
returns-in-Err-clause-stopped g c sure =
    let old = c.args.engine.now in
    each _ _ (λ bytes. none_answered _ _ (IsCounted g.E.Answering old old) _ _ _ c.in-Err.fault _ _ c.in-Err.ensures.between (counted_none g.E.Answering old old _ (g.met.E.Answering.failures_still old old sure (g.met.E.Answering.follows_self old))))

pub returns-in-Ok-answer_batch-clause-answered : goal.returns-in-Ok-answer_batch-clause-answered
returns-in-Ok-answer_batch-clause-answered g c sure =
    let first = rw c.in-Ok-Some.field-0-is at c.in-Ok-Some.ensures.line in
    let old = c.args.engine.now in
    let new = c.answer_batch.new.engine in
    let on = c.answer_batch.ensures.follows old (g.met.E.Answering.follows_self old) in
    next_batch _ _ _ (IsCounted g.E.Answering old new) _ _ _ _ _ _ _ _ c.as_slice.result.now c.in-Ok.command c.in-Ok-answer_batch.status first c.as_slice.ensures.value c.in-Ok.ensures.exact (c.in-Ok-answer_batch.ensures.answered sure)
    (λ p. counted_one g.E.Answering old new _ (g.met.E.Answering.failures_still old new sure on) c.args.most p (λ cs. g.met.E.Answering.excused_or_failed old new _ cs sure))

pub returns-in-Ok-clause-stopped : goal.returns-in-Ok-clause-stopped
returns-in-Ok-clause-stopped g c sure =
    let first = rw c.in-Ok-Some.field-0-is at c.in-Ok-Some.ensures.line in
    next_stops _ _ _ _ _ _ _ c.in-Err-answer_batch.fault _ _ _ _ _ c.as_slice.result.now c.in-Ok.command first c.as_slice.ensures.value c.in-Ok.ensures.exact (c.in-Err-answer_batch.ensures.stopped sure)

pub returns-in-Ok-clause-cause : goal.returns-in-Ok-clause-cause
returns-in-Ok-clause-cause g c =
    let first = rw c.in-Ok-Some.field-0-is at c.in-Ok-Some.ensures.line in
    next_cause g.E.Answering.rules (OfBatch c.args.most (g.E.Answering.gives_up c.args.engine.now c.answer_batch.new.engine)) (IsFull c.args.most) _ c.in-Err-answer_batch.fault (OfBatch c.args.most (g.E.Answering.stops c.args.engine.now c.answer_batch.new.engine)) _ _ _ _ c.as_slice.result.now c.in-Ok.command first c.as_slice.ensures.value c.in-Ok.ensures.exact c.in-Err-answer_batch.ensures.cause

pub returns-in-Ok-write_told-clause-answered : goal.returns-in-Ok-write_told-clause-answered
returns-in-Ok-write_told-clause-answered g c sure =
    let first = rw c.in-Ok-Some.field-0-is at c.in-Ok-Some.ensures.line in
    let bad = rw c.in-Err-NotACommand.field-0-is at c.in-Err-NotACommand.ensures.exact in
    let old = c.args.engine.now in
    bad_answered _ _ (IsCounted g.E.Answering old old) _ _ _ _ _ _ _ c.as_slice.result.now _ first c.as_slice.ensures.value bad c.in-Ok-write_told.ensures.all c.in-Ok-write_told.ensures.told
    (λ p. counted_one g.E.Answering old old _ (g.met.E.Answering.failures_still old old sure (g.met.E.Answering.follows_self old)) c.args.most p (λ cs. g.met.E.Answering.excused_or_failed old old _ cs sure))

pub returns-in-Err-NotACommand-clause-stopped : goal.returns-in-Err-NotACommand-clause-stopped
returns-in-Err-NotACommand-clause-stopped g c sure =
    let first = rw c.in-Ok-Some.field-0-is at c.in-Ok-Some.ensures.line in
    let bad = rw c.in-Err-NotACommand.field-0-is at c.in-Err-NotACommand.ensures.exact in
    let old = c.args.engine.now in
    bad_written _ _ (IsCounted g.E.Answering old old) _ _ _ c.in-Err-write_told.fault _ _ _ _ _ c.as_slice.result.now first c.as_slice.ensures.value bad c.in-Err-write_told.ensures.stopped
    (counted_none g.E.Answering old old _ (g.met.E.Answering.failures_still old old sure (g.met.E.Answering.follows_self old)))
    (λ p. counted_one g.E.Answering old old _ (g.met.E.Answering.failures_still old old sure (g.met.E.Answering.follows_self old)) c.args.most p (λ cs. g.met.E.Answering.excused_or_failed old old _ cs sure))

pub returns-clause-stopped : goal.returns-clause-stopped
returns-clause-stopped g c sure =
    let old = c.args.engine.now in
    each _ _ (λ bytes. none_answered _ _ (IsCounted g.E.Answering old old) _ _ _ _ _ _ (inl refl) (counted_none g.E.Answering old old _ (g.met.E.Answering.failures_still old old sure (g.met.E.Answering.follows_self old))))

pub returns-in-Err-clause-cut : goal.returns-in-Err-clause-cut
returns-in-Err-clause-cut g c sure =
    let old = c.args.engine.now in
    none_among _ _ c.args.most (IsCounted g.E.Answering old old) _ _ c.in-Err.fault _ c.in-Err.ensures.between (counted_none g.E.Answering old old _ (g.met.E.Answering.failures_still old old sure (g.met.E.Answering.follows_self old)))

pub returns-in-Ok-answer_batch-clause-lines : goal.returns-in-Ok-answer_batch-clause-lines
returns-in-Ok-answer_batch-clause-lines g c sure = c.in-Ok-answer_batch.ensures.lines sure c.as_slice.result.now c.in-Ok.ensures.exact

pub returns-in-Ok-clause-cut : goal.returns-in-Ok-clause-cut
returns-in-Ok-clause-cut g c sure = c.in-Err-answer_batch.ensures.cut sure c.as_slice.result.now c.in-Ok.ensures.exact

pub returns-in-Ok-write_told-clause-lines : goal.returns-in-Ok-write_told-clause-lines
returns-in-Ok-write_told-clause-lines g c sure =
    let bad = rw c.in-Err-NotACommand.field-0-is at c.in-Err-NotACommand.ensures.exact in
    let old = c.args.engine.now in
    some_bad _ _ c.args.most (IsCounted g.E.Answering old old) _ _ _ c.as_slice.result.now _ bad c.in-Ok-write_told.ensures.all c.in-Ok-write_told.ensures.told
    (λ p. counted_one g.E.Answering old old _ (g.met.E.Answering.failures_still old old sure (g.met.E.Answering.follows_self old)) c.args.most p (λ cs. g.met.E.Answering.excused_or_failed old old _ cs sure))

pub returns-in-Err-NotACommand-clause-cut : goal.returns-in-Err-NotACommand-clause-cut
returns-in-Err-NotACommand-clause-cut g c sure =
    let bad = rw c.in-Err-NotACommand.field-0-is at c.in-Err-NotACommand.ensures.exact in
    let old = c.args.engine.now in
    some_bad_stops _ _ c.args.most (IsCounted g.E.Answering old old) _ _ c.in-Err-write_told.fault _ _ c.as_slice.result.now bad c.in-Err-write_told.ensures.stopped
    (counted_none g.E.Answering old old _ (g.met.E.Answering.failures_still old old sure (g.met.E.Answering.follows_self old)))
    (λ p. counted_one g.E.Answering old old _ (g.met.E.Answering.failures_still old old sure (g.met.E.Answering.follows_self old)) c.args.most p (λ cs. g.met.E.Answering.excused_or_failed old old _ cs sure))

pub returns-clause-cut : goal.returns-clause-cut
returns-clause-cut g c sure =
    let old = c.args.engine.now in
    none_among _ _ c.args.most (IsCounted g.E.Answering old old) _ _ _ _ (inl refl) (counted_none g.E.Answering old old _ (g.met.E.Answering.failures_still old old sure (g.met.E.Answering.follows_self old)))
