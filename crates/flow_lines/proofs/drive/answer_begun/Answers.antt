use Rattle.std.proofs.Common.{subst, sym, ◌∙◌}
use Rattle.std.proofs.lemmas.Result.{IfErr-weaker, IfOk-weaker}
use Rattle.flow_lines.specs.Answering.{OfBatch, StopsAtSome, WritesAll, WritesSome}
use Rattle.flow_lines.proofs.Answering.{none_replied, part_written}
use Rattle.flow_lines.proofs.Batches.{batch_given_up, batch_replied, caused_batch, given_up_within, replied_within}
use Rattle.flow_lines.proofs.drive.answer_begun.Goals as goal

pub returns-in-Ok-Replied-clause-answered : goal.returns-in-Ok-Replied-clause-answered
returns-in-Ok-Replied-clause-answered g c =
    let told = rw c.in-Ok-Replied.field-0-is at c.in-Ok-Replied.ensures.answers in
    IfOk-weaker c.write_answers.result _ _
    (λ n h sure most few lines holds. batch_replied g.E.Answering.rules (OfBatch most (g.E.Answering.gives_up c.args.engine.now c.answer_together.new.self)) _ _ lines _ _ holds (WritesAll (g.O.Output.contents c.args.output.now) (g.O.Output.contents c.write_answers.new.output) n) _ _ (told sure) (record { written_are = h.0; status_is = h.1 }))
    c.write_answers.ensures.told

pub returns-in-Ok-Replied-clause-within : goal.returns-in-Ok-Replied-clause-within
returns-in-Ok-Replied-clause-within g c =
    let count = rw c.in-Ok-Replied.field-0-is at c.in-Ok-Replied.ensures.count in
    IfOk-weaker c.write_answers.result _ _ (λ n h most few. replied_within (OfBatch most (g.E.Answering.gives_up c.args.engine.now c.answer_together.new.self)) _ _ _ n (count ∙ sym c.requires.marked) h.1) c.write_answers.ensures.told

pub returns-in-Ok-Replied-clause-stopped : goal.returns-in-Ok-Replied-clause-stopped
returns-in-Ok-Replied-clause-stopped g c =
    let told = rw c.in-Ok-Replied.field-0-is at c.in-Ok-Replied.ensures.answers in
    IfErr-weaker c.write_answers.result _ _
    (λ e w sure most few lines holds. part_written _ _ (OfBatch most (g.E.Answering.stops c.args.engine.now c.answer_together.new.self)) e _ _ lines _ _ (batch_replied g.E.Answering.rules (OfBatch most (g.E.Answering.gives_up c.args.engine.now c.answer_together.new.self)) _ _ lines _ _ holds (WritesSome e (g.O.Output.contents c.args.output.now) (g.O.Output.contents c.write_answers.new.output)) _ _ (told sure) w))
    c.write_answers.ensures.stopped

pub returns-in-Ok-NotApplied-clause-answered : goal.returns-in-Ok-NotApplied-clause-answered
returns-in-Ok-NotApplied-clause-answered g c =
    let told = rw c.in-Ok-NotApplied.field-0-is at c.in-Ok-NotApplied.ensures.answers in
    let cause = rw c.in-Ok-NotApplied.field-0-is at c.in-Ok-NotApplied.ensures.cause in
    IfOk-weaker c.write_answers-in-Ok-NotApplied.result _ _
    (λ n h sure most few lines holds. batch_given_up g.E.Answering.rules (OfBatch most (g.E.Answering.gives_up c.args.engine.now c.answer_together.new.self)) _ _ lines _ _ holds (WritesAll (g.O.Output.contents c.args.output.now) (g.O.Output.contents c.write_answers-in-Ok-NotApplied.new.output) n) _ _ c.new.ensures.items (cause.0, caused_batch most (g.E.Answering.gives_up c.args.engine.now c.answer_together.new.self) _ _ _ c.requires.some few cause.1) (told sure) (record { written_are = h.0; status_is = h.1 }))
    c.write_answers-in-Ok-NotApplied.ensures.told

pub returns-in-Ok-NotApplied-clause-within : goal.returns-in-Ok-NotApplied-clause-within
returns-in-Ok-NotApplied-clause-within g c =
    let cause = rw c.in-Ok-NotApplied.field-0-is at c.in-Ok-NotApplied.ensures.cause in
    IfOk-weaker c.write_answers-in-Ok-NotApplied.result _ _ (λ n h most few. given_up_within (OfBatch most (g.E.Answering.gives_up c.args.engine.now c.answer_together.new.self)) _ _ _ _ _ n c.new.ensures.items (caused_batch most (g.E.Answering.gives_up c.args.engine.now c.answer_together.new.self) _ _ _ c.requires.some few cause.1) h.1) c.write_answers-in-Ok-NotApplied.ensures.told

pub returns-in-Ok-NotApplied-clause-stopped : goal.returns-in-Ok-NotApplied-clause-stopped
returns-in-Ok-NotApplied-clause-stopped g c =
    let told = rw c.in-Ok-NotApplied.field-0-is at c.in-Ok-NotApplied.ensures.answers in
    let cause = rw c.in-Ok-NotApplied.field-0-is at c.in-Ok-NotApplied.ensures.cause in
    IfErr-weaker c.write_answers-in-Ok-NotApplied.result _ _
    (λ e w sure most few lines holds. part_written _ _ (OfBatch most (g.E.Answering.stops c.args.engine.now c.answer_together.new.self)) e _ _ lines _ _ (batch_given_up g.E.Answering.rules (OfBatch most (g.E.Answering.gives_up c.args.engine.now c.answer_together.new.self)) _ _ lines _ _ holds (WritesSome e (g.O.Output.contents c.args.output.now) (g.O.Output.contents c.write_answers-in-Ok-NotApplied.new.output)) _ _ c.new.ensures.items (cause.0, caused_batch most (g.E.Answering.gives_up c.args.engine.now c.answer_together.new.self) _ _ _ c.requires.some few cause.1) (told sure) w))
    c.write_answers-in-Ok-NotApplied.ensures.stopped

pub returns-in-Ok-Replied-clause-since : goal.returns-in-Ok-Replied-clause-since
returns-in-Ok-Replied-clause-since g c = IfOk-weaker c.write_answers.result _ _ (λ n h. c.in-Ok-Replied.ensures.since) c.write_answers.ensures.told

pub returns-in-Ok-NotApplied-clause-since : goal.returns-in-Ok-NotApplied-clause-since
returns-in-Ok-NotApplied-clause-since g c = IfOk-weaker c.write_answers-in-Ok-NotApplied.result _ _ (λ n h. c.in-Ok-NotApplied.ensures.since) c.write_answers-in-Ok-NotApplied.ensures.told

pub returns-in-Err-clause-stopped : goal.returns-in-Err-clause-stopped
returns-in-Err-clause-stopped g c sure most few lines holds =
    let all = (OfBatch most (g.E.Answering.stops c.args.engine.now c.answer_together.new.self)) in
    let stop = caused_batch most (g.E.Answering.stops c.args.engine.now c.answer_together.new.self) _ _ _ c.requires.some few c.in-Err.ensures.stopped in
    subst (λ f. StopsAtSome g.E.Answering.rules (OfBatch most (g.E.Answering.gives_up c.args.engine.now c.answer_together.new.self)) all f (g.E.Answering.book c.args.engine.now) (g.E.Answering.book c.answer_together.new.self) lines (g.O.Output.contents c.args.output.now) (g.O.Output.contents c.args.output.now)) (sym c.fault_of_stop.ensures)
    (none_replied _ _ all _ _ lines _ c.in-Err.stop (subst (λ cs. all (g.E.Answering.book c.args.engine.now) cs c.in-Err.stop) holds.commands_are stop))
