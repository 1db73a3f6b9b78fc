use Rattle.std.proofs.Common.{[], ◌∷◌, refl, sym, ap, inr, subst}
use Rattle.std.proofs.lemmas.Result.{IfOk-weaker, IfErr-weaker}
use Rattle.flow_model.specs.declared.answer.Answer.TheVariants as answer
use Rattle.flow_commit.specs.Keeping.{rules, kept_book}
use Rattle.flow_engine.specs.Driving.{commands_in}
use Rattle.flow_engine.specs.Answering.{AnswersAll, AreCaused}
use Rattle.flow_engine.specs.GivingUp.{GivesUp}
use Rattle.flow_engine.proofs.GivingUp.{no_memory}
use Rattle.flow_engine.proofs.Singly.{driven_alone, are_single, answers_sure, are_caused, has_answered, has_stopped, one_answered, one_caused, one_part}
use Rattle.flow_engine.proofs.answering.answered.Goals as goal

pub one_answer-requires-clause-single : goal.one_answer-requires-clause-single
one_answer-requires-clause-single g c =
    let d = c.in-Ok.ensures in
    are_single g.S.Store c.args.engine.now c.drive.new.engine c.requires.alone.taken c.in-Ok.dones.items
    (driven_alone g.S.Store c.args.engine.now c.drive.new.engine c.args.batches.items c.in-Ok.dones.items c.requires.alone.taken c.requires.alone.are
    d.drives d.noted d.halted d.later d.count d.fit d.up d.own d.given_up)

pub returns-in-Ok-clause-answers : goal.returns-in-Ok-clause-answers
returns-in-Ok-clause-answers g c =
    let d = c.in-Ok.ensures in
    IfOk-weaker c.one_answer.result _ _
    (λ a h sure t is. one_answered (kept_book g.S.Store c.args.engine.now) (kept_book g.S.Store c.drive.new.engine) t a
    (subst (λ l. AnswersAll rules (kept_book g.S.Store c.args.engine.now) (kept_book g.S.Store c.drive.new.engine) (t.command ∷ []) l) h.0
    (answers_sure g.S.Store c.args.engine.now c.drive.new.engine (t ∷ []) c.in-Ok.dones.items
    (driven_alone g.S.Store c.args.engine.now c.drive.new.engine c.args.batches.items c.in-Ok.dones.items (t ∷ []) is
    d.drives d.noted d.halted d.later d.count d.fit d.up d.own d.given_up) sure h.1)))
    c.one_answer.ensures.given

pub returns-in-Ok-clause-given_up : goal.returns-in-Ok-clause-given_up
returns-in-Ok-clause-given_up g c =
    let d = c.in-Ok.ensures in
    let old = c.args.engine.now in
    let new = c.drive.new.engine in
    IfOk-weaker c.one_answer.result _ _
    (λ a h t is. one_caused g.S.Store old new (kept_book g.S.Store old) t.command a
    (subst (AreCaused (GivesUp g.S.Store old new) (kept_book g.S.Store old) (t.command ∷ [])) h.0
    (are_caused g.S.Store old new (t ∷ []) c.in-Ok.dones.items
    (driven_alone g.S.Store old new c.args.batches.items c.in-Ok.dones.items (t ∷ []) is
    d.drives d.noted d.halted d.later d.count d.fit d.up d.own d.given_up))))
    c.one_answer.ensures.given

pub returns-clause-given_up : goal.returns-clause-given_up
returns-clause-given_up g c t is = no_memory g.S.Store c.args.engine.now c.drive.new.engine (kept_book g.S.Store c.args.engine.now) (t.command ∷ []) _ c.code.ensures

pub returns-in-Ok-clause-stopped : goal.returns-in-Ok-clause-stopped
returns-in-Ok-clause-stopped g c =
    let d = c.in-Ok.ensures in
    IfErr-weaker c.one_answer.result _ _
    (λ s h. has_stopped g.S.Store c.args.engine.now c.drive.new.engine c.requires.alone.taken c.in-Ok.dones.items
    (driven_alone g.S.Store c.args.engine.now c.drive.new.engine c.args.batches.items c.in-Ok.dones.items c.requires.alone.taken c.requires.alone.are
    d.drives d.noted d.halted d.later d.count d.fit d.up d.own d.given_up) s h.1)
    c.one_answer.ensures.stops

pub returns-in-Ok-clause-unstopped : goal.returns-in-Ok-clause-unstopped
returns-in-Ok-clause-unstopped g c =
    let d = c.in-Ok.ensures in
    IfOk-weaker c.one_answer.result _ _
    (λ a h. has_answered g.S.Store c.args.engine.now c.drive.new.engine c.requires.alone.taken c.in-Ok.dones.items
    (driven_alone g.S.Store c.args.engine.now c.drive.new.engine c.args.batches.items c.in-Ok.dones.items c.requires.alone.taken c.requires.alone.are
    d.drives d.noted d.halted d.later d.count d.fit d.up d.own d.given_up) h.1)
    c.one_answer.ensures.given

pub returns-clause-unstopped : goal.returns-clause-unstopped
returns-clause-unstopped g c = inr c.in-Err.ensures.same

pub returns-in-Ok-clause-part : goal.returns-in-Ok-clause-part
returns-in-Ok-clause-part g c t is =
    one_part g.S.Store c.args.engine.now c.drive.new.engine c.args.batches.items c.in-Ok.dones.items (t.command ∷ [])
    (ap commands_in (sym is)) c.in-Ok.ensures.runs c.in-Ok.ensures.counted
    c.one_answer.result c.one_answer.ensures.given c.one_answer.ensures.stops

pub returns-clause-part : goal.returns-clause-part
returns-clause-part g c t is = inr (record { same = c.in-Err.ensures.same; told = ap (λ k. answer.NotApplied k ∷ []) c.code.ensures; stop = refl })

pub returns-in-Ok-clause-sure : goal.returns-in-Ok-clause-sure
returns-in-Ok-clause-sure g c sure = record { fit = c.in-Ok.ensures.fit sure.fit; up = c.in-Ok.ensures.up sure.fit sure.up }
