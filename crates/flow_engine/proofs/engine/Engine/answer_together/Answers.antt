use Rattle.std.proofs.Common.{sym, subst}
use Rattle.std.specs.Prelude.{IfErr, OnOk}
use Rattle.std.proofs.lemmas.Result.{IfOk-weaker}
use Rattle.flow_model.specs.Apply.{after}
use Rattle.flow_model.specs.Book.{Book}
use Rattle.flow_tables.specs.Owned.{state_of, LeavesEither}
use Rattle.flow_commit.specs.Committing.{HasGoneOn}
use Rattle.flow_commit.specs.Keeping.{Keeping, IsFit, KeepsBook, rules, commands_of, kept_book}
use Rattle.flow_model.specs.Answers.{AnswersTogether, CausedTogether}
use Rattle.flow_engine.specs.Answering.{Follows, HasAnswered, IsSure}
use Rattle.flow_engine.specs.GivingUp.{GivesUp}
use Rattle.flow_engine.specs.Together.{KeepsTogether}
use Rattle.flow_engine.proofs.engine.Engine.answer_together.Goals as goal

pub returns-in-Ok-one_batch-clause-kept : goal.returns-in-Ok-one_batch-clause-kept
returns-in-Ok-one_batch-clause-kept g c =
    let its = c.answered.ensures c.in-Ok-taken_of.taken.items c.in-Ok-one_batch.ensures in
    IfOk-weaker c.answered.result _ _
    (λ t h fit b keeps.
    subst (λ cs. KeepsTogether g.S.Store c.answered.new.engine b cs t) c.in-Ok-taken_of.ensures
    (h fit b (subst (λ (k : Keeping g.row.S.Denot). KeepsBook g.S.Store k b) (sym c.tickets-first.ensures) keeps)))
    its.kept

pub returns-in-Ok-one_batch-clause-answers : goal.returns-in-Ok-one_batch-clause-answers
returns-in-Ok-one_batch-clause-answers g c =
    let its = c.answered.ensures c.in-Ok-taken_of.taken.items c.in-Ok-one_batch.ensures in
    let new = c.answered.new.engine in
    IfOk-weaker c.answered.result _ _
    (λ t h sure.
    subst (λ cs. AnswersTogether rules (kept_book g.S.Store c.args.self.now) (kept_book g.S.Store new) cs t) c.in-Ok-taken_of.ensures
    (subst (λ (k : Keeping g.row.S.Denot). AnswersTogether rules (kept_book g.S.Store k) (kept_book g.S.Store new) (commands_of c.in-Ok-taken_of.taken.items) t) c.tickets-first.ensures (h sure)))
    its.answers

pub returns-in-Ok-one_batch-clause-unstopped : goal.returns-in-Ok-one_batch-clause-unstopped
returns-in-Ok-one_batch-clause-unstopped g c =
    let its = c.answered.ensures c.in-Ok-taken_of.taken.items c.in-Ok-one_batch.ensures in
    subst (λ (k : Keeping g.row.S.Denot). OnOk c.answered.result (HasAnswered k c.answered.new.engine)) c.tickets-first.ensures its.unstopped

pub returns-in-Ok-one_batch-clause-cause : goal.returns-in-Ok-one_batch-clause-cause
returns-in-Ok-one_batch-clause-cause g c =
    let its = c.answered.ensures c.in-Ok-taken_of.taken.items c.in-Ok-one_batch.ensures in
    let new = c.answered.new.engine in
    IfOk-weaker c.answered.result _ _
    (λ t h.
    subst (λ cs. CausedTogether (GivesUp g.S.Store c.args.self.now new (kept_book g.S.Store c.args.self.now) cs) t) c.in-Ok-taken_of.ensures
    (subst (λ (k : Keeping g.row.S.Denot). CausedTogether (GivesUp g.S.Store k new (kept_book g.S.Store k) (commands_of c.in-Ok-taken_of.taken.items)) t) c.tickets-first.ensures h))
    its.cause

pub returns-in-Ok-one_batch-clause-leaves : goal.returns-in-Ok-one_batch-clause-leaves
returns-in-Ok-one_batch-clause-leaves g c =
    let its = c.answered.ensures c.in-Ok-taken_of.taken.items c.in-Ok-one_batch.ensures in
    let new = c.answered.new.engine in
    subst (λ cs. IfErr c.answered.result (λ s. IsFit g.S.Store new → (b : Book) → KeepsBook g.S.Store c.args.self.now b → LeavesEither (state_of g.S.Store new.stored) b (after rules b cs))) c.in-Ok-taken_of.ensures
    (subst (λ (k : Keeping g.row.S.Denot). IfErr c.answered.result (λ s. IsFit g.S.Store new → (b : Book) → KeepsBook g.S.Store k b → LeavesEither (state_of g.S.Store new.stored) b (after rules b (commands_of c.in-Ok-taken_of.taken.items)))) c.tickets-first.ensures its.leaves)

pub returns-in-Ok-one_batch-clause-sure : goal.returns-in-Ok-one_batch-clause-sure
returns-in-Ok-one_batch-clause-sure g c =
    let its = c.answered.ensures c.in-Ok-taken_of.taken.items c.in-Ok-one_batch.ensures in
    subst (λ (k : Keeping g.row.S.Denot). IsSure g.S.Store c.answered.new.engine → IsSure g.S.Store k) c.tickets-first.ensures its.sure

pub returns-in-Ok-one_batch-clause-follows : goal.returns-in-Ok-one_batch-clause-follows
returns-in-Ok-one_batch-clause-follows g c =
    let its = c.answered.ensures c.in-Ok-taken_of.taken.items c.in-Ok-one_batch.ensures in
    subst (λ (k : Keeping g.row.S.Denot). Follows g.S.Store k c.answered.new.engine) c.tickets-first.ensures its.follows

pub returns-in-Ok-one_batch-clause-goes_on : goal.returns-in-Ok-one_batch-clause-goes_on
returns-in-Ok-one_batch-clause-goes_on g c =
    let its = c.answered.ensures c.in-Ok-taken_of.taken.items c.in-Ok-one_batch.ensures in
    let new = c.answered.new.engine in
    subst (λ (k : Keeping g.row.S.Denot). IsFit g.S.Store new → HasGoneOn g.S.Store k new) c.tickets-first.ensures its.goes_on
