use Rattle.std.proofs.Common.{[], ◌∷◌, Some, None, subst}
use Rattle.std.specs.Prelude.{MatchResult, OnOk}
use Rattle.std.proofs.lemmas.Result.{IfOk-weaker}
use Rattle.flow_commit.specs.Committing.{HasGoneOn}
use Rattle.flow_commit.specs.Keeping.{Keeping, rules, kept_book, IsFit}
use Rattle.flow_model.specs.Answers.{Answers, CausedAnswer}
use Rattle.flow_engine.specs.Answering.{HasAnswered, IsPart, Follows, IsSure}
use Rattle.flow_engine.specs.GivingUp.{GivesUp}
use Rattle.flow_engine.proofs.Singly.{one_alone}
use Rattle.flow_engine.proofs.engine.Engine.answer.Goals as goal

pub answered-requires-clause-alone : goal.answered-requires-clause-alone
answered-requires-clause-alone g c = one_alone _ _ c.in-Ok.ensures

pub returns-in-Ok-clause-answers : goal.returns-in-Ok-clause-answers
returns-in-Ok-clause-answers g c =
    IfOk-weaker c.answered.result _ _
    (λ a h sure. subst (λ (k : Keeping g.row.S.Denot). Answers rules (kept_book g.S.Store k) (kept_book g.S.Store c.answered.new.engine) c.args.command a) c.tickets-ticket.ensures (h sure _ c.in-Ok.ensures))
    c.answered.ensures.answers

pub returns-in-Ok-clause-cause : goal.returns-in-Ok-clause-cause
returns-in-Ok-clause-cause g c =
    IfOk-weaker c.answered.result _ _
    (λ a h. subst (λ (k : Keeping g.row.S.Denot). CausedAnswer (GivesUp g.S.Store k c.answered.new.engine (kept_book g.S.Store k) (c.args.command ∷ [])) a) c.tickets-ticket.ensures (h _ c.in-Ok.ensures))
    c.answered.ensures.given_up

pub returns-in-Ok-clause-unstopped : goal.returns-in-Ok-clause-unstopped
returns-in-Ok-clause-unstopped g c = subst (λ (k : Keeping g.row.S.Denot). OnOk c.answered.result (HasAnswered k c.answered.new.engine)) c.tickets-ticket.ensures c.answered.ensures.unstopped

pub returns-in-Ok-clause-part : goal.returns-in-Ok-clause-part
returns-in-Ok-clause-part g c =
    subst (λ (k : Keeping g.row.S.Denot). MatchResult c.answered.result (λ a. IsPart g.S.Store k c.answered.new.engine (c.args.command ∷ []) (a ∷ []) None) (λ s. IsPart g.S.Store k c.answered.new.engine (c.args.command ∷ []) [] (Some s)))
    c.tickets-ticket.ensures (c.answered.ensures.part _ c.in-Ok.ensures)

pub returns-in-Ok-clause-sure : goal.returns-in-Ok-clause-sure
returns-in-Ok-clause-sure g c =
    subst (λ (k : Keeping g.row.S.Denot). IsSure g.S.Store c.answered.new.engine → IsSure g.S.Store k) c.tickets-ticket.ensures c.answered.ensures.sure

pub returns-in-Ok-clause-follows : goal.returns-in-Ok-clause-follows
returns-in-Ok-clause-follows g c = subst (λ (k : Keeping g.row.S.Denot). Follows g.S.Store k c.answered.new.engine) c.tickets-ticket.ensures c.answered.ensures.follows

pub returns-in-Ok-clause-goes_on : goal.returns-in-Ok-clause-goes_on
returns-in-Ok-clause-goes_on g c =
    let new = c.answered.new.engine in
    subst (λ (k : Keeping g.row.S.Denot). IsFit g.S.Store new → HasGoneOn g.S.Store k new) c.tickets-ticket.ensures c.answered.ensures.goes_on
