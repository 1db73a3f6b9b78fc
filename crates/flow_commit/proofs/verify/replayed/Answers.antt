use Rattle.std.proofs.Common.{inl, inr, subst}
use Rattle.flow_check.specs.Language.{meaning_of}
use Rattle.flow_machine.specs.Verifying.{CantBeReplayed}
use Rattle.flow_tables.specs.Owned.{is_sure, book_now}
use Rattle.flow_commit.proofs.Following.{fit_before, follows_self}
use Rattle.flow_commit.proofs.Ends.{cause_of}
use Rattle.flow_commit.proofs.Verified.{caused_so, unless_so, verdict_on}
use Rattle.flow_commit.proofs.verify.replayed.Goals as goal

pub returns-in-Ok-clause-verdict : goal.returns-in-Ok-clause-verdict
returns-in-Ok-clause-verdict g c fit b keeps =
    let begun = c.begin_anew.new.tables in
    let new = c.verified.new.view in
    let start = c.in-Ok.ensures.begun (fit_before g.S.Store begun new (c.verified.ensures.follows begun (follows_self g.S.Store begun)) fit) in
    verdict_on (book_now g.S.Store begun) b c.verified.result (is_sure g.S.Store new) (start.1 b keeps) c.verified.ensures.totals c.verified.ensures.stand c.verified.ensures.first
    (unless_so c.verified.result _ _ (λ on. on fit start.0) c.verified.ensures.goes_on)

pub returns-in-Ok-clause-follows : goal.returns-in-Ok-clause-follows
returns-in-Ok-clause-follows g c = c.verified.ensures.follows c.args.tables.now c.begin_anew.ensures.follows

pub returns-in-Ok-clause-own : goal.returns-in-Ok-clause-own
returns-in-Ok-clause-own g c fit =
    let begun = c.begin_anew.new.tables in
    let new = c.verified.new.view in
    c.begin_anew.ensures.own (fit_before g.S.Store begun new (c.verified.ensures.follows begun (follows_self g.S.Store begun)) fit)

pub returns-in-Ok-clause-cause : goal.returns-in-Ok-clause-cause
returns-in-Ok-clause-cause g c fit b keeps =
    let begun = c.begin_anew.new.tables in
    let new = c.verified.new.view in
    let start = c.in-Ok.ensures.begun (fit_before g.S.Store begun new (c.verified.ensures.follows begun (follows_self g.S.Store begun)) fit) in
    caused_so c.verified.result _ _ (λ why. elim why [
      | inl refuses ↦ inl (inr refuses)
      | inr cant ↦ inr (subst (CantBeReplayed meaning_of) (start.1 b keeps) cant)
    ]) (c.verified.ensures.cause c.args.tables.now c.begin_anew.ensures.follows fit start.0)

pub returns-in-Err-StoreRefused-clause-cause : goal.returns-in-Err-StoreRefused-clause-cause
returns-in-Err-StoreRefused-clause-cause g c fit b keeps = inl (cause_of _ c.in-Err-StoreRefused.field-0 c.in-Err-StoreRefused.field-0-is (c.in-Err-StoreRefused.ensures.cause fit))
