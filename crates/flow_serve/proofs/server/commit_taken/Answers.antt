use Rattle.std.proofs.Common.{List, refl, sym, ap, ◌∙◌, ◌++◌, map, subst, take, append-nil}
use Rattle.flow_base.specs.declared.code.Code.{Code}
use Rattle.flow_base.specs.declared.code.Code.TheVariants as code
use Rattle.flow_base.specs.declared.submission.Taken.{Taken}
use Rattle.flow_view.specs.Codes.{view_fault_code}
use Rattle.flow_queues.specs.Refusing.{refused_by}
use Rattle.flow_hub.specs.Publishing.{InHand}
use Rattle.flow_hub.proofs.Serving.{receipts_answer, refused_together}
use Rattle.flow_commit.specs.Keeping.{Keeping, account_of}
use Rattle.flow_commit.specs.Committing.{IsFor, IsRefusedFor}
use Rattle.flow_commit.specs.declared.outcome.Outcome.TheVariants as outcomes
use Rattle.flow_engine.specs.declared.done.Done.TheVariants as dones
use Rattle.flow_engine.proofs.GivingUp.{refused_done}
use Rattle.flow_commit.proofs.Overs.{over_some}
use Rattle.flow_serve.proofs.Posted.{lets_none}
use Rattle.flow_serve.proofs.Serving.{gives_these, same_base}
use Rattle.flow_serve.proofs.server.commit_taken.Goals as goal

-- the receipts are those of the stamp, and answer what was taken
pub publish-left-requires : goal.publish-left-requires
publish-left-requires g c =
    let noted = c.in-Kept.ensures.noted in
    let old = account_of g.S.Store c.args.engine.now in
    let new = account_of g.S.Store c.commit.new.self in
    let base = same_base g.S.Store c.args.engine.now c.commit.new.self c.commit.ensures.found c.commit.ensures.same in
    record { answers = receipts_answer old new c.args.publisher.now c.in-Kept.stamp c.args.batch c.in-Kept.receipts.items c.requires.hand base noted.3 noted.4 noted.5 }

pub returns-in-NotApplied-clause-together : goal.returns-in-NotApplied-clause-together
returns-in-NotApplied-clause-together g c =
    let old = account_of g.S.Store c.args.engine.now in
    let noted = c.in-NotApplied.ensures.noted in
    let same = c.into_taken.ensures.same ∙ noted.3 in
    let hand = subst (λ (ts : List Taken). InHand old c.args.publisher.now ts) (sym same) c.requires.hand in
    refused_together old (account_of g.S.Store c.commit.new.self) c.args.publisher.now c.refuse.new.self c.into_taken.result.items c.code.result hand noted.2 (same_base g.S.Store c.args.engine.now c.commit.new.self c.commit.ensures.found c.commit.ensures.same) c.refuse.ensures.refused

pub returns-in-NotApplied-clause-given_up : goal.returns-in-NotApplied-clause-given_up
returns-in-NotApplied-clause-given_up g c =
    let old = c.args.publisher.now.refused in
    let ts = c.into_taken.result.items in
    gives_these old c.refuse.new.self.refused c.in-NotApplied.fault ts (c.refuse.ensures.refused.refused ∙ ap (λ (k : Code). old ++ map (refused_by k) ts) c.code.ensures)

pub returns-in-Unknown-clause-together : goal.returns-in-Unknown-clause-together
returns-in-Unknown-clause-together g c =
    let old = account_of g.S.Store c.args.engine.now in
    let noted = c.in-Unknown.ensures.noted in
    let same = c.into_taken-in-Unknown.ensures.same ∙ noted.3 in
    let hand = subst (λ (ts : List Taken). InHand old c.args.publisher.now ts) (sym same) c.requires.hand in
    refused_together old (account_of g.S.Store c.commit.new.self) c.args.publisher.now c.refuse-in-Unknown.new.self c.into_taken-in-Unknown.result.items _ hand noted.2 (same_base g.S.Store c.args.engine.now c.commit.new.self c.commit.ensures.found c.commit.ensures.same) c.refuse-in-Unknown.ensures.refused

-- what has become of the batch
pub returns-in-Kept-clause-answered : goal.returns-in-Kept-clause-answered
returns-in-Kept-clause-answered g c =
    let noted = c.in-Kept.ensures.noted in
    record {
      ended = dones.Kept c.in-Kept.receipts;
      opened = c.commit.ensures.same;
      fit = c.commit.ensures.fit;
      does = λ fit b keeps. (let h = c.in-Kept.ensures.commits fit b keeps in (h.0, h.2));
      cause = λ fit b keeps. tt;
      halted = c.commit.ensures.halted;
      later = λ h. absurd (let clash = c.in-Kept.ensures.later h in cc);
      noted = (noted.0, noted.1, noted.2);
      log = noted.4;
      codes = c.publish-left.ensures.published.refused ∙ sym (append-nil c.args.publisher.now.refused);
      up = c.commit.ensures.up;
      own = c.commit.ensures.own;
      on = c.commit.ensures.goes_on;
      why = λ _. tt;
    }

pub returns-in-NotApplied-clause-answered : goal.returns-in-NotApplied-clause-answered
returns-in-NotApplied-clause-answered g c =
    let noted = c.in-NotApplied.ensures.noted in
    let was = c.args.publisher.now.refused in
    let fault = c.in-NotApplied.fault in
    let same = c.into_taken.ensures.same ∙ noted.3 in
    record {
      ended = dones.NotApplied fault;
      opened = c.commit.ensures.same;
      fit = c.commit.ensures.fit;
      does = λ fit b keeps. (let h = c.in-NotApplied.ensures.commits fit b keeps in (h.0, h.2));
      cause = λ fit b keeps. subst (λ (batch : List Taken). IsFor g.S.Store c.args.engine.now c.commit.new.self b c.args.batch (outcomes.NotApplied batch fault)) noted.3
          (c.in-NotApplied.ensures.cause fit b keeps);
      halted = c.commit.ensures.halted;
      later = λ h. absurd (let clash = c.in-NotApplied.ensures.later h in cc);
      noted = (noted.0, noted.1);
      log = noted.2 ∙ sym (append-nil c.args.engine.now.log);
      codes = c.refuse.ensures.refused.refused ∙ ap (λ (k : Code). was ++ map (refused_by k) c.into_taken.result.items) c.code.ensures
          ∙ ap (λ (ts : List Taken). was ++ map (refused_by (view_fault_code fault)) ts) same;
      up = c.commit.ensures.up;
      own = c.commit.ensures.own;
      on = c.commit.ensures.goes_on;
      why = λ fit. refused_done g.S.Store c.args.engine.now c.commit.new.self c.args.batch c.args.batch fault (c.commit.ensures.goes_on fit).counts
          (subst (λ (batch : List Taken). IsRefusedFor g.S.Store c.args.engine.now c.commit.new.self c.args.batch (outcomes.NotApplied batch fault)) noted.3 (c.in-NotApplied.ensures.why fit));
    }

pub returns-in-Unknown-clause-answered : goal.returns-in-Unknown-clause-answered
returns-in-Unknown-clause-answered g c =
    let noted = c.in-Unknown.ensures.noted in
    let same = c.into_taken-in-Unknown.ensures.same ∙ noted.3 in
    record {
      ended = dones.Unknown;
      opened = c.commit.ensures.same;
      fit = c.commit.ensures.fit;
      does = λ fit b keeps. (let h = c.in-Unknown.ensures.commits fit b keeps in (h.0, h.2));
      cause = λ fit b keeps. (c.in-Unknown._fault, c.in-Unknown.ensures.cause fit b keeps);
      halted = c.commit.ensures.halted;
      later = λ h. absurd (let clash = c.in-Unknown.ensures.later h in cc);
      noted = (noted.0, noted.1);
      log = noted.2 ∙ sym (append-nil c.args.engine.now.log);
      codes = c.refuse-in-Unknown.ensures.refused.refused ∙ ap (λ (ts : List Taken). c.args.publisher.now.refused ++ map (refused_by code.Unknown) ts) same;
      up = c.commit.ensures.up;
      own = c.commit.ensures.own;
      on = c.commit.ensures.goes_on;
      why = λ _. tt;
    }

pub returns-in-Halted-clause-answered : goal.returns-in-Halted-clause-answered
returns-in-Halted-clause-answered g c =
    let noted = c.in-Halted.ensures.noted in
    let same = c.into_taken-in-Halted.ensures.same ∙ noted.2 in
    record {
      ended = dones.Halted;
      opened = c.commit.ensures.same;
      fit = c.commit.ensures.fit;
      does = λ fit b keeps. (let h = c.in-Halted.ensures.commits fit b keeps in (h.0, h.2));
      cause = λ fit b keeps. tt;
      halted = c.commit.ensures.halted;
      later = λ _. refl;
      noted = (noted.0, noted.1);
      log = ap (λ (k : Keeping g.row.S.Denot). k.log) noted.1 ∙ sym (append-nil c.args.engine.now.log);
      codes = c.refuse-in-Halted.ensures.refused.refused ∙ ap (λ (ts : List Taken). c.args.publisher.now.refused ++ map (refused_by code.Halted) ts) same;
      up = c.commit.ensures.up;
      own = c.commit.ensures.own;
      on = c.commit.ensures.goes_on;
      why = λ _. tt;
    }

-- the runs that are let go of are over
pub returns-in-Kept-clause-lets_go : goal.returns-in-Kept-clause-lets_go
returns-in-Kept-clause-lets_go g c =
    let told = c.publish-left.ensures.published in
    record { more = take told.count c.in-Kept.stamp.closed; are = told.gone; over = over_some g.S.Store c.commit.new.self c.in-Kept.stamp.closed told.count c.in-Kept.ensures.closed }

pub returns-in-NotApplied-clause-lets_go : goal.returns-in-NotApplied-clause-lets_go
returns-in-NotApplied-clause-lets_go g c = lets_none g.S.Store c.commit.new.self c.args.publisher.now.gone c.refuse.new.self.gone c.refuse.ensures.refused.gone

pub returns-in-Unknown-clause-lets_go : goal.returns-in-Unknown-clause-lets_go
returns-in-Unknown-clause-lets_go g c = lets_none g.S.Store c.commit.new.self c.args.publisher.now.gone c.refuse-in-Unknown.new.self.gone c.refuse-in-Unknown.ensures.refused.gone

pub returns-in-Halted-clause-lets_go : goal.returns-in-Halted-clause-lets_go
returns-in-Halted-clause-lets_go g c = lets_none g.S.Store c.commit.new.self c.args.publisher.now.gone c.refuse-in-Halted.new.self.gone c.refuse-in-Halted.ensures.refused.gone
