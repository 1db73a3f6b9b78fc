use Rattle.std.proofs.Common.{List, subst}
use Rattle.flow_base.specs.declared.submission.Taken.{Taken}
use Rattle.flow_commit.specs.Committing.{IsFor, IsRefusedFor}
use Rattle.flow_commit.specs.declared.outcome.Outcome.TheVariants.{NotApplied}
use Rattle.flow_engine.proofs.GivingUp.{refused_done}
use Rattle.flow_engine.proofs.drive.done_with.Goals as goal

pub returns-in-Kept-clause-does : goal.returns-in-Kept-clause-does
returns-in-Kept-clause-does g c fit b keeps =
    let h = c.in-Kept.ensures.commits fit b keeps in
    (h.0, h.2)

pub returns-in-NotApplied-clause-does : goal.returns-in-NotApplied-clause-does
returns-in-NotApplied-clause-does g c fit b keeps =
    let h = c.in-NotApplied.ensures.commits fit b keeps in
    (h.0, h.2)

pub returns-in-Unknown-clause-does : goal.returns-in-Unknown-clause-does
returns-in-Unknown-clause-does g c fit b keeps =
    let h = c.in-Unknown.ensures.commits fit b keeps in
    (h.0, h.2)

pub returns-in-NotApplied-clause-cause : goal.returns-in-NotApplied-clause-cause
returns-in-NotApplied-clause-cause g c fit b keeps =
    let h = c.in-NotApplied.ensures.commits fit b keeps in
    subst (λ (batch : List Taken). IsFor g.S.Store c.args.engine.now c.commit.new.self b c.args.batch (NotApplied batch c.in-NotApplied.fault)) h.1 (c.in-NotApplied.ensures.cause fit b keeps)

pub returns-in-NotApplied-clause-why : goal.returns-in-NotApplied-clause-why
returns-in-NotApplied-clause-why g c fit =
    let why = subst (λ (batch : List Taken). IsRefusedFor g.S.Store c.args.engine.now c.commit.new.self c.args.batch (NotApplied batch c.in-NotApplied.fault)) c.in-NotApplied.ensures.noted.3 (c.in-NotApplied.ensures.why fit) in
    refused_done g.S.Store c.args.engine.now c.commit.new.self c.args.batch c.args.batch c.in-NotApplied.fault (c.commit.ensures.goes_on fit).counts why

pub returns-in-Unknown-clause-cause : goal.returns-in-Unknown-clause-cause
returns-in-Unknown-clause-cause g c fit b keeps = (c.in-Unknown._fault, c.in-Unknown.ensures.cause fit b keeps)
