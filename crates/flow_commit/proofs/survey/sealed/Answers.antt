use Rattle.std.proofs.Common.{◌≡◌, codes, inl, inr, subst}
use Rattle.flow_tables.specs.declared.fault.Uncommitted.{Uncommitted}
use Rattle.flow_tables.specs.Faults.{IsCutOff, WasFor}
use Rattle.flow_tables.specs.Owned.{is_sure, IsBarred, Keeps, state_of, book_now}
use Rattle.flow_commit.proofs.Sealing.{kept_either, cut_failed}
use Rattle.flow_commit.proofs.survey.sealed.Goals as goal

pub returns-in-Ok-clause-keeps : goal.returns-in-Ok-clause-keeps
returns-in-Ok-clause-keeps g c fit b keeps same = subst (λ k. Keeps (state_of g.S.Store c.commit.new.self) k) same (c.in-Ok.ensures.kept fit).1

pub returns-in-Err-Cut-clause-keeps : goal.returns-in-Err-Cut-clause-keeps
returns-in-Err-Cut-clause-keeps g c fit b keeps same =
    kept_either g.S.Store c.commit.new.self (is_sure g.S.Store c.args.tables.now) b (book_now g.S.Store c.args.tables.now) same ((c.in-Err-Cut.ensures.unknown fit).1 b keeps) (λ up. c.in-Err-Cut.ensures.still fit up b keeps)

pub returns-clause-keeps : goal.returns-clause-keeps
returns-clause-keeps g c fit b keeps same =
    kept_either g.S.Store c.commit.new.self (is_sure g.S.Store c.args.tables.now) b (book_now g.S.Store c.args.tables.now) same ((c.in-Err-Barred.ensures.unknown fit).1 b keeps) (λ up. c.in-Err-Barred.ensures.still fit up b keeps)

pub returns-in-Ok-clause-fit : goal.returns-in-Ok-clause-fit
returns-in-Ok-clause-fit g c fit = (c.commit.ensures.unknown fit).0

pub returns-in-Err-Cut-clause-fit : goal.returns-in-Err-Cut-clause-fit
returns-in-Err-Cut-clause-fit g c fit = (c.commit.ensures.unknown fit).0

pub returns-clause-fit : goal.returns-clause-fit
returns-clause-fit g c fit = (c.commit.ensures.unknown fit).0

pub returns-in-Err-Cut-clause-cause : goal.returns-in-Err-Cut-clause-cause
returns-in-Err-Cut-clause-cause g c fit sure =
    let old = state_of g.S.Store c.args.tables.now in
    let new = state_of g.S.Store c.commit.new.self in
    let refused = subst (λ (u : Uncommitted). WasFor (IsCutOff (codes "COMMIT") old new) (IsBarred old c.args.tables.now.refused) u) c.in-Err-Cut.field-0-is (c.in-Err-Cut.ensures.refused fit.1) in
    cut_failed g.S.Store c.args.tables.now c.commit.new.self c.in-Err-Cut.cut.fault sure (inl refused)

pub returns-clause-cause : goal.returns-clause-cause
returns-clause-cause g c fit sure =
    let old = state_of g.S.Store c.args.tables.now in
    let new = state_of g.S.Store c.commit.new.self in
    let refused = subst (λ (u : Uncommitted). WasFor (IsCutOff (codes "COMMIT") old new) (IsBarred old c.args.tables.now.refused) u) c.in-Err-Barred.field-0-is (c.in-Err-Barred.ensures.refused fit.1) in
    cut_failed g.S.Store c.args.tables.now c.commit.new.self c.in-Err-Barred.fault sure (inr refused)
