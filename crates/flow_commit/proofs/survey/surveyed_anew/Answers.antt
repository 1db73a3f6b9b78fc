use Rattle.std.proofs.Common.{◌∙◌}
use Rattle.flow_commit.proofs.Following.{fit_before, follows_then, keeps_behind}
use Rattle.flow_commit.proofs.Ends.{caused_on, fault_on}
use Rattle.flow_commit.proofs.Sealing.{ok_one, follows_sealed, failed_after, down_on}
use Rattle.flow_commit.proofs.survey.surveyed_anew.Goals as goal

pub returns-in-Ok-clause-made : goal.returns-in-Ok-clause-made
returns-in-Ok-clause-made g c = ok_one _ _ c.sealed.result (λ d same fit b keeps. same ∙ (c.in-Ok.ensures.made (c.sealed.ensures.fit fit) b keeps).0) c.sealed.ensures.same

pub returns-in-Ok-clause-follows : goal.returns-in-Ok-clause-follows
returns-in-Ok-clause-follows g c =
    let old = c.args.tables.now in
    let mid = c.drafted.new.tables in
    let new = c.sealed.new.tables in
    follows_sealed g.S.Store old mid new c.drafted.ensures.follows c.sealed.ensures.opened c.sealed.ensures.fit c.sealed.ensures.up c.sealed.ensures.since
    (λ fit b keeps. let was = c.sealed.ensures.fit fit in c.sealed.ensures.keeps fit b (keeps_behind g.S.Store old mid c.drafted.ensures.follows was b keeps) (c.in-Ok.ensures.made was b keeps).1)

pub returns-in-Ok-clause-own : goal.returns-in-Ok-clause-own
returns-in-Ok-clause-own g c fit = c.drafted.ensures.own (c.sealed.ensures.fit fit)

pub returns-in-Ok-clause-cause : goal.returns-in-Ok-clause-cause
returns-in-Ok-clause-cause g c fit =
    let was = c.sealed.ensures.fit fit in
    caused_on _ _ c.sealed.result (failed_after g.S.Store c.args.tables.now c.drafted.new.tables c.sealed.new.tables c.drafted.ensures.follows was) (c.sealed.ensures.cause fit (c.in-Ok.ensures.sure was))

pub returns-in-Err-clause-follows : goal.returns-in-Err-clause-follows
returns-in-Err-clause-follows g c = follows_then g.S.Store c.args.tables.now c.drafted.new.tables c.roll_back.new.tables c.drafted.ensures.follows c.roll_back.ensures.follows

pub returns-in-Err-clause-own : goal.returns-in-Err-clause-own
returns-in-Err-clause-own g c fit = c.drafted.ensures.own (fit_before g.S.Store c.drafted.new.tables c.roll_back.new.tables c.roll_back.ensures.follows fit)

pub returns-in-Err-clause-cause : goal.returns-in-Err-clause-cause
returns-in-Err-clause-cause g c fit =
    fault_on _ _ c.in-Err.fault (down_on g.S.Store c.args.tables.now c.drafted.new.tables c.roll_back.new.tables c.roll_back.ensures.follows fit) (c.in-Err.ensures.cause (fit_before g.S.Store c.drafted.new.tables c.roll_back.new.tables c.roll_back.ensures.follows fit))

pub returns-in-Ok-clause-rest : goal.returns-in-Ok-clause-rest
returns-in-Ok-clause-rest g c fit = c.sealed.ensures.rest fit.1 (c.in-Ok.ensures.sure (c.sealed.ensures.fit fit))
