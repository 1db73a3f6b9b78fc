use Rattle.std.proofs.Common.{refl, rules, subst}
use Rattle.std.proofs.lemmas.Result.{err_from_is_err_and}
use Rattle.flow_lines.specs.Commands.{line_command}
use Rattle.flow_hub.specs.Knowing.{nothing}
use Rattle.flow_work.specs.Counting.{Counted}
use Rattle.flow_work.proofs.Ran.{has_run, not_run}
use Rattle.flow_work.proofs.Served.{prints}
use Rattle.flow_work.proofs.running.work_in.Goals as goal

-- it has served
pub returns-in-Ok-clause-ran : goal.returns-in-Ok-clause-ran
returns-in-Ok-clause-ran g c =
    let s = c.serve_new-served in
    has_run g.S.Store c.args.engine.now s.new.engine c.ended_with.result _ s.result c.ended_with.ensures.served s.ensures.served s.ensures.ends s.ensures.goes_on s.ensures.found s.ensures.follows

-- it has printed replies
pub returns-in-Ok-clause-printed : goal.returns-in-Ok-clause-printed
returns-in-Ok-clause-printed g c =
    let tells = g.C.Clock.tells c.args.clock in
    let first = g.W.Write.contents c.args.writer in
    let answered = c.join-answered.result.left in
    let after = c.ended_with in
    let counted = c.join-answered.ensures.owes.counted first c.in-Ok.ensures.page.0 c.in-Ok.ensures.page.1 refl in
    let now : Counted line_command tells first nothing answered.submitter answered.lines answered.page = subst (λ (k : g.row.C.Denot). Counted line_command (g.C.Clock.tells k) first nothing answered.submitter answered.lines answered.page) c.in-Ok.ensures.owed counted in
    prints g.S.Store tells c.args.engine.now c.serve_new-served.new.engine first (g.W.Write.contents after.result.writer) after.result.status answered.lines c.serve_new-served.new.publisher after.new.publisher answered.submitter answered.page now
    c.serve_new-served.ensures.hub after.ensures.part after.ensures.submitter after.ensures.printed.0 after.ensures.printed.1

pub returns-in_err-publisher-clause-ran : goal.returns-in_err-publisher-clause-ran
returns-in_err-publisher-clause-ran g c =
    let p = err_from_is_err_and c.from_residual.result c.from_residual.ensures.1 in
    rw p.1 (not_run g.S.Store c.args.engine.now _ p.0 p.2)

pub returns-clause-ran : goal.returns-clause-ran
returns-clause-ran g c = not_run g.S.Store c.args.engine.now _ c.in-Err.fault c.in-Err.ensures.refused

pub serve_new-served-requires-clause-fresh : goal.serve_new-served-requires-clause-fresh
serve_new-served-requires-clause-fresh g c = c.requires.fresh
