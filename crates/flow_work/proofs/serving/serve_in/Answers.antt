use Rattle.std.proofs.Common.{List, rules, subst, sym}
use Rattle.std.proofs.lemmas.Result.{err_from_is_err_and}
use Rattle.flow_work.specs.Counting.{Counted, IsStatusOf}
use Rattle.flow_work.specs.declared.shown.Shown.{Shown}
use Rattle.flow_work.specs.Questions.{line_served}
use Rattle.flow_work.proofs.Ran.{has_run, not_run}
use Rattle.flow_work.proofs.Served.{shows}
use Rattle.flow_work.proofs.serving.serve_in.Goals as goal

pub returns-in-Ok-clause-shown : goal.returns-in-Ok-clause-shown
returns-in-Ok-clause-shown g c =
    let tells = g.C.Clock.tells c.args.clock in
    let first = g.W.Write.contents c.args.writer in
    let told = c.join-told.result.left in
    let after = c.taken_back in
    let printed = after.result in
    let counted = c.join-told.ensures.owes.counted first c.in-Ok.ensures.page.0 c.in-Ok.ensures.page.1 c.in-Ok.ensures.owed.0 in
    let now : Counted line_served tells first told.feed told.submitter told.lines told.page = subst (λ (k : g.row.C.Denot). Counted line_served (g.C.Clock.tells k) first told.feed told.submitter told.lines told.page) c.in-Ok.ensures.owed.1 counted in
    shows g.S.Store tells c.args.engine.now c.serve_new-served.new.engine first (g.W.Write.contents printed.ended.writer) printed.is_mute told.lines printed.lines printed.shown told.feed c.serve_new-served.new.publisher after.new.publisher
    told.submitter told.page now c.serve_new-served.ensures.hub after.ensures.part after.ensures.submitter after.ensures.feed after.ensures.printed.0 after.ensures.printed.1 after.ensures.lines after.ensures.printed.2

-- it has served
pub returns-in-Ok-clause-ran : goal.returns-in-Ok-clause-ran
returns-in-Ok-clause-ran g c =
    let s = c.serve_new-served in
    has_run g.S.Store c.args.engine.now s.new.engine c.taken_back.result _ s.result c.taken_back.ensures.served s.ensures.served s.ensures.ends s.ensures.goes_on s.ensures.found s.ensures.follows

pub returns-in-Ok-clause-status : goal.returns-in-Ok-clause-status
returns-in-Ok-clause-status g c =
    let first = g.W.Write.contents c.args.writer in
    let told = c.join-told.result.left in
    let after = c.taken_back in
    let counted = c.join-told.ensures.owes.counted first c.in-Ok.ensures.page.0 c.in-Ok.ensures.page.1 c.in-Ok.ensures.owed.0 in
    let printed = after.ensures.printed in
    subst (λ b. IsStatusOf b after.result.shown after.result.ended.status) (sym printed.1)
    (subst (λ (xs : List Shown). IsStatusOf told.page.is_mute xs after.result.ended.status) (sym printed.2)
    (subst (IsStatusOf told.page.is_mute told.page.shown) (sym after.ensures.status) counted.says.status))

pub returns-in_err-publisher-clause-ran : goal.returns-in_err-publisher-clause-ran
returns-in_err-publisher-clause-ran g c =
    let p = err_from_is_err_and c.from_residual.result c.from_residual.ensures.1 in
    rw p.1 (not_run g.S.Store c.args.engine.now _ p.0 p.2)

pub returns-clause-ran : goal.returns-clause-ran
returns-clause-ran g c = not_run g.S.Store c.args.engine.now _ c.in-Err.fault c.in-Err.ensures.refused

pub serve_new-served-requires-clause-fresh : goal.serve_new-served-requires-clause-fresh
serve_new-served-requires-clause-fresh g c = c.requires.fresh
