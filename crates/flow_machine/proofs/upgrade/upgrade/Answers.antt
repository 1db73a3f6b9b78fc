use Rattle.std.proofs.Common.{rules, ◌≡◌, Some}
use Rattle.flow_model.specs.Apply.{program_at}
use Rattle.flow_model.specs.Book.{nth}
use Rattle.flow_model.specs.Checked.{shown_checked}
use Rattle.flow_machine.proofs.GoingOn.{text_leads}
use Rattle.flow_machine.proofs.upgrade.upgrade.Goals as goal

pub returns-clause-leads : goal.returns-clause-leads
returns-clause-leads g c = λ sure.
    let old = g.V.View.book c.args.view.now in
    let run = c.in_ok-run.ensures.reads (c.text.ensures.sure sure) in
    let body = c.in_ok-body.ensures.reads sure in
    let there : nth old.runs c.args.number ≡ Some c.in-Some.run' = search rules in
    let reads : program_at g.P.Programs.meaning old c.args.text ≡ Some (shown_checked c.in_ok-program.program.value) = search rules in
    text_leads g.P.Programs.meaning old c.args.number c.args.text c.in-Some.run' (shown_checked c.in_ok-program.program.value) c.in_ok-reply.changes.items c.in_ok-reply.led there reads (search rules)
