use Rattle.std.proofs.Common.{◌≡◌, ◌+◌, ◌∙◌, ap, Some}
use Rattle.std.specs.Prelude.{length}
use Rattle.flow_model.specs.Checked.{shown_checked}
use Rattle.flow_machine.proofs.Seating.{begun_leads}
use Rattle.flow_machine.proofs.start.start_run.Goals as goal

pub returns-clause-leads : goal.returns-clause-leads
returns-clause-leads g c = λ sure m reads.
    let old = g.V.View.book c.args.view.now in
    let run = c.in_ok-changes.ensures.run in
    let counted = c.in_ok-run_count.ensures.reads sure in
    let number : c.in_ok-number.number ≡ length old.runs + 1 = c.in_ok-number.ensures.next ∙ ap (λ n. n + 1) counted.1 in
    begun_leads m old c.args.asked.now.flow (Some c.args.asked.now.request) c.args.asked.now.text c.args.asked.now.at c.in_ok-number.number c.args.asked.now.arguments (shown_checked c.args.program.now) run.0 c.in_ok-changes.stance c.led_by.result c.in_ok-changes.changes.items reads run.1.1.1 run.1.1.0 number c.led_by.ensures
