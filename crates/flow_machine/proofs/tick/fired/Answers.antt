use Rattle.std.proofs.Common.{rules, ◌≡◌, Some}
use Rattle.flow_model.specs.Checked.{shown_checked}
use Rattle.flow_view.specs.Heads.{head_at}
use Rattle.flow_machine.proofs.Stepping.{fired_sticks}
use Rattle.flow_machine.proofs.tick.fired.Goals as goal

pub returns-clause-stuck : goal.returns-clause-stuck
returns-clause-stuck g c = λ sure.
    let book = g.V.View.book in
    let old = book c.args.view.now in
    let seen = c.in_ok-head.ensures.reads (c.set_out.ensures.called.sure sure) in
    let going = c.in_ok-going.going in
    let there : Some c.in-Some.head ≡ head_at old.runs c.args.due.run = search rules in
    fired_sticks g.P.Programs.meaning old (book c.head.new.self) seen.0 (shown_checked going.program.value) going.number going.input c.in-Some.head c.args.due there (c.in_ok-going.ensures.stuck sure)
