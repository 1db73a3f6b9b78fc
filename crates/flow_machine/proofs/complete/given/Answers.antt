use Rattle.std.proofs.Common.{rules, ◌≡◌, true}
use Rattle.flow_model.specs.Checked.{shown_checked}
use Rattle.flow_model.specs.Apply.{gives_kind}
use Rattle.flow_machine.specs.ByHead.{given_at}
use Rattle.flow_machine.proofs.Stepping.{given_sticks}
use Rattle.flow_machine.proofs.complete.given.Goals as goal

pub returns : goal.returns
unfolding given_at
returns g c =
    let book = g.V.View.book in
    let old = book c.args.view.now in
    let going = c.in_ok-going.going in
    let scheduled = c.in_ok-scheduled.scheduled in
    let given : gives_kind scheduled c.args.asked.now.value ≡ true = search rules in
    record {
      comes = search rules;
      sticks = λ sure.
          let seen = c.in_ok-scheduled.ensures.reads (c.set_out.ensures.called.sure sure) in
          given_sticks g.P.Programs.meaning old (book c.event.new.self) seen.0 (shown_checked going.program.value) going.number going.input c.args.head c.args.asked.now c.in_ok-copy.field-0 scheduled seen.1 given c.in_ok-copy.ensures
          (c.in_ok-going.ensures.stuck sure);
      called = search rules;
    }
