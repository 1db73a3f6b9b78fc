use Rattle.std.proofs.Common.{rules}
use Rattle.flow_model.specs.Apply.{rules_of}
use Rattle.flow_machine.proofs.Taking.{fit_over}
use Rattle.flow_machine.proofs.TicksDecide.{ticked}
use Rattle.flow_machine.proofs.tick.tick.Goals as goal

pub returns-clause-decides : goal.returns-clause-decides
returns-clause-decides g c = λ sure fit.
    let book = g.V.View.book in
    let fired = c.in_ok-count.ensures.fires (c.least_due.ensures.sure sure) fit in
    let is = ticked (rules_of g.P.Programs.meaning) c.args.at (book c.args.view.now) (book c.fire_due.new.view) (book c.least_due.new.self) c.in_ok-due.due c.new-changes.result.items
    c.fire_due.new.changes.items c.in_ok-count.count c.new-changes.ensures.items fired (c.in_ok-due.ensures.reads sure) in
    search (rules, is)

pub returns-clause-fit : goal.returns-clause-fit
returns-clause-fit g c = λ sure fit.
    let book = g.V.View.book in
    fit_over g.P.Programs.meaning (book c.fire_due.new.view) (book c.least_due.new.self) c.fire_due.new.seats (c.in_ok-due.ensures.reads sure).0 (c.in_ok-count.ensures.fit (c.least_due.ensures.sure sure) fit)
