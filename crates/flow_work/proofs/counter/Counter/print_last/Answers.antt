use Rattle.std.proofs.Common.{ap, sym, ◌∙◌}
use Rattle.flow_work.specs.Questions.{line_served}
use Rattle.flow_work.proofs.Counting.{counted_fed}
use Rattle.flow_work.proofs.Failing.{fed_failed}
use Rattle.flow_work.proofs.Listening.{all_fed}
use Rattle.flow_work.proofs.counter.Counter.print_last.Goals as goal

pub returns-clause-counted : goal.returns-clause-counted
returns-clause-counted g c =
    let old = c.args.self.now in
    let tells = g.C.Clock.tells c.args._clock.now in
    let new = c.print_fed.new.self in
    λ first k. counted_fed line_served tells first old.feed c.last-fed.new.self old.desk.submitter new.submitter old.lines c.last-fed.result old.desk.page new.page c.print_fed.ensures.submitter c.last-fed.ensures.fed c.print_fed.ensures.printed k

pub returns-clause-all : goal.returns-clause-all
returns-clause-all g c =
    let old = c.args.self.now in
    λ off. all_fed old.feed c.last-fed.new.self c.last-fed.result c.last-fed.ensures.fed c.last-fed.ensures.last (sym c.is_task.ensures ∙ off)

pub returns-clause-pending : goal.returns-clause-pending
returns-clause-pending g c = ap (λ q. q.lines.items) c.print_fed.ensures.pending

pub returns-clause-submitter : goal.returns-clause-submitter
returns-clause-submitter g c = c.print_fed.ensures.submitter

pub returns-clause-failed : goal.returns-clause-failed
returns-clause-failed g c = λ e. fed_failed c.last-fed.result c.args.self.now.desk.page c.print_fed.new.self.page c.print_fed.ensures.printed e
