use Rattle.std.proofs.Common.{ap, sym, ◌∙◌}
use Rattle.flow_work.specs.Questions.{line_served}
use Rattle.flow_work.proofs.Counting.{goes_fed}
use Rattle.flow_work.proofs.Listening.{closed_fed}
use Rattle.flow_work.proofs.counter.Counter.listen.Goals as goal

pub returns-clause-counted : goal.returns-clause-counted
returns-clause-counted g c =
    let old = c.args.self.now in
    let tells = g.C.Clock.tells c.args._clock.now in
    let new = c.print_fed.new.self in
    λ first k. goes_fed line_served tells first c.is_open.result old.feed c.listen-fed.new.self old.desk.submitter new.submitter old.desk.pending.lines.items new.pending.lines.items old.lines c.listen-fed.result old.desk.page new.page
    c.print_fed.ensures.submitter (ap (λ q. q.lines.items) c.print_fed.ensures.pending) c.listen-fed.ensures.fed c.print_fed.ensures.printed k

pub returns-clause-closed : goal.returns-clause-closed
returns-clause-closed g c =
    let old = c.args.self.now in
    λ off. closed_fed old.feed c.listen-fed.new.self c.listen-fed.result c.listen-fed.ensures.fed (sym c.is_open.ensures ∙ off)

pub returns-clause-listens : goal.returns-clause-listens
returns-clause-listens g c = (c.listen-fed.result, c.listen-fed.ensures.fed)
