use Rattle.std.proofs.Common.{◌≡◌, ap}
use Rattle.flow_work.specs.Questions.{line_served}
use Rattle.flow_work.proofs.Counting.{counts_failed}
use Rattle.flow_work.proofs.Failing.{served_failed}
use Rattle.flow_work.specs.Printing.{Printed}
use Rattle.flow_work.proofs.counter.Counter.fail.Goals as goal

pub returns-clause-counted : goal.returns-clause-counted
returns-clause-counted g c =
    let old = c.args.self.now in
    let tells = g.C.Clock.tells c.args.clock.now in
    let new = c.fail.new.self in
    λ first k. c.end.ensures.counted first
    (counts_failed line_served tells first old.feed old.desk.submitter new.submitter old.desk.pending.lines.items new.pending.lines.items old.lines old.desk.page new.page c.fail.ensures.submitter (ap (λ q. q.lines.items) c.fail.ensures.pending)
    c.fail.ensures.page k)

pub returns-clause-ends : goal.returns-clause-ends
returns-clause-ends g c =
    let old = c.args.self.now in
    let tells = g.C.Clock.tells c.args.clock.now in
    let new = c.fail.new.self in
    let now = c.end.new.self in
    let failed : new.page.status ≡ 3 = ap (λ (p : Printed). p.status) c.fail.ensures.page in
    λ first k. served_failed now.desk.pending.lines.items now.feed now.desk.page.status (c.end.ensures.failed failed)
    (c.end.ensures.ends first
    (counts_failed line_served tells first old.feed old.desk.submitter new.submitter old.desk.pending.lines.items new.pending.lines.items old.lines old.desk.page new.page c.fail.ensures.submitter (ap (λ q. q.lines.items) c.fail.ensures.pending)
    c.fail.ensures.page k))
