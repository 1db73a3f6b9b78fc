use Rattle.flow_work.specs.Questions.{line_served}
use Rattle.flow_work.proofs.Counting.{all_told, over}
use Rattle.flow_work.proofs.Failing.{tells_failed}
use Rattle.flow_work.proofs.Listening.{all_over}
use Rattle.flow_work.proofs.counter.Counter.end.Goals as goal

pub returns-clause-counted : goal.returns-clause-counted
returns-clause-counted g c =
    let old = c.args.self.now in
    let tells = g.C.Clock.tells c.args.clock.now in
    let told = c.tell_all in
    let new = told.new.self in
    λ first k. c.print_all.ensures.counted first
    (all_told line_served tells first old.feed old.desk.submitter new.submitter old.desk.pending.lines.items new.pending.lines.items old.lines old.desk.page new.page told.ensures.same told.ensures.grows told.ensures.told k)

pub returns-clause-ends : goal.returns-clause-ends
returns-clause-ends g c =
    let old = c.args.self.now in
    let tells = g.C.Clock.tells c.args.clock.now in
    let told = c.tell_all in
    let new = told.new.self in
    let last = c.print_all in
    let now = last.new.self in
    λ first k. all_over line_served tells new.submitter now.desk.submitter new.pending.lines.items now.desk.pending.lines.items now.feed last.ensures.submitter last.ensures.pending last.ensures.all
    (over line_served tells first old.feed old.desk.submitter new.submitter old.desk.pending.lines.items new.pending.lines.items old.lines old.desk.page told.ensures.same told.ensures.grows told.ensures.ends k)

pub returns-clause-failed : goal.returns-clause-failed
returns-clause-failed g c =
    let told = c.tell_all in
    let h = told.ensures.told in
    λ e. c.print_all.ensures.failed (tells_failed told.new.self.submitter h.told c.args.self.now.desk.page told.new.self.page h.printed e)
