use Rattle.flow_lines.specs.Commands.{line_command}
use Rattle.flow_hub.specs.Knowing.{nothing}
use Rattle.flow_work.proofs.Counting.{all_told, over}
use Rattle.flow_work.proofs.Failing.{tells_failed}
use Rattle.flow_work.proofs.clerk.Clerk.end.Goals as goal

pub returns-clause-counted : goal.returns-clause-counted
returns-clause-counted g c =
    let old = c.args.self.now in
    let tells = g.C.Clock.tells c.args.clock.now in
    let told = c.tell_all in
    let new = told.new.self in
    λ first k. all_told line_command tells first nothing old.desk.submitter new.submitter old.desk.pending.lines.items new.pending.lines.items old.lines old.desk.page new.page told.ensures.same told.ensures.grows told.ensures.told k

pub returns-clause-ends : goal.returns-clause-ends
returns-clause-ends g c =
    let old = c.args.self.now in
    let tells = g.C.Clock.tells c.args.clock.now in
    let told = c.tell_all in
    let new = told.new.self in
    λ first k. over line_command tells first nothing old.desk.submitter new.submitter old.desk.pending.lines.items new.pending.lines.items old.lines old.desk.page told.ensures.same told.ensures.grows told.ensures.ends k

pub returns-clause-failed : goal.returns-clause-failed
returns-clause-failed g c =
    let told = c.tell_all in
    let h = told.ensures.told in
    λ e. tells_failed told.new.self.submitter h.told c.args.self.now.desk.page told.new.self.page h.printed e
