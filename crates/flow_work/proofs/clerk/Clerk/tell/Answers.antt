use Rattle.flow_lines.specs.Commands.{line_command}
use Rattle.flow_hub.specs.Knowing.{nothing}
use Rattle.flow_work.proofs.Counting.{goes_told, quits}
use Rattle.flow_work.proofs.Silence.{fewer, silent_first}
use Rattle.flow_work.proofs.clerk.Clerk.tell.Goals as goal

pub returns-clause-counted : goal.returns-clause-counted
returns-clause-counted g c =
    let old = c.args.self.now in
    let tells = g.C.Clock.tells c.args.clock.now in
    let told = c.tell_oldest in
    let new = told.new.self in
    λ first k. goes_told line_command tells first nothing old.desk.submitter new.submitter told.result old.desk.pending.lines.items new.pending.lines.items old.lines old.desk.page new.page told.ensures.same told.ensures.grows told.ensures.told k

pub returns-clause-quits : goal.returns-clause-quits
returns-clause-quits g c =
    let old = c.args.self.now in
    let tells = g.C.Clock.tells c.args.clock.now in
    let told = c.tell_oldest in
    let new = told.new.self in
    let oldest = told.ensures.oldest in
    λ first k off. quits line_command tells first nothing old.desk.submitter new.submitter old.desk.pending.lines.items old.lines old.desk.page told.ensures.same told.ensures.grows
    (silent_first new.submitter old.desk.pending.lines.items new.pending.lines.items oldest.0 told.result oldest.1 off) k

pub returns-clause-fewer : goal.returns-clause-fewer
returns-clause-fewer g c =
    let told = c.tell_oldest in
    let new = told.new.self in
    let oldest = told.ensures.oldest in
    fewer new.submitter c.args.self.now.desk.pending.lines.items new.pending.lines.items oldest.0 told.result oldest.1
