use Rattle.std.proofs.Common.{sym, subst}
use Rattle.flow_lines.specs.Commands.{line_command}
use Rattle.flow_hub.specs.Knowing.{nothing}
use Rattle.flow_work.specs.Counting.{Counted}
use Rattle.flow_work.proofs.Counting.{counted_later}
use Rattle.flow_work.proofs.clerk.Clerk.rest.Goals as goal

pub returns-clause-counted : goal.returns-clause-counted
returns-clause-counted g c =
    let old = c.args.self.now in
    let tells = g.C.Clock.tells c.args.clock.now in
    let new = c.rest.new.self in
    λ first k. subst (Counted line_command tells first nothing new.submitter old.lines) (sym c.rest.ensures.page)
    (counted_later line_command tells first nothing old.desk.submitter new.submitter old.lines old.desk.page c.rest.ensures.same c.rest.ensures.grows k)

pub returns-clause-grows : goal.returns-clause-grows
returns-clause-grows g c = c.rest.ensures.grows

pub returns-clause-same : goal.returns-clause-same
returns-clause-same g c = c.rest.ensures.same

pub returns-clause-page : goal.returns-clause-page
returns-clause-page g c = c.rest.ensures.page
