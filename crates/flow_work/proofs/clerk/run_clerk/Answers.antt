use Rattle.std.proofs.Common.{◌≡◌, ◌∙◌, ap, sym, refl, []}
use Rattle.flow_lines.specs.Commands.{line_command}
use Rattle.flow_hub.specs.Knowing.{nothing}
use Rattle.flow_work.specs.Inputs.{lines_in}
use Rattle.flow_work.specs.Printing.{Printed, blank}
use Rattle.flow_work.proofs.Counting.{counts_as, counted_as}
use Rattle.flow_work.proofs.Ending.{has_ended}
use Rattle.flow_work.proofs.clerk.run_clerk.Goals as goal

pub returns-clause-owes : goal.returns-clause-owes
returns-clause-owes g c =
    let tells = g.C.Clock.tells c.args.clock.now in
    let made = c.new-clerk.result in
    let now = c.rest.new.self in
    record {
      counted = λ first page none fed.
          let page' : made.desk.page ≡ blank first = cc (c.new-clerk.ensures.0, page) in
          let none' : made.desk.pending.lines.items ≡ [] = cc (c.new-clerk.ensures.0, none) in
          let told = c.into_answered in
          counted_as line_command tells first nothing nothing now.desk.submitter told.result.submitter now.lines told.result.lines now.desk.page told.result.page refl told.ensures.1 told.ensures.2 told.ensures.0
          (c.rest.ensures.counted first (c.answer_lines.ensures.counted first (counts_as line_command tells first nothing made.desk.submitter made.desk.pending.lines.items made.lines made.desk.page refl none' c.new-clerk.ensures.1 page')));
    }

pub returns-clause-ended : goal.returns-clause-ended
returns-clause-ended g c =
    let tells = g.C.Clock.tells c.args.clock.now in
    let made = c.new-clerk.result in
    let mid = c.answer_lines.new.self in
    let now = c.rest.new.self in
    let told = c.into_answered in
    let status : told.result.page.status ≡ mid.desk.page.status = ap (λ (p : Printed). p.status) told.ensures.0 ∙ ap (λ (p : Printed). p.status) c.rest.ensures.page in
    λ first page none.
    let page' : made.desk.page ≡ blank first = cc (c.new-clerk.ensures.0, page) in
    let none' : made.desk.pending.lines.items ≡ [] = cc (c.new-clerk.ensures.0, none) in
    has_ended line_command tells mid.desk.submitter now.desk.submitter told.result.submitter mid.desk.pending.lines.items told.result.page.status mid.desk.page.status (g.G.Giving.given c.answer_lines.new.inputs) c.rest.ensures.same c.rest.ensures.grows
    told.ensures.1 status
    (c.answer_lines.ensures.ends first (counts_as line_command tells first nothing made.desk.submitter made.desk.pending.lines.items made.lines made.desk.page refl none' c.new-clerk.ensures.1 page'))

pub returns-clause-took : goal.returns-clause-took
returns-clause-took g c =
    λ none. c.into_answered.ensures.2 ∙ (c.rest.ensures.lines ∙ c.answer_lines.ensures.lines (c.new-clerk.ensures.1 ∙ sym (ap lines_in none)))

pub returns-clause-rested : goal.returns-clause-rested
returns-clause-rested g c = rw c.into_answered.ensures.1 c.rest.ensures.rested
