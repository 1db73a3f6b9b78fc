use Rattle.std.proofs.Common.{◌≡◌, ◌∙◌, ap, rules, sym, subst, List, [], ℕ}
use Rattle.flow_work.specs.Inputs.{lines_in}
use Rattle.flow_work.specs.Questions.{line_served}
use Rattle.flow_hub.specs.Knowing.{nothing}
use Rattle.flow_work.specs.Counting.{Counts, Counted}
use Rattle.flow_work.specs.Printing.{Printed, blank}
use Rattle.flow_work.proofs.Counting.{counts_none, counts_as, counted_as}
use Rattle.flow_work.proofs.Ending.{has_shut}
use Rattle.flow_work.proofs.teller.run_teller.Goals as goal

pub returns : goal.returns
returns g c =
    let tells = g.C.Clock.tells c.args.clock.now in
    let made = c.new-counter.result in
    let now = c.serve_lines.new.self in
    let told = c.into_told-left in
    let status : told.result.page.status ≡ now.desk.page.status = ap (λ (p : Printed). p.status) told.ensures.0 in
    rw c.of-given.ensures (record {
      owes = record {
        counted = λ first page none fed.
            let page' : made.desk.page ≡ blank first = cc (c.new-counter.ensures.0, page) in
            let none' : made.desk.pending.lines.items ≡ [] = cc (c.new-counter.ensures.0, none) in
            let fed' : made.feed ≡ nothing = cc (c.new-counter.ensures.1, fed) in
            counted_as line_served tells first now.feed told.result.feed now.desk.submitter told.result.submitter now.lines told.result.lines now.desk.page told.result.page told.ensures.2 told.ensures.1 told.ensures.3 told.ensures.0
            (c.serve_lines.ensures.counted first (counts_as line_served tells first made.feed made.desk.submitter made.desk.pending.lines.items made.lines made.desk.page fed' none' c.new-counter.ensures.2 page'));
      };
      ended = λ first page none fed.
          let page' : made.desk.page ≡ blank first = cc (c.new-counter.ensures.0, page) in
          let none' : made.desk.pending.lines.items ≡ [] = cc (c.new-counter.ensures.0, none) in
          let fed' : made.feed ≡ nothing = cc (c.new-counter.ensures.1, fed) in
          has_shut line_served tells now.desk.submitter told.result.submitter now.desk.pending.lines.items now.feed told.result.feed told.result.page.status now.desk.page.status (g.G.Giving.given c.serve_lines.new.inputs) told.ensures.1 told.ensures.2 status
          (c.serve_lines.ensures.ends first (counts_as line_served tells first made.feed made.desk.submitter made.desk.pending.lines.items made.lines made.desk.page fed' none' c.new-counter.ensures.2 page'));
      took = λ none. told.ensures.3 ∙ c.serve_lines.ensures.lines (c.new-counter.ensures.2 ∙ sym (ap lines_in none));
    })
