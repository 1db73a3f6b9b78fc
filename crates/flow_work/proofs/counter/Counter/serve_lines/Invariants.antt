use Rattle.std.proofs.Common.{◌≡◌, ℕ, List, Option}
use Rattle.flow_work.specs.Questions.{line_served}
use Rattle.flow_work.specs.Counting.{Counts}
use Rattle.flow_work.specs.Inputs.{lines_in}
use Rattle.flow_work.proofs.counter.Counter.serve_lines.Given as goal

abbrev pub invariant-steps : goal.invariant-steps
invariant-steps g l =
    (goal.iterator-steps g).can_next l.iterator' × (goal.iterator-steps g).is_finite l.iterator'
    × ((first : Option (List ℕ)) → Counts line_served (g.C.Clock.tells l.clock) first l.initial.self.feed l.initial.self.desk.submitter l.initial.self.desk.pending.lines.items l.initial.self.lines l.initial.self.desk.page
    → Counts line_served (g.C.Clock.tells l.clock) first l.self.feed l.self.desk.submitter l.self.desk.pending.lines.items l.self.lines l.self.desk.page)
    × (l.initial.self.lines ≡ lines_in (g.G.Giving.given l.initial.inputs) → l.self.lines ≡ lines_in (g.G.Giving.given l.inputs))
