use Rattle.std.proofs.Common.{◌≡◌, ℕ, List, Option}
use Rattle.flow_lines.specs.Commands.{line_command}
use Rattle.flow_hub.specs.Knowing.{nothing}
use Rattle.flow_work.specs.Counting.{Counts}
use Rattle.flow_work.specs.Inputs.{lines_in}
use Rattle.flow_work.proofs.clerk.Clerk.answer_lines.Given as goal

abbrev pub invariant-steps : goal.invariant-steps
invariant-steps g l =
    (goal.iterator-steps g).can_next l.iterator' × (goal.iterator-steps g).is_finite l.iterator'
    × ((first : Option (List ℕ)) → Counts line_command (g.C.Clock.tells l.clock) first nothing l.initial.self.desk.submitter l.initial.self.desk.pending.lines.items l.initial.self.lines l.initial.self.desk.page
    → Counts line_command (g.C.Clock.tells l.clock) first nothing l.self.desk.submitter l.self.desk.pending.lines.items l.self.lines l.self.desk.page)
    × (l.initial.self.lines ≡ lines_in (g.G.Giving.given l.initial.inputs) → l.self.lines ≡ lines_in (g.G.Giving.given l.inputs))
