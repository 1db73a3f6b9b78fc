use Rattle.std.proofs.Common.{◌≡◌, ℕ, List, Option}
use Rattle.flow_work.specs.Questions.{line_served}
use Rattle.flow_work.specs.Counting.{Counted}
use Rattle.flow_work.proofs.counter.Counter.print_all.Given as goal

abbrev pub invariant-tasks : goal.invariant-tasks
invariant-tasks g l =
    (goal.iterator-tasks g).can_next l.iterator' × (goal.iterator-tasks g).is_finite l.iterator'
    × ((first : Option (List ℕ)) → Counted line_served (g.C.Clock.tells l.clock) first l.initial.self.feed l.initial.self.desk.submitter l.initial.self.lines l.initial.self.desk.page
    → Counted line_served (g.C.Clock.tells l.clock) first l.self.feed l.self.desk.submitter l.self.lines l.self.desk.page)
    × (l.self.desk.pending.lines.items ≡ l.initial.self.desk.pending.lines.items)
    × (l.self.desk.submitter ≡ l.initial.self.desk.submitter)
    × (l.self.lines ≡ l.initial.self.lines)
    × (l.initial.self.desk.page.status ≡ 3 → l.self.desk.page.status ≡ 3)
