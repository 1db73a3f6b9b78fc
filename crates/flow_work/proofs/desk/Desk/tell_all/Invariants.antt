use Rattle.std.proofs.Common.{◌≡◌, true}
use Rattle.flow_hub.specs.Knowing.{IsBefore}
use Rattle.flow_work.specs.Telling.{HasTold}
use Rattle.flow_work.proofs.desk.Desk.tell_all.Given as goal

abbrev pub invariant-lines : goal.invariant-lines
invariant-lines g l =
    (goal.iterator-lines g).can_next l.iterator' × (goal.iterator-lines g).is_finite l.iterator'
    × HasTold l.self.submitter true l.initial.self.pending.lines.items l.self.pending.lines.items l.initial.self.page l.self.page
    × IsBefore l.initial.self.submitter.was l.self.submitter.was × (l.self.submitter.id ≡ l.initial.self.submitter.id)
