use Rattle.std.proofs.Common.{◌≡◌, ◌≤◌, true, length}
use Rattle.flow_hub.specs.Knowing.{IsBefore}
use Rattle.flow_work.specs.Telling.{HasTold}
use Rattle.flow_work.proofs.desk.Desk.submit.Given as goal

abbrev pub invariant-tries : goal.invariant-tries
invariant-tries g l =
    (goal.iterator-tries g).can_next l.iterator' × (goal.iterator-tries g).is_finite l.iterator'
    × (length l.self.pending.lines.items ≤ length l.initial.self.pending.lines.items) × (l.command ≡ l.initial.command)
    × HasTold l.self.submitter true l.initial.self.pending.lines.items l.self.pending.lines.items l.initial.self.page l.self.page
    × IsBefore l.initial.self.submitter.was l.self.submitter.was × (l.self.submitter.id ≡ l.initial.self.submitter.id)
