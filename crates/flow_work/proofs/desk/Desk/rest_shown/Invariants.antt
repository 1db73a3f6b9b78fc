use Rattle.std.proofs.Common.{◌≡◌}
use Rattle.flow_hub.specs.Knowing.{IsBefore}
use Rattle.flow_work.proofs.desk.Desk.rest_shown.Given as goal

abbrev pub invariant-rests : goal.invariant-rests
invariant-rests g l =
    (goal.iterator-rests g).can_next l.iterator' × (goal.iterator-rests g).is_finite l.iterator'
    × IsBefore l.initial.self.submitter.was l.self.submitter.was × (l.self.page ≡ l.initial.self.page)
    × (l.self.submitter.id ≡ l.initial.self.submitter.id)
