use Rattle.std.proofs.Common.{◌≡◌, ℕ, List, is_some}
use Rattle.flow_pool.specs.Reports.{MayCome, first_named}
use Rattle.flow_base.specs.declared.task.Task.{Task}
use Rattle.flow_pool.specs.declared.activity.Attempt.{Attempt}
use Rattle.flow_pool.proofs.attempts.attempt.Given as goal

abbrev pub invariant-tries : goal.invariant-tries
invariant-tries g l =
    (goal.iterator-tries g).can_next l.iterator' × (goal.iterator-tries g).is_finite l.iterator'
    × ((t : Task) (a : Attempt) → MayCome g.A.Activity.named g.A.Activity.gives l.activities.items t a → MayCome g.A.Activity.named g.A.Activity.gives l.initial.activities.items t a)
    × ((name : List ℕ) → is_some (first_named g.A.Activity.named name l.activities.items) ≡ is_some (first_named g.A.Activity.named name l.initial.activities.items))
