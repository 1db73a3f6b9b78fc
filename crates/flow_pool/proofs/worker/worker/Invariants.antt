use Rattle.std.proofs.Common.{◌≡◌, ◌++◌, ℕ, List, is_some}
use Rattle.flow_pool.specs.Ends.{taken_by, number_of, IsSameEnd}
use Rattle.flow_pool.specs.Reports.{Telling, MayCome, GoesOn, first_named, is_left}
use Rattle.flow_base.specs.declared.task.Task.{Task}
use Rattle.flow_pool.specs.declared.activity.Attempt.{Attempt}
use Rattle.flow_pool.proofs.worker.worker.Given as goal

abbrev pub invariant-tasks : goal.invariant-tasks
invariant-tasks g l =
    (goal.iterator-tasks g).can_next l.iterator' × (goal.iterator-tasks g).is_finite l.iterator'
    × ((t : Task) (a : Attempt) → MayCome g.A.Activity.named g.A.Activity.gives l.activities.items t a → MayCome g.A.Activity.named g.A.Activity.gives l.initial.activities.items t a)
    × ((name : List ℕ) → is_some (first_named g.A.Activity.named name l.activities.items) ≡ is_some (first_named g.A.Activity.named name l.initial.activities.items))
    × (g.U.Unknown.leaves l.unknown ≡ g.U.Unknown.leaves l.initial.unknown)
    × IsSameEnd l.initial.receiver l.receiver × (number_of l.receiver ≡ number_of l.initial.receiver)
    × ((ts : List Task) × (log : List Telling) × (taken_by l.receiver ≡ taken_by l.initial.receiver ++ ts) × (g.S.Reports.told l.reports ≡ g.S.Reports.told l.initial.reports ++ log) × GoesOn (g.C.Clock.tells l.clock) (MayCome g.A.Activity.named g.A.Activity.gives l.initial.activities.items) (is_left (g.U.Unknown.leaves l.initial.unknown) g.A.Activity.named l.initial.activities.items) ts log)
