use Rattle.std.proofs.Common.{◌≡◌, ◌++◌, List}
use Rattle.flow_pool.specs.Ends.{put_by, made_by, back_at, came_back, IsSameFeed}
use Rattle.flow_base.specs.declared.task.Task.{Task}
use Rattle.flow_pool.proofs.dispatcher.dispatcher.Given as goal

abbrev pub invariant-tasks : goal.invariant-tasks
invariant-tasks g l =
    (goal.iterator-tasks g).can_next l.iterator' × (goal.iterator-tasks g).is_finite l.iterator'
    × IsSameFeed l.initial.sender l.sender × (made_by l.sender ≡ made_by l.initial.sender) × (back_at l.sender ≡ back_at l.initial.sender) × (came_back l.sender ≡ came_back l.initial.sender)
    × ((ts : List Task) × (put_by l.sender ≡ put_by l.initial.sender ++ ts) × (g.P.TaskSource.given l.posted ≡ g.P.TaskSource.given l.initial.posted ++ ts))
