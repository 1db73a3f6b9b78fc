use Rattle.flow_work.specs.Firing.{FiresSoFar}
use Rattle.flow_work.proofs.timer.fire_timers.Given as goal

abbrev pub invariant-ticks : goal.invariant-ticks
invariant-ticks g l =
    (goal.iterator-ticks g).can_next l.iterator' × (goal.iterator-ticks g).is_finite l.iterator' × FiresSoFar (g.C.Clock.tells l.clock) l.reports.submitter.was l.initial.reports.told l.reports.told
