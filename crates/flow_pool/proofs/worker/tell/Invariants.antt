use Rattle.std.proofs.Common.{◌≡◌, ◌++◌, List}
use Rattle.std.specs.List.{AllByRecursion}
use Rattle.flow_pool.specs.Reports.{Telling, IsUnheard}
use Rattle.flow_pool.proofs.worker.tell.Given as goal

abbrev pub invariant-tries : goal.invariant-tries
invariant-tries g l =
    (goal.iterator-tries g).can_next l.iterator' × (goal.iterator-tries g).is_finite l.iterator'
    × ((before : List Telling) × AllByRecursion (IsUnheard l.initial.command) before × (g.S.Reports.told l.reports ≡ g.S.Reports.told l.initial.reports ++ before))
    × (l.command ≡ l.initial.command)
