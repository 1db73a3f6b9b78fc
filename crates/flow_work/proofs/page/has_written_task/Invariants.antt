use Rattle.std.specs.Io.KnownBytes.{Keeps}
use Rattle.flow_work.proofs.page.has_written_task.Given as goal

abbrev pub invariant-tries : goal.invariant-tries
invariant-tries g l =
    (goal.iterator-tries g).can_next l.iterator' × (goal.iterator-tries g).is_finite l.iterator'
    × Keeps (g.W.Write.contents l.initial.writer) (g.W.Write.contents l.writer)
