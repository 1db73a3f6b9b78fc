use Rattle.std.proofs.Common.{rules, ◌∙◌}
use Rattle.flow_work.proofs.counter.Counter.print_all.Goals as goal

pub returns-then-not-print_last-clause-counted : goal.returns-then-not-print_last-clause-counted
returns-then-not-print_last-clause-counted g c = λ first k. c.print_last.ensures.counted first (c.tasks.invariant.2 first k)

pub returns-then-not-print_last-clause-all : goal.returns-then-not-print_last-clause-all
returns-then-not-print_last-clause-all g c = c.print_last.ensures.all c.if-not-print_last.true

pub returns-then-not-print_last-clause-pending : goal.returns-then-not-print_last-clause-pending
returns-then-not-print_last-clause-pending g c = c.print_last.ensures.pending ∙ c.tasks.invariant.3

pub returns-then-not-print_last-clause-submitter : goal.returns-then-not-print_last-clause-submitter
returns-then-not-print_last-clause-submitter g c = c.print_last.ensures.submitter ∙ c.tasks.invariant.4

pub returns-then-not-print_last-clause-lines : goal.returns-then-not-print_last-clause-lines
returns-then-not-print_last-clause-lines g c = c.print_last.ensures.lines ∙ c.tasks.invariant.5

pub returns-then-not-print_last-clause-failed : goal.returns-then-not-print_last-clause-failed
returns-then-not-print_last-clause-failed g c = λ e. c.print_last.ensures.failed (c.tasks.invariant.6 e)

pub tasks-preserved : goal.tasks-preserved
tasks-preserved g c = (
  search rules,
  search rules,
  λ first k. c.print_last.ensures.counted first (c.tasks.invariant.2 first k),
  c.print_last.ensures.pending ∙ c.tasks.invariant.3,
  c.print_last.ensures.submitter ∙ c.tasks.invariant.4,
  c.print_last.ensures.lines ∙ c.tasks.invariant.5,
  λ e. c.print_last.ensures.failed (c.tasks.invariant.6 e),
)
