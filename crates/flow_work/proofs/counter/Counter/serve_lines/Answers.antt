use Rattle.std.proofs.Common.{rules}
use Rattle.flow_work.proofs.counter.Counter.serve_lines.Goals as goal

pub returns-then-not-step-clause-counted : goal.returns-then-not-step-clause-counted
returns-then-not-step-clause-counted g c = λ first k. (c.step.ensures.counted first (c.steps.invariant.2 first k)).1

pub returns-then-not-step-clause-ends : goal.returns-then-not-step-clause-ends
returns-then-not-step-clause-ends g c = λ first k. c.step.ensures.ends first (c.steps.invariant.2 first k) c.if-not-step.true

pub returns-then-not-step-clause-lines : goal.returns-then-not-step-clause-lines
returns-then-not-step-clause-lines g c = λ is. c.step.ensures.lines (c.steps.invariant.3 is)

pub steps-preserved : goal.steps-preserved
steps-preserved g c =
    (search rules, search rules, (λ first k. (c.step.ensures.counted first (c.steps.invariant.2 first k)).0 c.if-not-step.false), (λ is. c.step.ensures.lines (c.steps.invariant.3 is)))
