use Rattle.std.proofs.Common.{inl, inr}
use Rattle.flow_work.proofs.counter.Counter.deal.Goals as goal

pub returns-in-Line-clause-shut : goal.returns-in-Line-clause-shut
returns-in-Line-clause-shut g c = λ first k off. inr (inl (c.take.ensures.quits first k off))

pub returns-in-Ended-clause-shut : goal.returns-in-Ended-clause-shut
returns-in-Ended-clause-shut g c = rw c.in-Ended.is (λ first k off. c.end.ensures.ends first k)

pub returns-in-Failed-clause-shut : goal.returns-in-Failed-clause-shut
returns-in-Failed-clause-shut g c = rw c.in-Failed.is (λ first k off. c.fail.ensures.ends first k)

pub returns-in-Stopped-clause-shut : goal.returns-in-Stopped-clause-shut
returns-in-Stopped-clause-shut g c = rw c.in-Stopped.is (λ first k off. inl tt)
