use Rattle.std.proofs.Common.{inl, inr}
use Rattle.flow_work.proofs.clerk.Clerk.deal.Goals as goal

pub returns-in-Line-clause-quits : goal.returns-in-Line-clause-quits
returns-in-Line-clause-quits g c = λ first k off. inr (c.take.ensures.quits first k off)

pub returns-in-Ended-clause-quits : goal.returns-in-Ended-clause-quits
returns-in-Ended-clause-quits g c = rw c.in-Ended.is (λ first k off. c.end.ensures.ends first k)

pub returns-in-Failed-clause-quits : goal.returns-in-Failed-clause-quits
returns-in-Failed-clause-quits g c = rw c.in-Failed.is (λ first k off. c.fail.ensures.ends first k)

pub returns-in-Stopped-clause-quits : goal.returns-in-Stopped-clause-quits
returns-in-Stopped-clause-quits g c = rw c.in-Stopped.is (λ first k off. inl tt)
