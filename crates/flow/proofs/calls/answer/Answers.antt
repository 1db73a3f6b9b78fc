use Rattle.flow.proofs.calls.answer.Goals as goal

pub returns-in-Safe : goal.returns-in-Safe
returns-in-Safe g c = rw c.in-Safe.is c.safe.ensures

pub returns-in-Settle : goal.returns-in-Settle
returns-in-Settle g c = rw c.in-Settle.is c.settle.ensures

pub returns-in-Replay : goal.returns-in-Replay
returns-in-Replay g c = rw c.in-Replay.is c.replay.ensures

pub returns-in-Over : goal.returns-in-Over
returns-in-Over g c = rw c.in-Over.is c.work_over.ensures
