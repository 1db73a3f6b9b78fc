use Rattle.flow_work.proofs.crew.run_desk.Goals as goal

pub returns : goal.returns
returns g c =
    let answered = c.run_clerk-answered.ensures in
    rw c.of-given.ensures (record { owes = answered.owes; ended = answered.ended; took = answered.took; rested = answered.rested })
