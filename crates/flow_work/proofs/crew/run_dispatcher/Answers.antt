use Rattle.flow_work.proofs.crew.run_dispatcher.Goals as goal

pub returns : goal.returns
returns g c =
    let p = c.dispatcher-end.ensures.puts in
    record { tasks = p.0; lost = p.1; given = p.3; ends = p.5 }
