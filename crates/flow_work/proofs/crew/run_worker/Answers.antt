use Rattle.flow_work.proofs.crew.run_worker.Goals as goal

pub returns : goal.returns
returns g c =
    let w = c.worker-end.ensures.works in
    let is = c.last_seen-worked.ensures in
    rw (is.source, is.target) (record { tasks = w.0; log = w.1; took = w.2; told = w.3; works = w.4 })
