use Rattle.flow_work.proofs.crew.run_timer.Goals as goal

pub returns : goal.returns
returns g c = rw c.of-fired.ensures (record { fires = c.fire_timers-told.ensures })
