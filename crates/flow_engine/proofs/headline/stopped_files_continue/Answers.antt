use Rattle.flow_engine.proofs.Stopping.{stop_continues}
use Rattle.flow_engine.proofs.headline.stopped_files_continue.Goals as goal

pub returns : goal.returns
returns g c = stop_continues g.D.Disk
