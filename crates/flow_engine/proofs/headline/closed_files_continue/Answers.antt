use Rattle.flow_engine.proofs.Stopping.{close_continues}
use Rattle.flow_engine.proofs.headline.closed_files_continue.Goals as goal

pub returns : goal.returns
returns g c = close_continues g.D.Disk g.met.D.Disk.seen_may_stay
