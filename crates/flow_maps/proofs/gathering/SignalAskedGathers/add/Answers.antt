use Rattle.flow_maps.proofs.Gathered.{found_more}
use Rattle.flow_maps.proofs.gathering.SignalAskedGathers.add.Goals as goal

pub returns : goal.returns
returns c rs = found_more c.args.self.now.found c.signal_of_run-later.result c.or_later-found.result c.args.self.now.flow.now c.args.self.now.request.now c.args.number c.args.run.now rs c.signal_of_run-later.ensures c.or_later-found.ensures
