use Rattle.flow_pool.proofs.Moves.{takes, pops_on}
use Rattle.flow_pool.proofs.ends.TaskReceiver.take.Goals as goal

pub recv_as-requires-clause-rule : goal.recv_as-requires-clause-rule
recv_as-requires-clause-rule g c = (pops_on _ _ _ _ (takes _ _ c.args.self.now.works), λ items views h at. (views, _, h, at))
