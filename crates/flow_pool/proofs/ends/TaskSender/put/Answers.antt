use Rattle.flow_pool.proofs.Moves.{puts, pushes_on}
use Rattle.flow_pool.proofs.ends.TaskSender.put.Goals as goal

pub send_as-requires-clause-rule : goal.send_as-requires-clause-rule
send_as-requires-clause-rule g c = (pushes_on _ _ _ _ _ _ (puts _ _ _ _ c.args.self.now.sends), λ items views h at. tt)
