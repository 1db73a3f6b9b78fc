use Rattle.flow_pool.proofs.Moves.{merges, merges_on}
use Rattle.flow_pool.proofs.ends.TaskSender.take_back.Goals as goal

pub absorb-requires-clause-rule : goal.absorb-requires-clause-rule
absorb-requires-clause-rule c = merges_on _ _ _ _ _ _ _ (merges _ _ _ _ c.args.self.now.sends c.args.worker.works)
