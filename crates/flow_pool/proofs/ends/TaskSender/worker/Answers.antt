use Rattle.flow_pool.proofs.Moves.{forks, forks_on}
use Rattle.flow_pool.proofs.ends.TaskSender.worker.Goals as goal

pub another-pass-requires-clause-rule : goal.another-pass-requires-clause-rule
another-pass-requires-clause-rule c = forks_on _ _ _ _ _ (forks _ _ c.args.self.now.sends)
