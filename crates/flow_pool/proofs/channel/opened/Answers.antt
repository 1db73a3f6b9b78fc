use Rattle.flow_pool.proofs.Moves.{begins}
use Rattle.flow_pool.proofs.channel.opened.Goals as goal

pub bounded_with-requires-clause-rule : goal.bounded_with-requires-clause-rule
bounded_with-requires-clause-rule c = (begins, tt)
