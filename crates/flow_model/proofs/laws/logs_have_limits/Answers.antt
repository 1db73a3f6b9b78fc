use Rattle.flow_model.proofs.Logs.{after_log_cut, log_replies_cut, after_one_limit, replies_one_limit}
use Rattle.flow_model.proofs.laws.logs_have_limits.Goals as goal

pub returns-clause-after : goal.returns-clause-after
returns-clause-after c = after_log_cut

pub returns-clause-replies : goal.returns-clause-replies
returns-clause-replies c = log_replies_cut

pub returns-clause-one_after : goal.returns-clause-one_after
returns-clause-one_after c = after_one_limit

pub returns-clause-one_replies : goal.returns-clause-one_replies
returns-clause-one_replies c = replies_one_limit
