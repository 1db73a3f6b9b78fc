use Rattle.flow_model.proofs.Logs.{after_cut, replies_cut, after_one_more, replies_in_order}
use Rattle.flow_model.proofs.laws.logs_are_cut_anywhere.Goals as goal

pub returns-clause-after : goal.returns-clause-after
returns-clause-after c = after_cut

pub returns-clause-replies : goal.returns-clause-replies
returns-clause-replies c = replies_cut

pub returns-clause-one_more : goal.returns-clause-one_more
returns-clause-one_more c = after_one_more

pub returns-clause-in_order : goal.returns-clause-in_order
returns-clause-in_order c = replies_in_order
