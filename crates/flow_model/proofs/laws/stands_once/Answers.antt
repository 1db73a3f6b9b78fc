use Rattle.flow_model.proofs.Chains.{at_most_one, not_both}
use Rattle.flow_model.proofs.laws.stands_once.Goals as goal

pub returns-clause-once : goal.returns-clause-once
returns-clause-once c = at_most_one

pub returns-clause-not_both : goal.returns-clause-not_both
returns-clause-not_both c = not_both
