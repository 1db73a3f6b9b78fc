use Rattle.flow_patch.proofs.Adding.{none_more}
use Rattle.flow_patch.proofs.settled_ids.none_added.Goals as goal

pub returns : goal.returns
returns c = none_more c.args.ids.now.items
