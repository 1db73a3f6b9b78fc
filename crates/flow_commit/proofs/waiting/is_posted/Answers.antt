use Rattle.std.proofs.Common.{◌∙◌}
use Rattle.flow_commit.proofs.Posting.{set_has}
use Rattle.flow_commit.proofs.waiting.is_posted.Goals as goal

pub returns : goal.returns
returns c = c.contains.ensures ∙ set_has c.args.key.now c.args.posted.now.keys
