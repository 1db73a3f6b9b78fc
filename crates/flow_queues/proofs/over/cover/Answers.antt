use Rattle.std.proofs.Common.{sym, ◌∙◌}
use Rattle.flow_queues.proofs.Stretches.{again}
use Rattle.flow_queues.proofs.over.cover.Goals as goal

pub returns-then-is_within-clause-covered : goal.returns-then-is_within-clause-covered
returns-then-is_within-clause-covered c runs h = again c.args.firsts.now c.args.ends.now runs h c.args.run (sym (c.is_within.ensures runs h) ∙ c.if-is_within.true)

pub returns-clause-covered : goal.returns-clause-covered
returns-clause-covered c runs h = c.in_default.ensures.joined runs h (sym (c.is_within.ensures runs h) ∙ c.if-is_within.false)

pub returns-in-Err-clause-refused : goal.returns-in-Err-clause-refused
returns-in-Err-clause-refused c runs h = c.in-Err.ensures.refused runs h (sym (c.is_within.ensures runs h) ∙ c.if-is_within.false)
