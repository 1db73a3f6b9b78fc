use Rattle.std.proofs.Common.{rules}
use Rattle.flow_plain.proofs.Lefts.{left_at}
use Rattle.flow_plain.proofs.step.first.Goals as goal

pub returns : goal.returns
returns c = (search rules, left_at c.args.stmts.now c.args.i c.index-stmts-i.result c.index-stmts-i.result (search rules) c.index-stmts-i.is)
