use Rattle.std.proofs.Common.{arith}
use Rattle.flow_syntax.proofs.Faults.{deep_at_cut}
use Rattle.flow_syntax.proofs.parse.deep_fault.Goals as goal

pub returns : goal.returns
returns c = deep_at_cut c.args.tokens.now _ c.args.at c.args.left c.first_fault.result c.requires c.first_fault.ensures (omega arith)
