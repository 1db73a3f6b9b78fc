use Rattle.std.proofs.Common.{rules}
use Rattle.flow_patch.proofs.Walks.{types_left}
use Rattle.flow_patch.proofs.same.same_types.Goals as goal

pub returns-in-None : goal.returns-in-None
returns-in-None c = search (rules, types_left)
