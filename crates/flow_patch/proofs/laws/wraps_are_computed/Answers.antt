use Rattle.flow_patch.proofs.Differences.{difference_decides}
use Rattle.flow_patch.proofs.Words.{wrap_is_computed}
use Rattle.flow_patch.proofs.laws.wraps_are_computed.Goals as goal

pub returns-clause-plain : goal.returns-clause-plain
returns-clause-plain c = wrap_is_computed

pub returns-clause-difference : goal.returns-clause-difference
returns-clause-difference c = difference_decides
