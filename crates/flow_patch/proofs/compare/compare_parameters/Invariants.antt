use Rattle.std.proofs.Common.{◌≡◌, drop}
use Rattle.flow_patch.specs.Difference.{difference_of_parameters}
use Rattle.flow_patch.proofs.compare.compare_parameters.Given as goal

-- what is left answers for the whole
abbrev pub invariant-loop-parameter : goal.invariant-loop-parameter
invariant-loop-parameter l = difference_of_parameters l.old l.new l.end ≡ difference_of_parameters (drop l.parameter-index l.old) l.rest l.end
