use Rattle.std.proofs.Common.{map, take}
use Rattle.flow_model.specs.WellFormed.{name_of_parameter}
use Rattle.flow_check.specs.Tables.{Declares}
use Rattle.flow_check.proofs.names.parameter_names.Given as goal

abbrev pub invariant-loop-parameter : goal.invariant-loop-parameter
invariant-loop-parameter l = Declares l.fn.names l.fn.found (map name_of_parameter (take l.parameter-index l.parameters)) l.names l.found
