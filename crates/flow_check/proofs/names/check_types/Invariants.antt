use Rattle.std.proofs.Common.{◌≡◌, map, take}
use Rattle.flow_base.specs.Shown.{shown_declaration}
use Rattle.flow_model.specs.WellFormed.{earliest, faults_of_declarations}
use Rattle.flow_check.proofs.names.check_types.Given as goal

abbrev pub invariant-loop-declaration : goal.invariant-loop-declaration
invariant-loop-declaration l = l.found ≡ earliest l.fn.found (faults_of_declarations (map shown_declaration (take l.declaration-index l.declarations)))
