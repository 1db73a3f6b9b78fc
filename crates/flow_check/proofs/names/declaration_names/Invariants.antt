use Rattle.std.proofs.Common.{map, take}
use Rattle.flow_base.specs.Shown.{shown_declaration}
use Rattle.flow_model.specs.WellFormed.{name_of_declared}
use Rattle.flow_check.specs.Tables.{Declares}
use Rattle.flow_check.proofs.names.declaration_names.Given as goal

abbrev pub invariant-loop-declaration : goal.invariant-loop-declaration
invariant-loop-declaration l = Declares l.fn.names l.fn.found (map name_of_declared (map shown_declaration (take l.declaration-index l.declarations))) l.names l.found
