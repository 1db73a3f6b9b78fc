use Rattle.std.proofs.Common.{◌≡◌, map}
use Rattle.flow_base.specs.Shown.{shown_expr}
use Rattle.flow_model.specs.WellFormed.{earliest, faults_of_arguments}
use Rattle.flow_check.specs.Tables.{types_of, kinds_wanted}
use Rattle.flow_check.proofs.Expressing.{Rest}
use Rattle.flow_check.proofs.statement.check_arguments.Given as goal

-- what is noted and what is left to note
abbrev pub invariant-loop-i : goal.invariant-loop-i
invariant-loop-i l = Rest (types_of l.scope) (kinds_wanted l.wanted) l.arguments l.i l.found ≡ earliest l.fn.found (faults_of_arguments (types_of l.scope) (kinds_wanted l.wanted) (map shown_expr l.arguments))
