use Rattle.std.proofs.Common.{◌≡◌, ◌≤◌, length, take}
use Rattle.flow_model.specs.WellFormed.{no_types}
use Rattle.flow_check.specs.Tables.{variables_of, types_in, types_of}
use Rattle.flow_check.proofs.scope.Scope.variable.Given as goal

-- the variables that are still to be looked at answer for all
abbrev pub invariant-loop-i : goal.invariant-loop-i
invariant-loop-i l = (types_of l.self l.name ≡ types_in no_types (take l.i (variables_of l.self)) l.name) × (l.i ≤ length (variables_of l.self))

abbrev pub decreases-loop-i : goal.decreases-loop-i
decreases-loop-i l = l.i
