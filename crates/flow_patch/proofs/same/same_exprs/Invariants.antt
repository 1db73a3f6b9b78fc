use Rattle.std.proofs.Common.{◌≡◌, map, drop}
use Rattle.flow_base.specs.Shown.{shown_expr}
use Rattle.flow_patch.specs.Difference.{same_expressions}
use Rattle.flow_patch.proofs.same.same_exprs.Given as goal

-- what is left answers for the whole
abbrev pub invariant-loop-e : goal.invariant-loop-e
invariant-loop-e l =
    same_expressions (map shown_expr l.left) (map shown_expr l.right) ≡ same_expressions (map shown_expr (drop l.e-index l.left)) (map shown_expr l.others)
