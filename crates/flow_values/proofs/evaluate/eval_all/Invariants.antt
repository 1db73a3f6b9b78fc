use Rattle.std.proofs.Common.{◌≡◌, map, drop}
use Rattle.flow_base.specs.Shown.{shown_expr}
use Rattle.flow_model.specs.Values.{values as values_of}
use Rattle.flow_values.proofs.Lists.{onto}
use Rattle.flow_values.proofs.evaluate.eval_all.Given as goal

abbrev pub invariant-loop-e : goal.invariant-loop-e
invariant-loop-e g l = values_of (g.V.Vars.variables l.vars) l.at (map shown_expr l.exprs) ≡ onto l.list.items (values_of (g.V.Vars.variables l.vars) l.at (map shown_expr (drop l.e-index l.exprs)))
