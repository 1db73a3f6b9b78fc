use Rattle.std.proofs.Common.{List, ap, ◌∙◌}
use Rattle.flow_model.specs.WellFormed.{no_types}
use Rattle.flow_check.specs.declared.scope.Variable.{Variable}
use Rattle.flow_check.specs.Tables.{variables_of, types_in, IsSame}
use Rattle.flow_check.proofs.Scoping.{types_in-append, known_with, behind_error}
use Rattle.flow_check.proofs.scope.Scope.add_variable.Goals as goal

pub returns-clause-types : goal.returns-clause-types
returns-clause-types c =
    ap (λ (vs : List Variable). types_in no_types vs) c.in_ok-push.ensures.items
    ∙ types_in-append no_types (variables_of c.args.self.now) (record { name = c.args.name; kind = c.args.kind })

pub returns-in_err-push-clause-same : goal.returns-in_err-push-clause-same
returns-in_err-push-clause-same c =
    let is = c.in_err-push.ensures.items in
    behind_error c.from_residual.result (IsSame c.args.self.now (record c.args.self.now { variables = c.push.new.self })) (is, ap (λ (vs : List Variable). known_with c.args.self.now vs) is)
