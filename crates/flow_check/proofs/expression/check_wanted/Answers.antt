use Rattle.flow_base.specs.Shown.{shown_expr}
use Rattle.flow_check.specs.Tables.{types_of}
use Rattle.flow_check.proofs.Expressing.{wanted_noted}
use Rattle.flow_check.proofs.expression.check_wanted.Goals as goal

pub returns : goal.returns
returns c =
    wanted_noted (types_of c.args.scope.now) (shown_expr c.args.expr.now) c.args.wanted c.check_expression-kind.result c.beginning.result c.args.found.now c.check_expression-kind.new.found c.check_kind.new.found
    c.check_expression-kind.ensures.noted c.check_expression-kind.ensures.kind c.beginning.ensures c.check_kind.ensures
