use Rattle.std.proofs.Common.{ap}
use Rattle.flow_base.specs.Shown.{shown_expr}
use Rattle.flow_check.specs.Tables.{types_of}
use Rattle.flow_check.proofs.Expressing.{unary_noted, binary_noted}
use Rattle.flow_check.proofs.expression.+check_expression.Goals as goal

pub returns-in-Unary-clause-noted : goal.returns-in-Unary-clause-noted
returns-in-Unary-clause-noted t c =
    unary_noted (types_of c.args.scope.now) (shown_expr c.args.expr.now) (shown_expr c.in-Unary.a.value) c.in-Unary.field-0 c.beginning.result c.in-Unary.op c.operand_of.result c.check_expression-kind.result
    c.args.found.now c.check_expression-kind.new.found c.check_kind.new.found
    (ap shown_expr c.in-Unary.is) (rw c.deref.ensures at c.check_expression-kind.ensures.noted) (rw c.deref.ensures at c.check_expression-kind.ensures.kind) c.operand_of.ensures
    (rw c.deref-in-Unary.ensures at c.beginning.ensures) c.check_kind.ensures

pub returns-in-Binary-clause-noted : goal.returns-in-Binary-clause-noted
returns-in-Binary-clause-noted t c =
    binary_noted (types_of c.args.scope.now) (shown_expr c.args.expr.now) (shown_expr c.in-Binary.a.value) (shown_expr c.in-Binary.b.value) c.beginning-in-Binary.result c.beginning-in-Binary-2.result c.in-Binary.op
    c.check_expression-left.result c.check_expression-right.result c.args.found.now c.check_expression-left.new.found c.check_expression-right.new.found c.check_operands.new.found
    (ap shown_expr c.in-Binary.is) (rw c.deref-in-Binary.ensures at c.check_expression-left.ensures.noted) (rw c.deref-in-Binary-2.ensures at c.check_expression-right.ensures.noted)
    (rw c.deref-in-Binary.ensures at c.check_expression-left.ensures.kind) (rw c.deref-in-Binary-2.ensures at c.check_expression-right.ensures.kind)
    (rw c.deref-in-Binary-3.ensures at c.beginning-in-Binary.ensures) (rw c.deref-in-Binary-4.ensures at c.beginning-in-Binary-2.ensures) c.check_operands.ensures
