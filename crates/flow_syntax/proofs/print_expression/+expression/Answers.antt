use Rattle.std.proofs.Common.{◌≡◌, ◌++◌}
use Rattle.flow_base.specs.Shown.{shown_expr}
use Rattle.flow_syntax.specs.Print.{spaced, fitted, level, expression_words}
use Rattle.flow_syntax.proofs.Printing.{words_then, binary_written}
use Rattle.flow_syntax.proofs.print_expression.+expression.Goals as goal

pub enclosed-returns : goal.enclosed-returns
enclosed-returns t c = words_then _ _ _ _ _ c.in_ok-mark.ensures (words_then _ _ _ _ _ c.in_ok-expr.ensures c.in_ok-mark-2.ensures)

pub expr-returns-in_ok-operand-in-Binary-2 : goal.expr-returns-in_ok-operand-in-Binary-2
expr-returns-in_ok-operand-in-Binary-2 t c =
    let left : c.operand.new.out ≡ c.args.out.now ++ spaced (fitted (level (shown_expr c.in-Binary.left.value)) c.left_level.result (expression_words (shown_expr c.in-Binary.left.value))) =
    rw c.deref-in-Binary.ensures at c.in_ok-operand-in-Binary.ensures in
    let right : c.operand-in-Binary.new.out ≡ c.mark-in-Binary.new.self ++ spaced (fitted (level (shown_expr c.in-Binary.right.value)) c.right_level.result (expression_words (shown_expr c.in-Binary.right.value))) =
    rw c.deref-in-Binary-2.ensures at c.in_ok-operand-in-Binary-2.ensures in
    rw c.in-Binary.is (binary_written c.in-Binary.operator c.left_level.result c.right_level.result c.binary_mark.result (shown_expr c.in-Binary.left.value) (shown_expr c.in-Binary.right.value) c.args.out.now c.operand.new.out c.mark-in-Binary.new.self c.operand-in-Binary.new.out c.left_level.ensures c.right_level.ensures c.binary_mark.ensures left c.in_ok-mark-in-Binary.ensures right)

pub unary-returns-in_ok-operand-in-Not : goal.unary-returns-in_ok-operand-in-Not
unary-returns-in_ok-operand-in-Not t c = rw c.in-Not.is (words_then _ _ _ _ _ c.in_ok-mark-in-Not.ensures c.in_ok-operand-in-Not.ensures)

pub unary-returns-in_ok-operand-in-Negate : goal.unary-returns-in_ok-operand-in-Negate
unary-returns-in_ok-operand-in-Negate t c = rw c.in-Negate.is (words_then _ _ _ _ _ c.in_ok-mark-in-Negate.ensures c.in_ok-operand-in-Negate.ensures)

pub unary-returns-in_ok-enclosed-in-TextOf : goal.unary-returns-in_ok-enclosed-in-TextOf
unary-returns-in_ok-enclosed-in-TextOf t c = rw c.in-TextOf.is (words_then _ _ _ _ _ c.in_ok-mark-in-TextOf.ensures c.in_ok-enclosed-in-TextOf.ensures)

pub unary-returns-in_ok-enclosed-in-Length : goal.unary-returns-in_ok-enclosed-in-Length
unary-returns-in_ok-enclosed-in-Length t c = rw c.in-Length.is (words_then _ _ _ _ _ c.in_ok-mark-in-Length.ensures c.in_ok-enclosed-in-Length.ensures)
