use Rattle.flow_syntax.proofs.Printing.{words_then}
use Rattle.flow_syntax.proofs.print_statement.assign.Goals as goal

pub returns : goal.returns
returns c = words_then _ _ _ _ _ c.in_ok-name.ensures (words_then _ _ _ _ _ c.in_ok-mark.ensures (words_then _ _ _ _ _ c.in_ok-expr.ensures c.in_ok-mark-2.ensures))
