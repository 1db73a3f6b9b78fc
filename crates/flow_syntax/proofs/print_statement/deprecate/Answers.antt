use Rattle.flow_syntax.proofs.Printing.{words_then}
use Rattle.flow_syntax.proofs.print_statement.deprecate.Goals as goal

pub returns : goal.returns
returns c = words_then _ _ _ _ _ c.in_ok-deprecate.ensures (words_then _ _ _ _ _ (rw c.as_str.ensures.text at c.in_ok-quoted.ensures) c.in_ok-mark.ensures)
