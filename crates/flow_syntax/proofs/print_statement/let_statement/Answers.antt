use Rattle.flow_syntax.proofs.Printing.{words_then}
use Rattle.flow_syntax.proofs.print_statement.let_statement.Goals as goal

pub returns : goal.returns
returns c = words_then _ _ _ _ _ c.in_ok-mark.ensures c.in_ok-assign.ensures
