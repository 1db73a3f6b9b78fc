use Rattle.flow_syntax.proofs.Printing.{words_then}
use Rattle.flow_syntax.proofs.print_statement.wait.Goals as goal

pub returns : goal.returns
returns c = words_then _ _ _ _ _ c.in_ok-wait_head.ensures c.in_ok-mark.ensures
