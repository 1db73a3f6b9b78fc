use Rattle.flow_syntax.proofs.Printing.{words_then}
use Rattle.flow_syntax.proofs.listed.print_list.Goals as goal

pub returns : goal.returns
returns g c = words_then _ _ _ _ _ c.in_ok-mark.ensures (words_then _ _ _ _ _ c.in_ok-print_between_commas.ensures c.in_ok-mark-2.ensures)
