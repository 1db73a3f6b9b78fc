use Rattle.flow_syntax.proofs.Printing.{words_then}
use Rattle.flow_syntax.proofs.print.behind_keyword.Goals as goal

pub returns : goal.returns
returns c =
    let parameters = rw c.deref.ensures.value at c.in_ok-print_list.ensures in
    let declarations = rw c.deref-2.ensures.value at c.in_ok-declarations.ensures in
    let statements = rw c.deref-3.ensures at (rw c.as_slice.ensures.value at c.in_ok-statements.ensures) in
    words_then _ _ _ _ _ c.in_ok-name.ensures (words_then _ _ _ _ _ parameters (words_then _ _ _ _ _ c.in_ok-mark.ensures (words_then _ _ _ _ _ (words_then _ _ _ _ _ declarations statements) c.in_ok-mark-2.ensures)))
