use Rattle.std.proofs.Common.{true, false, ◌++◌, ap, sym, ◌∙◌}
use Rattle.flow_syntax.specs.Print.{spaced}
use Rattle.flow_syntax.proofs.Printing.{words_then, no_words, retry_written}
use Rattle.flow_syntax.proofs.print_statement.retry.Goals as goal

pub returns-then-is_once : goal.returns-then-is_once
returns-then-is_once c = no_words c.args.out.now _ (retry_written true c.args.often (sym c.if-is_once.true ∙ c.is_once.ensures))

pub returns : goal.returns
returns c =
    words_then _ _ _ _ _ c.in_ok-mark.ensures (words_then _ _ _ _ _ c.in_ok-count.ensures (words_then _ _ _ _ _ c.in_ok-mark-2.ensures c.in_ok-count-2.ensures))
    ∙ ap (λ w. c.args.out.now ++ spaced w) (sym (retry_written false c.args.often (sym c.if-is_once.false ∙ c.is_once.ensures)))
