use Rattle.std.proofs.Common.{sym, ap, ◌∙◌, ◌++◌, map}
use Rattle.flow_syntax.specs.Print.{spaced, between_commas}
use Rattle.flow_syntax.proofs.Printing.{words_then, none_listed, no_words}
use Rattle.flow_syntax.proofs.listed.print_between_commas.Goals as goal

pub returns-in_default : goal.returns-in_default
returns-in_default g c = no_words c.args.out.now (between_commas (map g.T.Item.item_words c.args.items.now)) (none_listed g.T.Item.item_words c.args.items.now c.in_default.ensures.cases)

pub returns : goal.returns
returns g c =
    words_then _ _ _ _ _ c.in_ok-print.ensures c.in_ok-print_behind_commas.ensures ∙ ap (λ l. c.args.out.now ++ spaced (between_commas (map g.T.Item.item_words l))) (sym c.in-Some.ensures.cases.0)
