use Rattle.std.proofs.Common.{◌∷◌, ap, refl, map, drop, ◌+◌, arith}
use Rattle.flow_base.specs.declared.token.Word.TheVariants as word
use Rattle.flow_base.specs.declared.token.Mark.TheVariants as mark
use Rattle.flow_syntax.specs.Print.{behind_commas}
use Rattle.flow_syntax.proofs.Printing.{words_then, less_left, none_left, drop_here, gone_through}
use Rattle.flow_syntax.proofs.listed.print_behind_commas.Goals as goal

pub loop-item-preserved : goal.loop-item-preserved
loop-item-preserved g c =
    less_left c.args.out.now c.loop-item.out c.print.new.out (behind_commas (map g.T.Item.item_words c.args.items.now)) (behind_commas (map g.T.Item.item_words (drop c.loop-item.item-index c.args.items.now)))
    (word.Mark mark.Comma ∷ g.T.Item.item_words c.item-item.result)
    (behind_commas (map g.T.Item.item_words (drop (c.loop-item.item-index + 1) c.args.items.now)))
    c.loop-item.invariant
    (ap (λ xs. behind_commas (map g.T.Item.item_words xs)) (drop_here c.args.items.now c.loop-item.item-index c.item-item.result (omega (arith, c.loop-item-test.true)) c.item-item.is))
    (words_then _ _ _ _ _ c.in_ok-mark.ensures c.in_ok-print.ensures)

pub returns : goal.returns
returns g c =
    none_left c.args.out.now c.loop-item.out (behind_commas (map g.T.Item.item_words c.args.items.now)) (behind_commas (map g.T.Item.item_words (drop c.loop-item.item-index c.args.items.now))) c.loop-item.invariant
    (gone_through (λ xs. behind_commas (map g.T.Item.item_words xs)) c.args.items.now c.loop-item.item-index refl (omega (arith, c.loop-item-test.false)))
