use Rattle.std.proofs.Common.{ap, refl, map, drop, ◌+◌, List, arith}
use Rattle.flow_base.specs.declared.syntax.Declaration.{Declaration}
use Rattle.flow_base.specs.Shown.{shown_declaration}
use Rattle.flow_syntax.specs.Print.{declarations_words, declared_words}
use Rattle.flow_syntax.proofs.Printing.{less_left, none_left, drop_here, gone_through}
use Rattle.flow_syntax.proofs.print.declarations.Goals as goal

pub loop-next-preserved : goal.loop-next-preserved
loop-next-preserved c =
    less_left c.args.out.now c.loop-next.out c.declaration.new.out (declarations_words (map shown_declaration c.args.list.now)) (declarations_words (map shown_declaration (drop c.loop-next.next-index c.args.list.now)))
    (declared_words (shown_declaration c.next-item.result))
    (declarations_words (map shown_declaration (drop (c.loop-next.next-index + 1) c.args.list.now)))
    c.loop-next.invariant
    (ap (λ (xs : List Declaration). declarations_words (map shown_declaration xs)) (drop_here c.args.list.now c.loop-next.next-index c.next-item.result (omega (arith, c.loop-next-test.true)) c.next-item.is))
    c.in_ok-declaration.ensures

pub returns : goal.returns
returns c =
    none_left c.args.out.now c.loop-next.out (declarations_words (map shown_declaration c.args.list.now)) (declarations_words (map shown_declaration (drop c.loop-next.next-index c.args.list.now))) c.loop-next.invariant
    (gone_through (λ (xs : List Declaration). declarations_words (map shown_declaration xs)) c.args.list.now c.loop-next.next-index refl (omega (arith, c.loop-next-test.false)))
