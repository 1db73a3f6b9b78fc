use Rattle.std.proofs.Common.{◌≡◌, ◌++◌, sym, ap, ◌∙◌, arith}
use Rattle.std.proofs.lemmas.Result.{on_ok_weaker}
use Rattle.flow_syntax.proofs.Printing.{character_stands}
use Rattle.flow_syntax.proofs.printer.Printer.character.Goals as goal

pub returns-in_default : goal.returns-in_default
returns-in_default c =
    let quote : c.args.c ≡ 34 → ⊥ = λ e. omega (arith, e) in
    let slash : c.args.c ≡ 92 → ⊥ = λ e. omega (arith, e) in
    let feed : c.args.c ≡ 10 → ⊥ = λ e. omega (arith, e) in
    on_ok_weaker c.plain.result (λ h. h ∙ ap (λ t. c.args.self.now ++ t) (sym (character_stands c.args.c quote slash feed))) c.plain.ensures
