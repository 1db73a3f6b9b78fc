use Rattle.std.proofs.Common.{rules, ℕ, List, ◌≡◌, ◌≤◌, length, subst, sym, ◌∙◌, ap, w64, to_z, of_z}
use Rattle.std.specs.Fmt.{signed_decimal}
use Rattle.flow_base.proofs.Decimals.{decimal_is_short}
use Rattle.flow_base.proofs.text.Text.decimal.Goals as goal

pub invariant_of-result : goal.invariant_of-result
invariant_of-result c =
    let P : List ℕ → Type 0 = λ t. length t ≤ 4096 in
    let number : to_z w64 (of_z w64 c.args.number) ≡ c.args.number = search rules in
    subst P (sym (c.in_ok-text.ensures.ok ∙ ap signed_decimal number)) (decimal_is_short c.args.number c.ranges.number.sfits)
