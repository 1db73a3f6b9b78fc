use Rattle.std.proofs.Common.{◌≡◌, ◌≤◌, ◌∷◌, ◌-◌, List, take, sym, ap, subst, ◌∙◌, arith}
use Rattle.flow_base.specs.Syntax.{Bytes}
use Rattle.flow_programs.specs.Keeping.{total, fitting, weight}
use Rattle.flow_programs.proofs.Listing.{kept_within}
use Rattle.flow_programs.proofs.kept.Kept.keep.Goals as goal

pub invariant_of-self-2 : goal.invariant_of-self-2
invariant_of-self-2 g c =
    let text = c.args.text.now in
    let ts = c.reserve.new.self.items in
    let counts : c.weight_of-weight.result ≡ weight text = c.weight_of-weight.ensures in
    let fits : c.truncate.new.self.items ≡ fitting (1048576 - weight text) ts =
    c.truncate.ensures.items ∙ ap (take c.count_of_fitting-count.result) (sym c.deref.ensures.value) ∙ c.count_of_fitting-count.ensures ∙ ap (fitting (1048576 - c.weight_of-weight.result)) c.deref.ensures.value ∙ ap (λ n. fitting (1048576 - n) ts) counts in
    subst (λ (xs : List Bytes). total xs ≤ 1048576) (sym (c.put_first.ensures ∙ ap (λ k. k ∷ c.truncate.new.self.items) c.in_ok-known.ensures ∙ ap (λ (xs : List Bytes). text ∷ xs) fits)) (kept_within text ts 1048576 (omega (arith, counts, c.if-weight-gt-LIMIT.false)))
