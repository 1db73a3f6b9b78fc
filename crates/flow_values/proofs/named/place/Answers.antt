use Rattle.std.proofs.Common.{rules, ap, sym, ◌∙◌}
use Rattle.std.specs.Prelude.{bytes_eq}
use Rattle.std.proofs.lemmas.List.{get_or_default}
use Rattle.flow_base.specs.declared.value.Value.{Value}
use Rattle.flow_base.specs.Syntax.{Bytes}
use Rattle.flow_values.proofs.Lists.{put_found}
use Rattle.flow_values.proofs.named.place.Goals as goal

pub returns-then-is : goal.returns-then-is
returns-then-is c = (
  search rules,
  λ v d. put_found _ _ _ v d (search rules)
      (ap (λ (e : Bytes × Value). bytes_eq e.0 c.args.name.now) (get_or_default c.args.entries.now c.loop-i.i d c.index-entries-i.result (search rules) ∙ sym c.index-entries-i.is) ∙ sym c.is.ensures.test ∙ c.if-is.true) (c.loop-i.invariant v),
)
