use Rattle.std.proofs.Common.{◌≡◌, ◌≤◌, List, Option, length, ap, ◌∙◌, rules}
use Rattle.flow_base.specs.declared.value.Value.{Value}
use Rattle.flow_values.specs.Slots.{written}
use Rattle.flow_values.proofs.Slotted.{padded}
use Rattle.flow_values.proofs.slots.make_room.Goals as goal

pub loop-values-preserved : goal.loop-values-preserved
loop-values-preserved c = λ v.
    let short : length c.loop-values.values.items ≤ c.args.i = search rules in
    ap (λ (xs : List (Option Value)). written xs c.args.i v) c.in_ok-push.ensures.items ∙ padded c.loop-values.values.items c.args.i v short ∙ c.loop-values.invariant v
