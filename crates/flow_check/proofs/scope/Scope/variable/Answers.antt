use Rattle.std.proofs.Common.{◌≡◌, ◌+◌, ◌-◌, ◌<◌, true, false, Some, cond, length, take, bytes_eq, sym, ap, ◌∙◌, arith}
use Rattle.flow_model.specs.WellFormed.{no_types}
use Rattle.flow_check.specs.Tables.{variables_of, types_in}
use Rattle.flow_check.proofs.Scoping.{last_type}
use Rattle.flow_check.proofs.scope.Scope.variable.Goals as goal

pub returns-then-eq : goal.returns-then-eq
returns-then-eq c =
    let vs = variables_of c.args.self.now in
    let v = c.index-variable.result.now in
    let inside : c.loop-i.i - 1 < length vs = omega arith in
    let next : (c.loop-i.i - 1) + 1 ≡ c.loop-i.i = omega arith in
    let same : bytes_eq v.name.now c.args.name.now ≡ true =
    ap (λ x. bytes_eq x c.args.name.now) (sym c.as_str.ensures.text) ∙ ap (bytes_eq c.as_str.result.now) (sym c.as_str-in-loop-i.ensures.text) ∙ sym (c.if-eq.ensures {u = tt}) in
    ap (λ b. cond b (Some v.kind) (types_in no_types (take (c.loop-i.i - 1) vs) c.args.name.now)) (sym same) ∙ sym (last_type vs (c.loop-i.i - 1) v c.args.name.now inside c.index-variable.ensures)
    ∙ ap (λ i. types_in no_types (take i vs) c.args.name.now) next ∙ sym c.loop-i.invariant.0

pub loop-i-preserved : goal.loop-i-preserved
loop-i-preserved c =
    let vs = variables_of c.args.self.now in
    let v = c.index-variable.result.now in
    let inside : c.loop-i.i - 1 < length vs = omega arith in
    let next : c.loop-i.i ≡ (c.loop-i.i - 1) + 1 = omega arith in
    let other : bytes_eq v.name.now c.args.name.now ≡ false =
    ap (λ x. bytes_eq x c.args.name.now) (sym c.as_str.ensures.text) ∙ ap (bytes_eq c.as_str.result.now) (sym c.as_str-in-loop-i.ensures.text) ∙ sym (c.if-eq.ensures {u = tt}) in (
      c.loop-i.invariant.0 ∙ ap (λ i. types_in no_types (take i vs) c.args.name.now) next ∙ last_type vs (c.loop-i.i - 1) v c.args.name.now inside c.index-variable.ensures
          ∙ ap (λ b. cond b (Some v.kind) (types_in no_types (take (c.loop-i.i - 1) vs) c.args.name.now)) other,
      omega arith,
    )
