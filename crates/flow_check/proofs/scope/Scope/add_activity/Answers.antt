use Rattle.std.proofs.Common.{◌≡◌, false, is_some, bytes_eq, subst, sym, ◌∙◌, rules}
use Rattle.std.specs.HashMap.{get_by}
use Rattle.flow_base.specs.Syntax.{Bytes}
use Rattle.flow_check.proofs.Scoping.{Updated, updated, activity_new}
use Rattle.flow_check.proofs.scope.Scope.add_activity.Goals as goal

pub returns-in_ok-insert-clause-activities : goal.returns-in_ok-insert-clause-activities
returns-in_ok-insert-clause-activities c =
    let m = c.args.self.now.activities in
    let n = c.insert.new.self in
    let key = c.as_str-then-not-contains_key.result.now in
    let u = subst (λ (x : Bytes). Updated m x c.args.signature n) c.as_str-then-not-contains_key.ensures.text (updated m n key c.args.signature c.in_ok-insert.ensures.updates) in
    let f : c.contains_key.result ≡ false = search rules in
    let e = subst (λ (x : Bytes). is_some (get_by (λ k. bytes_eq x k.now) m) ≡ false) c.as_str.ensures.text (sym c.contains_key.ensures ∙ f) in
    activity_new m c.args.name.now n c.args.signature u e
