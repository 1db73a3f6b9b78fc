use Rattle.std.proofs.Common.{◌≡◌, false, is_some, bytes_eq, subst, sym, ◌∙◌, rules}
use Rattle.std.specs.HashMap.{get_by}
use Rattle.flow_base.specs.Syntax.{Bytes}
use Rattle.flow_check.proofs.Scoping.{Updated, updated, signal_new}
use Rattle.flow_check.proofs.scope.Scope.add_signal.Goals as goal

pub returns-in_ok-insert-clause-signals : goal.returns-in_ok-insert-clause-signals
returns-in_ok-insert-clause-signals c =
    let m = c.args.self.now.signals in
    let n = c.insert.new.self in
    let key = c.as_str-then-not-contains_key.result.now in
    let u = subst (λ (x : Bytes). Updated m x c.args.carries n) c.as_str-then-not-contains_key.ensures.text (updated m n key c.args.carries c.in_ok-insert.ensures.updates) in
    let f : c.contains_key.result ≡ false = search rules in
    let e = subst (λ (x : Bytes). is_some (get_by (λ k. bytes_eq x k.now) m) ≡ false) c.as_str.ensures.text (sym c.contains_key.ensures ∙ f) in
    signal_new m c.args.name.now n c.args.carries u e
