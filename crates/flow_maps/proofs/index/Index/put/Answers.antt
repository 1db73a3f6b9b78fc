use Rattle.std.specs.Prelude.{◌≡◌}
use Rattle.flow_maps.proofs.Names.{sym, subst, rules, false, is_some, ◌∙◌, Some, ap, not, bytes_eq, update, at_name}
use Rattle.flow_maps.proofs.Keys.{name_put}
use Rattle.flow_maps.proofs.Naming.{map_updates_name}
use Rattle.flow_maps.proofs.index.Index.put.Goals as goal

pub returns : goal.returns
returns c = λ t f none h.
    let m = c.args.self.now in
    let is : c.in-Some.name ≡ c.args.name.now = search rules in
    let number : c.in-Some-in_four_bytes.number ≡ c.args.run = search rules in
    name_put m (record m { map = c.insert.new.self }) c.args.name.now f c.args.run h c.in-Some-in_four_bytes.number none
    (subst (λ k. is_some (at_name m.map k) ≡ false) is (sym (ap is_some c.in-Ok.ensures.old) ∙ (c.is_none.ensures ∙ ap not t))) number
    (λ q. subst (λ k. at_name c.insert.new.self q ≡ update bytes_eq (at_name m.map) k (Some c.in-Some-in_four_bytes.number) q) is (map_updates_name m.map c.insert.new.self c.in-Some.name (Some c.in-Some-in_four_bytes.number) c.in-Ok.ensures.updates q))
