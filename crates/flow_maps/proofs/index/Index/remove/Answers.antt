use Rattle.std.specs.Prelude.{◌≡◌}
use Rattle.flow_maps.proofs.Names.{subst, rules, None, bytes_eq, update, at_name}
use Rattle.flow_maps.proofs.Keys.{name_out}
use Rattle.flow_maps.proofs.Naming.{map_updates_name}
use Rattle.flow_maps.proofs.index.Index.remove.Goals as goal

pub returns : goal.returns
returns c = λ _ f run at h.
    let m = c.args.self.now in
    let is : c.in-Some.name ≡ c.args.name.now = search rules in
    name_out m (record m { map = c.remove.new.self }) c.args.name.now f run h at
    (λ q. subst (λ k. at_name c.remove.new.self q ≡ update bytes_eq (at_name m.map) k None q) is (map_updates_name m.map c.remove.new.self c.in-Some.name None c.remove.ensures.updates q))
