use Rattle.std.specs.Prelude.{◌≡◌}
use Rattle.flow_maps.proofs.Names.{ℕ, None, refl, rules, subst, sym, IsFound, at_name}
use Rattle.flow_maps.proofs.index.Index.new.Goals as goal

pub returns : goal.returns
returns c q = let none : at_name c.new.result q ≡ None = search rules in subst (λ o. IsFound o q (λ (n : ℕ). None)) (sym none) (λ n. refl)
