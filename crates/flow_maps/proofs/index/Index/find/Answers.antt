use Rattle.std.specs.Prelude.{◌≡◌}
use Rattle.flow_maps.proofs.Names.{rules, None, Some, subst, sym, IsFound, at_name}
use Rattle.flow_maps.proofs.index.Index.find.Goals as goal

pub returns-in_default-get : goal.returns-in_default-get
returns-in_default-get c = λ f h.
    let none : None ≡ at_name c.args.self.now.map c.args.name.now = search rules in
    subst (λ o. IsFound o c.args.name.now f) (sym none) (h c.args.name.now)

pub returns : goal.returns
returns c = λ f h.
    let found : Some c.in-Some-new.run' ≡ at_name c.args.self.now.map c.args.name.now = search rules in
    subst (λ o. IsFound o c.args.name.now f) (sym found) (h c.args.name.now)
