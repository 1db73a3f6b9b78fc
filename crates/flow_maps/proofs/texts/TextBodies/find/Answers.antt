use Rattle.std.specs.Prelude.{◌≡◌}
use Rattle.flow_maps.proofs.Names.{Some, rules, get, nat_cmp}
use Rattle.flow_maps.proofs.Staying.{text_found}
use Rattle.flow_maps.proofs.texts.TextBodies.find.Goals as goal

pub returns-in-Some : goal.returns-in-Some
returns-in-Some c =
    let there : get nat_cmp c.args.self.now.known c.args.number ≡ Some c.in-Some.body.now = search rules in
    text_found c.args.self.now c.args.number c.in-Some.body.now c.copied.result there c.copied.ensures
