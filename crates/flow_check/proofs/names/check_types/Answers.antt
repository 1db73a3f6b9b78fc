use Rattle.std.proofs.Common.{map, take, ◌+◌}
use Rattle.flow_base.specs.Shown.{shown_declaration}
use Rattle.flow_check.proofs.Declaring.{map_one_more}
use Rattle.flow_check.proofs.Expressing.{one_more_noted}
use Rattle.flow_check.proofs.names.check_types.Goals as goal

pub loop-declaration-preserved : goal.loop-declaration-preserved
loop-declaration-preserved c =
    let ds = c.args.declarations.now in
    let i = c.loop-declaration.declaration-index in
    let d = c.declaration-item.result in
    one_more_noted c.args.found.now c.loop-declaration.found c.check_declaration.new.found (map shown_declaration (take i ds)) (shown_declaration d) (map shown_declaration (take (i + 1) ds))
    (map_one_more shown_declaration ds i d c.loop-declaration-test.true c.declaration-item.is) c.loop-declaration.invariant c.check_declaration.ensures
