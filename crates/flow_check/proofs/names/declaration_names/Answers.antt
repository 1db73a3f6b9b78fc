use Rattle.flow_check.proofs.Declaring.{declares_nothing, one_more_declaration}
use Rattle.flow_check.proofs.names.declaration_names.Goals as goal

pub loop-declaration-init : goal.loop-declaration-init
loop-declaration-init c = declares_nothing c.args.names.now c.args.found.now

pub loop-declaration-preserved : goal.loop-declaration-preserved
loop-declaration-preserved c =
    one_more_declaration c.args.names.now c.loop-declaration.names c.declaration_name.new.names c.args.found.now c.loop-declaration.found c.declaration_name.new.found c.loop-declaration.declaration-index
    c.args.declarations.now c.declaration-item.result c.loop-declaration-test.true c.declaration-item.is c.loop-declaration.invariant c.in_ok-declaration_name.ensures
