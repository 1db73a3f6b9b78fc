use Rattle.flow_check.proofs.Declaring.{declares_nothing, one_more_parameter}
use Rattle.flow_check.proofs.names.parameter_names.Goals as goal

pub loop-parameter-init : goal.loop-parameter-init
loop-parameter-init c = declares_nothing c.args.names.now c.args.found.now

pub loop-parameter-preserved : goal.loop-parameter-preserved
loop-parameter-preserved c =
    one_more_parameter c.args.names.now c.loop-parameter.names c.variable.new.self c.args.found.now c.loop-parameter.found c.variable.new.found c.loop-parameter.parameter-index
    c.args.parameters.now c.parameter-item.result c.loop-parameter-test.true c.parameter-item.is c.loop-parameter.invariant c.in_ok-variable.ensures
