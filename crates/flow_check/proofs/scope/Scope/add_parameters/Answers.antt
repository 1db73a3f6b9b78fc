use Rattle.std.proofs.Common.{◌∙◌}
use Rattle.flow_check.specs.Tables.{types_of}
use Rattle.flow_check.proofs.Scoping.{one_more_type}
use Rattle.flow_check.proofs.scope.Scope.add_parameters.Goals as goal

pub loop-parameter-preserved : goal.loop-parameter-preserved
loop-parameter-preserved c =
    record {
      types = c.in_ok-add_variable.ensures.types ∙ one_more_type (types_of c.args.self.now) (types_of c.loop-parameter.self) c.args.parameters.now c.loop-parameter.parameter-index c.parameter-item.result c.loop-parameter-test.true c.parameter-item.is c.loop-parameter.invariant.types;
      activities = c.in_ok-add_variable.ensures.activities ∙ c.loop-parameter.invariant.activities;
      signals = c.in_ok-add_variable.ensures.signals ∙ c.loop-parameter.invariant.signals;
      parameters = c.in_ok-add_variable.ensures.parameters ∙ c.loop-parameter.invariant.parameters;
    }
