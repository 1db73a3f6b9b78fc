use Rattle.std.proofs.Common.{◌≡◌, take}
use Rattle.flow_model.specs.WellFormed.{types_of_parameters}
use Rattle.flow_check.specs.Tables.{types_of, activities_of, signals_of, parameters_of}
use Rattle.flow_check.proofs.scope.Scope.add_parameters.Given as goal

abbrev pub invariant-loop-parameter : goal.invariant-loop-parameter
invariant-loop-parameter l =
    record {
      types : types_of l.self ≡ types_of_parameters (types_of l.fn.self) (take l.parameter-index l.parameters);
      activities : activities_of l.self ≡ activities_of l.fn.self;
      signals : signals_of l.self ≡ signals_of l.fn.self;
      parameters : parameters_of l.self ≡ parameters_of l.fn.self;
    }
