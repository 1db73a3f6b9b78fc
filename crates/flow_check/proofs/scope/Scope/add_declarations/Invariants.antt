use Rattle.std.proofs.Common.{◌≡◌, map, take}
use Rattle.flow_base.specs.Shown.{shown_declaration}
use Rattle.flow_model.specs.WellFormed.{activity_of, signal_of}
use Rattle.flow_check.specs.Tables.{types_of, activities_of, signals_of, parameters_of, first_then}
use Rattle.flow_check.proofs.scope.Scope.add_declarations.Given as goal

abbrev pub invariant-loop-declaration : goal.invariant-loop-declaration
invariant-loop-declaration l =
    record {
      types : types_of l.self ≡ types_of l.fn.self;
      activities : activities_of l.self ≡ first_then (activities_of l.fn.self) (activity_of (map shown_declaration (take l.declaration-index l.declarations)));
      signals : signals_of l.self ≡ first_then (signals_of l.fn.self) (signal_of (map shown_declaration (take l.declaration-index l.declarations)));
      parameters : parameters_of l.self ≡ parameters_of l.fn.self;
    }
