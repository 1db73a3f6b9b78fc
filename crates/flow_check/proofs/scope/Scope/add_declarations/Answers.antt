use Rattle.std.proofs.Common.{[], refl, ◌∙◌}
use Rattle.flow_model.specs.WellFormed.{activity_of, signal_of}
use Rattle.flow_check.specs.Tables.{activities_of, signals_of}
use Rattle.flow_check.proofs.Scoping.{nothing_more, one_more_activity, one_more_signal}
use Rattle.flow_check.proofs.scope.Scope.add_declarations.Goals as goal

pub loop-declaration-init : goal.loop-declaration-init
loop-declaration-init c =
    record {
      types = refl;
      activities = nothing_more (activities_of c.args.self.now) (activity_of []) (λ x. refl);
      signals = nothing_more (signals_of c.args.self.now) (signal_of []) (λ x. refl);
      parameters = refl;
    }

pub loop-declaration-preserved : goal.loop-declaration-preserved
loop-declaration-preserved c =
    let old = c.args.self.now in
    let now = c.loop-declaration.self in
    let ds = c.args.declarations.now in
    let i = c.loop-declaration.declaration-index in
    let d = c.declaration-item.result in
    record {
      types = c.in_ok-add_declaration.ensures.types ∙ c.loop-declaration.invariant.types;
      activities = c.in_ok-add_declaration.ensures.activities ∙ one_more_activity (activities_of old) (activities_of now) ds i d c.loop-declaration-test.true c.declaration-item.is c.loop-declaration.invariant.activities;
      signals = c.in_ok-add_declaration.ensures.signals ∙ one_more_signal (signals_of old) (signals_of now) ds i d c.loop-declaration-test.true c.declaration-item.is c.loop-declaration.invariant.signals;
      parameters = c.in_ok-add_declaration.ensures.parameters ∙ c.loop-declaration.invariant.parameters;
    }
