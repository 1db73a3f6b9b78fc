use Rattle.std.proofs.Common.{◌≡◌, drop, map}
use Rattle.flow_base.specs.Syntax.{activities_of}
use Rattle.flow_base.specs.Shown.{shown_declaration}
use Rattle.flow_model.specs.Step.{gives_of}
use Rattle.flow_run.proofs.setting.gives.Given as goal

abbrev pub invariant-loop-d : goal.invariant-loop-d
invariant-loop-d l = gives_of (activities_of (map shown_declaration l.declarations)) l.name ≡ gives_of (activities_of (map shown_declaration (drop l.d-index l.declarations))) l.name
