use Rattle.std.proofs.Common.{◌≡◌, drop, map}
use Rattle.flow_base.specs.Syntax.{signals_of}
use Rattle.flow_base.specs.Shown.{shown_declaration}
use Rattle.flow_model.specs.Deliver.{signal_fits}
use Rattle.flow_run.proofs.setting.signal_fits.Given as goal

abbrev pub invariant-loop-d : goal.invariant-loop-d
invariant-loop-d l =
    signal_fits (signals_of (map shown_declaration l.declarations)) l.name l.v ≡ signal_fits (signals_of (map shown_declaration (drop l.d-index l.declarations))) l.name l.v
