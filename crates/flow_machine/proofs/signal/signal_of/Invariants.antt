use Rattle.std.proofs.Common.{◌≡◌, drop, map}
use Rattle.flow_base.specs.Shown.{shown_declaration}
use Rattle.flow_model.specs.WellFormed.{signal_of}
use Rattle.flow_machine.proofs.signal.signal_of.Given as goal

abbrev pub invariant-loop-declaration : goal.invariant-loop-declaration
invariant-loop-declaration l =
    signal_of (map shown_declaration l.declarations) l.name ≡ signal_of (map shown_declaration (drop l.declaration-index l.declarations)) l.name
