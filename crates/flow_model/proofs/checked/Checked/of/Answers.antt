use Rattle.std.proofs.Common.{sym, subst}
use Rattle.flow_base.specs.Shown.{shown_program}
use Rattle.flow_base.specs.declared.syntax.Program.{Program}
use Rattle.flow_model.specs.WellFormed.{WellFormed}
use Rattle.flow_model.proofs.checked.Checked.of.Goals as goal

pub invariant_of-result : goal.invariant_of-result
invariant_of-result c = record { well_formed = subst (λ (p : Program). WellFormed (shown_program p)) (sym c.of-tabled.ensures) c.requires.well_formed }
