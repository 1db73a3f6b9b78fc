use Rattle.std.proofs.Common.{◌≡◌, Some, sym, ◌∙◌}
use Rattle.flow_base.specs.Shown.{shown_program}
use Rattle.flow_model.specs.WellFormed.{first_fault}
use Rattle.flow_model.proofs.FirstFault.{first_is, well_formed}
use Rattle.flow_check.proofs.check.check.Goals as goal

pub returns-in-Some-clause-fault : goal.returns-in-Some-clause-fault
returns-in-Some-clause-fault c =
    let p = shown_program c.args.program in
    let is : first_fault p ≡ Some c.in-Some.fault = sym c.in_ok-fault.ensures ∙ c.in-Some.is in
    (first_is p c.in-Some.fault is, is)

pub returns-in_ok-table-in-None-clause-well_formed : goal.returns-in_ok-table-in-None-clause-well_formed
returns-in_ok-table-in-None-clause-well_formed c = well_formed (shown_program c.args.program) (sym c.in_ok-fault.ensures ∙ c.in-None.is)

pub of-requires-in-None-clause-well_formed : goal.of-requires-in-None-clause-well_formed
of-requires-in-None-clause-well_formed c = well_formed (shown_program c.args.program) (sym c.in_ok-fault.ensures ∙ c.in-None.is)
