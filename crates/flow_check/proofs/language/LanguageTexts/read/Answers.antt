use Rattle.std.proofs.Common.{rules, ◌∙◌, Ok, Err, sym, ap}
use Rattle.flow_base.specs.Shown.{shown_program}
use Rattle.flow_check.specs.Faults.{IsCheckFault}
use Rattle.flow_check.specs.declared.fault.CheckFault.TheVariants.{Rule}
use Rattle.flow_syntax.specs.Faults.{fault_code}
use Rattle.flow_model.specs.Meaning.{IsProgramOf, IsTextFault}
use Rattle.flow_check.proofs.Meaning.{means_program, means_broken, means_fault}
use Rattle.flow_check.proofs.language.LanguageTexts.read.Goals as goal

pub returns-in-Ok-check : goal.returns-in-Ok-check
returns-in-Ok-check c =
    let p = shown_program c.in-Ok.program in
    let is : IsProgramOf c.args.text.now p = rw c.as_str.ensures at c.in-Ok.ensures.ok in
    means_program c.args.text.now p is c.in-Ok-check.ensures.well_formed ∙ ap (λ v. Ok v) (sym c.in-Ok-check.ensures.ok)

pub returns-in-Err-Rule : goal.returns-in-Err-Rule
returns-in-Err-Rule c =
    let p = shown_program c.in-Ok.program in
    let is : IsProgramOf c.args.text.now p = rw c.as_str.ensures at c.in-Ok.ensures.ok in
    let breaks : IsCheckFault p (Rule c.in-Err-Rule.fault) = search rules in
    means_broken c.args.text.now p c.in-Err-Rule.fault is breaks.0

pub returns-in-Ok-place : goal.returns-in-Ok-place
returns-in-Ok-place c =
    let place = c.in-Ok-place.at in
    let is : IsTextFault c.args.text.now (record { code = fault_code c.in-Err.fault; at = place }) = rw c.as_str.ensures at (c.in-Err.ensures.err place c.in-Ok-place.ensures) in
    means_fault c.args.text.now _ is ∙ ap (λ v. Err (record { code = v; at = place })) (sym c.code.ensures)
