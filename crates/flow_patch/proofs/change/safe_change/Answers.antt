use Rattle.std.proofs.Common.{rules, ◌≡◌, Some, None}
use Rattle.flow_model.specs.Checked.{shown_checked}
use Rattle.flow_patch.specs.Difference.{first_difference}
use Rattle.flow_patch.proofs.Wrapping.{wraps_then, wraps_never, stands_then, never_then, upgraded_then}
use Rattle.flow_patch.proofs.change.safe_change.Goals as goal

pub returns-in-Ok-clause-safe : goal.returns-in-Ok-clause-safe
returns-in-Ok-clause-safe c =
    let p = shown_checked c.args.old.now in
    let q = shown_checked c.args.new.now in
    let same : first_difference p q ≡ None = search rules in wraps_then p q same

pub returns-in-Ok-clause-stands : goal.returns-in-Ok-clause-stands
returns-in-Ok-clause-stands c =
    let p = shown_checked c.args.old.now in
    let q = shown_checked c.args.new.now in
    let same : first_difference p q ≡ None = search rules in stands_then p q c.program.ensures.well_formed same

pub returns-in-Ok-clause-never_fails : goal.returns-in-Ok-clause-never_fails
returns-in-Ok-clause-never_fails c =
    let p = shown_checked c.args.old.now in
    let q = shown_checked c.args.new.now in
    let same : first_difference p q ≡ None = search rules in never_then p q c.program.ensures.well_formed same

pub returns-in-Ok-clause-upgraded : goal.returns-in-Ok-clause-upgraded
returns-in-Ok-clause-upgraded c =
    let p = shown_checked c.args.old.now in
    let q = shown_checked c.args.new.now in
    let same : first_difference p q ≡ None = search rules in upgraded_then p q c.program.ensures.well_formed same

pub returns-in-Err-clause-refused : goal.returns-in-Err-clause-refused
returns-in-Err-clause-refused c =
    let p = shown_checked c.args.old.now in
    let q = shown_checked c.args.new.now in
    let other : first_difference p q ≡ Some c.in-Err.at = search rules in wraps_never p q c.in-Err.at other
