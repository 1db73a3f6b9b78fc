use Rattle.std.proofs.Common.{◌≡◌, List, ap, sym, subst, ◌∙◌, map, drop}
use Rattle.flow_base.specs.declared.code.Code.TheVariants as code
use Rattle.flow_base.specs.declared.syntax.Branch.{Branch}
use Rattle.flow_base.specs.Shown.{shown_branch, branches_of}
use Rattle.flow_model.specs.WellFormed.{earliest, fault_at_first, branch_places}
use Rattle.flow_check.proofs.Expressing.{first_branch_beyond, no_branch_beyond}
use Rattle.flow_check.proofs.statement.check_branch_count.Goals as goal

pub returns-in-Some : goal.returns-in-Some
returns-in-Some c =
    let h = c.in-Some.ensures.lookup in
    subst (λ (bs : List Branch). c.note.new.self ≡ earliest c.args.found.now (fault_at_first code.TooManyBranches (drop 7 (branch_places (branches_of (map shown_branch bs)))))) c.deref.ensures.value
    (c.note.ensures ∙ ap (earliest c.args.found.now) (sym (first_branch_beyond code.TooManyBranches c.deref.result.now 7 c.in-Some.beyond.now h.3.0 h.1)))

pub returns-in_default : goal.returns-in_default
returns-in_default c =
    let h = c.in_default.ensures.lookup in
    subst (λ (bs : List Branch). c.args.found.now ≡ earliest c.args.found.now (fault_at_first code.TooManyBranches (drop 7 (branch_places (branches_of (map shown_branch bs)))))) c.deref.ensures.value
    (ap (earliest c.args.found.now) (sym (no_branch_beyond code.TooManyBranches c.deref.result.now 7 h.3)))
