use Rattle.std.proofs.Common.{◌≡◌, ◌≤◌, ◌∷◌, ℕ, List, Ok, sym, ap, subst, ◌∙◌}
use Rattle.std.proofs.lemmas.Option.{get_or_from_slice_get}
use Rattle.flow_base.specs.Syntax.{Bytes}
use Rattle.flow_model.specs.Checked.{shown_checked}
use Rattle.flow_programs.specs.Keeping.{IsPlace, total}
use Rattle.flow_programs.proofs.Listing.{total_forward}
use Rattle.flow_programs.proofs.kept.Kept.take.Goals as goal

pub invariant_of-self : goal.invariant_of-self
invariant_of-self g c =
    let ts = c.self.inside.programs.items in
    let text = c.args.text.now in
    let at : IsPlace text ts c.in-Some.i = subst (λ (xs : List Bytes). IsPlace text xs c.in-Some.i) c.deref.ensures.value c.in-Some.ensures.some in
    subst (λ (xs : List Bytes). total xs ≤ 1048576) (sym (c.bring_forward.ensures ∙ ap (λ o. text ∷ o) at.others))
    (subst (λ (n : ℕ). n ≤ 1048576) (sym (total_forward text ts at.there)) c.self.invariant)

pub returns-in_ok-program-in-Some-clause-program : goal.returns-in_ok-program-in-Some-clause-program
returns-in_ok-program-in-Some-clause-program g c =
    let ts = c.self.inside.programs.items in
    let text = c.args.text.now in
    let at : IsPlace text ts c.in-Some.i = subst (λ (xs : List Bytes). IsPlace text xs c.in-Some.i) c.deref.ensures.value c.in-Some.ensures.some in
    let same : c.index.result.now ≡ text = c.index.ensures ∙ get_or_from_slice_get ts c.in-Some.i text _ at.at in
    subst (λ (t : Bytes). g.T.Texts.meaning t ≡ Ok (shown_checked c.in_ok-program-in-Some.program.value)) same c.in_ok-program-in-Some.ensures
