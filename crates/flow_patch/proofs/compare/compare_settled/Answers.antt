use Rattle.std.proofs.Common.{rules, ◌≡◌, sym, subst, Some, None, IfErr, OnOk, ℕ, Option, true}
use Rattle.std.specs.Prelude.{bytes_eq}
use Rattle.flow_base.specs.Shown.{shown_program}
use Rattle.flow_patch.specs.Difference.{beginning_of, difference_of_parameters}
use Rattle.flow_patch.specs.Settle.{is_among}
use Rattle.flow_patch.specs.Unsettled.{left, finished, difference_of_all}
use Rattle.flow_patch.proofs.Settles.{first_in_settled}
use Rattle.flow_patch.proofs.compare.compare_settled.Goals as goal

pub returns-clause-same : goal.returns-clause-same
returns-clause-same c =
    let p = shown_program c.args.old.now in
    let q = shown_program c.args.new.now in
    let f = is_among c.args.ids.now in
    let name : bytes_eq p.name q.name ≡ true = search rules in
    let parameters : difference_of_parameters p.parameters q.parameters q.parameters_end ≡ None = search rules in
    let declarations : difference_of_all p.declarations q.declarations (beginning_of q.body q.body_end) ≡ None = search rules in
    let body : OnOk c.compare_lists.result (finished (left f p.body q.body q.body_end) ≡ None) = rw (c.body_of.ensures, c.body_of-2.ensures) at c.compare_lists.ensures.same in
    subst (λ (d : Option ℕ). OnOk c.compare_lists.result (d ≡ None)) (sym (first_in_settled f p q name parameters declarations)) body

pub returns-clause-place : goal.returns-clause-place
returns-clause-place c =
    let p = shown_program c.args.old.now in
    let q = shown_program c.args.new.now in
    let f = is_among c.args.ids.now in
    let name : bytes_eq p.name q.name ≡ true = search rules in
    let parameters : difference_of_parameters p.parameters q.parameters q.parameters_end ≡ None = search rules in
    let declarations : difference_of_all p.declarations q.declarations (beginning_of q.body q.body_end) ≡ None = search rules in
    let body : IfErr c.compare_lists.result (λ at. finished (left f p.body q.body q.body_end) ≡ Some at) = rw (c.body_of.ensures, c.body_of-2.ensures) at c.compare_lists.ensures.place in
    subst (λ (d : Option ℕ). IfErr c.compare_lists.result (λ at. d ≡ Some at)) (sym (first_in_settled f p q name parameters declarations)) body
