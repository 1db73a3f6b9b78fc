use Rattle.std.proofs.Common.{rules, ◌≡◌, sym, subst, Some, None, IfErr, OnOk, ℕ, Option, true}
use Rattle.std.specs.Prelude.{bytes_eq}
use Rattle.flow_base.specs.Shown.{shown_program}
use Rattle.flow_patch.specs.Behind.{behind, ended, unknown_in}
use Rattle.flow_patch.specs.Difference.{beginning_of, difference_of_declarations, difference_of_parameters}
use Rattle.flow_patch.proofs.Walks.{first_in_bodies}
use Rattle.flow_patch.proofs.compare.compare.Goals as goal

pub returns-clause-same : goal.returns-clause-same
returns-clause-same c =
    let p = shown_program c.args.old.now in
    let q = shown_program c.args.new.now in
    let name : bytes_eq p.name q.name ≡ true = search rules in
    let parameters : difference_of_parameters p.parameters q.parameters q.parameters_end ≡ None = search rules in
    let declarations : difference_of_declarations p.declarations q.declarations (beginning_of q.body q.body_end) ≡ None = search rules in
    let body : OnOk c.compare_bodies.result (ended (behind (unknown_in p.body) q.body p.body) q.body_end ≡ None) = search rules in
    subst (λ (d : Option ℕ). OnOk c.compare_bodies.result (d ≡ None)) (sym (first_in_bodies p q name parameters declarations)) body

pub returns-clause-place : goal.returns-clause-place
returns-clause-place c =
    let p = shown_program c.args.old.now in
    let q = shown_program c.args.new.now in
    let name : bytes_eq p.name q.name ≡ true = search rules in
    let parameters : difference_of_parameters p.parameters q.parameters q.parameters_end ≡ None = search rules in
    let declarations : difference_of_declarations p.declarations q.declarations (beginning_of q.body q.body_end) ≡ None = search rules in
    let body : IfErr c.compare_bodies.result (λ at. ended (behind (unknown_in p.body) q.body p.body) q.body_end ≡ Some at) = search rules in
    subst (λ (d : Option ℕ). IfErr c.compare_bodies.result (λ at. d ≡ Some at)) (sym (first_in_bodies p q name parameters declarations)) body
