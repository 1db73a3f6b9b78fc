-- There is no first difference exactly where the new text settles its ids, and what that means for the runs of the old one.
use Rattle.std.proofs.Common.{◌≡◌, ℕ, List, [], ◌∷◌, map, refl, sym, ap, ◌∙◌, subst, Bool, true, false, Option, Some, None}
use Rattle.std.specs.Prelude.{bytes_eq, if◌then◌else◌}
use Rattle.std.proofs.lemmas.Bool.{true≢false}
use Rattle.flow_base.specs.Syntax.{Bytes, Declared, Program}
use Rattle.flow_base.specs.Bare.{bare_declared}
use Rattle.flow_patch.specs.Difference.{first_place, difference, same_declared, place_of_declared, beginning_of, difference_of_parameters}
use Rattle.flow_patch.specs.Settle.{Settles, KeepsAnswered}
use Rattle.flow_patch.specs.Unsettled.{replaced, left, finished, difference_of_all, first_unsettled, UnsettledDecides}
use Rattle.flow_patch.proofs.Turns.{none_some}
use Rattle.flow_patch.proofs.Heads.{bytes_same, bytes_self, declared_alike, declared_by}
use Rattle.flow_patch.proofs.Differences.{alike, nowhere, places, no_place, tested, parameters_same, parameters_nowhere, is_empty, head_of, tail_of}
use Rattle.flow_patch.proofs.Unsettling.{unsettled_is_found, replaced_is_settled}
use Rattle.flow_patch.proofs.Settled.{settled_stands}

all_same : (ds ds' : List Declared) (after : ℕ) → difference_of_all ds ds' after ≡ None → map bare_declared ds ≡ map bare_declared ds'
all_same [] [] after n = refl
all_same [] (d' ∷ ds') after n = absurd (none_some (place_of_declared d') (sym n))
all_same (d ∷ ds) [] after n = absurd (none_some after (sym n))
all_same (d ∷ ds) (d' ∷ ds') after n =
    let t = tested (same_declared d d') (difference_of_all ds ds' after) (place_of_declared d') n in
    ap (λ x. x ∷ map bare_declared ds) (declared_alike d d' t.0) ∙ ap (λ xs. bare_declared d' ∷ xs) (all_same ds ds' after t.1)

all_nowhere : (ds ds' : List Declared) (after : ℕ) → map bare_declared ds ≡ map bare_declared ds' → difference_of_all ds ds' after ≡ None
all_nowhere [] [] after e = refl
all_nowhere [] (d' ∷ ds') after e = absurd (true≢false (ap is_empty e))
all_nowhere (d ∷ ds) [] after e = absurd (true≢false (sym (ap is_empty e)))
all_nowhere (d ∷ ds) (d' ∷ ds') after e = rw (declared_by d d' (ap (head_of (bare_declared d)) e)) (all_nowhere ds ds' after (ap tail_of e))

settles : (f : Bytes → Bool) (p p' : Program) → first_unsettled f p p' ≡ None → Settles f p p'
settles f p p' e =
    let body = difference (replaced f p.body) p'.body p'.body_end in
    let declared = difference_of_all p.declarations p'.declarations (beginning_of p'.body p'.body_end) in
    let parameters = difference_of_parameters p.parameters p'.parameters p'.parameters_end in
    let a = places (if bytes_eq p.name p'.name then None else Some p'.at) (first_place parameters (first_place declared body)) e in
    let b = places parameters (first_place declared body) a.1 in
    let c = places declared body b.1 in
    record {
      name = sym (bytes_same p.name p'.name (tested (bytes_eq p.name p'.name) None p'.at a.0).0);
      parameters = sym (parameters_same p.parameters p'.parameters p'.parameters_end b.0);
      declarations = sym (all_same p.declarations p'.declarations (beginning_of p'.body p'.body_end) c.0);
      body = sym (alike (replaced f p.body) p'.body p'.body_end c.1) ∙ replaced_is_settled f p.body;
    }

settled_nowhere : (f : Bytes → Bool) (p p' : Program) → Settles f p p' → first_unsettled f p p' ≡ None
settled_nowhere f p p' w =
    let body = difference (replaced f p.body) p'.body p'.body_end in
    let declared = difference_of_all p.declarations p'.declarations (beginning_of p'.body p'.body_end) in
    let parameters = difference_of_parameters p.parameters p'.parameters p'.parameters_end in
    let same : bytes_eq p.name p'.name ≡ true = subst (λ x. bytes_eq p.name x ≡ true) (sym w.name) (bytes_self p.name) in
    no_place (if bytes_eq p.name p'.name then None else Some p'.at) (first_place parameters (first_place declared body)) (rw same)
    (no_place parameters (first_place declared body) (parameters_nowhere p.parameters p'.parameters p'.parameters_end (sym w.parameters))
    (no_place declared body (all_nowhere p.declarations p'.declarations (beginning_of p'.body p'.body_end) (sym w.declarations))
    (nowhere (replaced f p.body) p'.body p'.body_end (replaced_is_settled f p.body ∙ sym w.body))))

pub unsettled_decides : UnsettledDecides
unsettled_decides f p p' = ((λ e. settles f p p' e), (λ w. settled_nowhere f p p' w))

-- where all before their bodies is the same
pub first_in_settled : (f : Bytes → Bool) (p p' : Program) → bytes_eq p.name p'.name ≡ true
    → difference_of_parameters p.parameters p'.parameters p'.parameters_end ≡ None
    → difference_of_all p.declarations p'.declarations (beginning_of p'.body p'.body_end) ≡ None
    → first_unsettled f p p' ≡ finished (left f p.body p'.body p'.body_end)
first_in_settled f p p' n q d = rw (n, q, d) (unsettled_is_found f p.body p'.body p'.body_end)

pub settles_then : (f : Bytes → Bool) (p p' : Program) → first_unsettled f p p' ≡ None → Settles f p p'
settles_then f p p' e = settles f p p' e

pub settles_never : (f : Bytes → Bool) (p p' : Program) (at : ℕ) → first_unsettled f p p' ≡ Some at → Settles f p p' → ⊥
settles_never f p p' at e w = none_some at (sym (settled_nowhere f p p' w) ∙ e)

pub answered_then : (f : Bytes → Bool) (p p' : Program) → first_unsettled f p p' ≡ None → KeepsAnswered f p p'
answered_then f p p' e h k no_no s = settled_stands f p p' h k (settles f p p' e) no_no s
