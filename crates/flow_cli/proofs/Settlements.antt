-- The status of two texts is 0 exactly where both are programs and the second settles patches of the first.
use Rattle.std.proofs.Common.{arith, ◌≡◌, ◌↔◌, ℕ, List, [], ◌∷◌, map, refl, sym, ap, ◌∙◌, subst, false, Option, Some, None, Result, Ok, Err}
use Rattle.std.specs.Prelude.{is_ok}
use Rattle.std.proofs.lemmas.Bool.{true≢false}
use Rattle.serde_json.specs.Data.{string}
use Rattle.serde_json.specs.View.{items_of}
use Rattle.serde_json.specs.Written.{has_float, items_have_float}
use Rattle.flow_base.specs.Syntax.{Bytes, Program}
use Rattle.flow_base.specs.declared.command.TextFault.{TextFault}
use Rattle.flow_base.specs.declared.code.Code.TheVariants.{NotSettled}
use Rattle.flow_cli.specs.declared.settlement.Settlement.TheVariants as settlement
use Rattle.flow_cli.specs.Settlements.{ids_out, of_unsettled, settlement_of, settlement_status, MeansSettled}
use Rattle.flow_patch.specs.declared.fault.Unsafe.{Unsafe}
use Rattle.flow_patch.specs.Settle.{is_among, settled_ids, Settles}
use Rattle.flow_patch.specs.Unsettled.{first_unsettled}
use Rattle.flow_patch.proofs.Settles.{unsettled_decides}

no_difference : (p p' : Program) (o : Option ℕ) → settlement_status (of_unsettled p p' o) ≡ 0 → o ≡ None
no_difference p p' None e = refl
no_difference p p' (Some at) e = absurd (omega (arith, e))

abbrev program_in : Program → Result Program TextFault → Program
program_in d (Ok p) = p
program_in d (Err f) = d

abbrev AllSettled : Program → Program → Type 0
AllSettled p p' = Settles (is_among (settled_ids p p')) p p'

settled_same : (p p' q q' : Program) → p ≡ q → p' ≡ q' → AllSettled q q' → AllSettled p p'
settled_same p p' q q' e e' w = subst (λ x. AllSettled x p') (sym e) (subst (λ x'. AllSettled q x') (sym e') w)

pub means_settled : (m m' : Result Program TextFault) (n : ℕ) → n ≡ settlement_status (settlement_of m m') → (n ≡ 0) ↔ MeansSettled m m'
means_settled (Ok p) (Ok p') n s = (
  (λ z. (p, (p', (refl, refl, (unsettled_decides (is_among (settled_ids p p')) p p').0 (no_difference p p' (first_unsettled (is_among (settled_ids p p')) p p') (sym s ∙ z)))))),
  (λ w. s ∙ ap (λ o. settlement_status (of_unsettled p p' o))
      ((unsettled_decides (is_among (settled_ids p p')) p p').1 (settled_same p p' w.0 w.1.0 (ap (program_in p) w.1.1.0) (ap (program_in p') w.1.1.1) w.1.1.2))),
)
means_settled (Err f) (Ok p') n s = ((λ z. absurd (omega (arith, s, z))), (λ w. absurd (true≢false (sym (ap is_ok w.1.1.0)))))
means_settled (Ok p) (Err f') n s = ((λ z. absurd (omega (arith, s, z))), (λ w. absurd (true≢false (sym (ap is_ok w.1.1.1)))))
means_settled (Err f) (Err f') n s = ((λ z. absurd (omega (arith, s, z))), (λ w. absurd (true≢false (sym (ap is_ok w.1.1.0)))))

-- what a call tells of two programs
pub settled_told : (p p' : Program) → first_unsettled (is_among (settled_ids p p')) p p' ≡ None → settlement.Settles (settled_ids p p') ≡ settlement_of (Ok p) (Ok p')
settled_told p p' e = ap (of_unsettled p p') (sym e)

pub differs_told : (p p' : Program) (u : Unsafe) → u.code ≡ NotSettled → first_unsettled (is_among (settled_ids p p')) p p' ≡ Some u.at → settlement.Differs u ≡ settlement_of (Ok p) (Ok p')
differs_told p p' u c e = ap (λ k. settlement.Differs (record { at = u.at; code = k })) c ∙ ap (of_unsettled p p') (sym e)

-- no number of the list is a floating one
texts_plain : (ids : List Bytes) → items_have_float (items_of (map string ids)) ≡ false
texts_plain [] = refl
texts_plain (id ∷ ids) = texts_plain ids

pub ids_plain : (ids : List Bytes) → has_float (ids_out ids) ≡ false
ids_plain ids = texts_plain ids
