-- The status of two texts is 0 exactly where both are programs and the second wraps the first.
use Rattle.std.proofs.Common.{arith, ◌≡◌, ◌↔◌, ℕ, refl, sym, ap, ◌∙◌, subst, Option, Some, None, Result, Ok, Err}
use Rattle.std.specs.Prelude.{is_ok}
use Rattle.std.proofs.lemmas.Bool.{true≢false}
use Rattle.flow_base.specs.Syntax.{Program}
use Rattle.flow_base.specs.declared.command.TextFault.{TextFault}
use Rattle.flow_cli.specs.Safety.{of_difference, safety_of, safety_status, MeansWrap}
use Rattle.flow_patch.specs.Wrap.{Wrap}
use Rattle.flow_patch.specs.Difference.{first_difference}
use Rattle.flow_patch.proofs.Differences.{difference_decides}

no_difference : (o : Option ℕ) → safety_status (of_difference o) ≡ 0 → o ≡ None
no_difference None e = refl
no_difference (Some at) e = absurd (omega (arith, e))

abbrev program_in : Program → Result Program TextFault → Program
program_in d (Ok p) = p
program_in d (Err f) = d

wrapped_same : (p p' q q' : Program) → p ≡ q → p' ≡ q' → Wrap q q' → Wrap p p'
wrapped_same p p' q q' e e' w = subst (λ x. Wrap x p') (sym e) (subst (λ x'. Wrap q x') (sym e') w)

pub means_wrap : (m m' : Result Program TextFault) (n : ℕ) → n ≡ safety_status (safety_of m m') → (n ≡ 0) ↔ MeansWrap m m'
means_wrap (Ok p) (Ok p') n s = (
  (λ z. (p, (p', (refl, refl, (difference_decides p p').0 (no_difference (first_difference p p') (sym s ∙ z)))))),
  (λ w. s ∙ ap (λ o. safety_status (of_difference o))
      ((difference_decides p p').1 (wrapped_same p p' w.0 w.1.0 (ap (program_in p) w.1.1.0) (ap (program_in p') w.1.1.1) w.1.1.2))),
)
means_wrap (Err f) (Ok p') n s = ((λ z. absurd (omega (arith, s, z))), (λ w. absurd (true≢false (sym (ap is_ok w.1.1.0)))))
means_wrap (Ok p) (Err f') n s = ((λ z. absurd (omega (arith, s, z))), (λ w. absurd (true≢false (sym (ap is_ok w.1.1.1)))))
means_wrap (Err f) (Err f') n s = ((λ z. absurd (omega (arith, s, z))), (λ w. absurd (true≢false (sym (ap is_ok w.1.1.0)))))
