use Rattle.std.proofs.Common.{◌≡◌, inl, inr, map, option_and_then, Some, None, true, [], sym, ap, ◌∙◌, subst, refl}
use Rattle.clap.specs.Values.{kind_of}
use Rattle.clap.specs.Words.{app_of, is_simple, is_simple_and_free, fault_of, subcommand_of, subcommand_rows_of, HasKind}
use Rattle.clap.specs.declared.error.kind.ErrorKind.TheVariants.{OutOfMemory}
use Rattle.flow_cli.specs.Calls.{flow, named_call}
use Rattle.flow_cli.proofs.call.call_of.Goals as goal

pub returns-in-Some-clause-found : goal.returns-in-Some-clause-found
returns-in-Some-clause-found g c =
    let words = map g.S.AsStr.text c.args.words.now in
    let found = c.in-Ok-try_get_matches_from.found in
    let app : app_of c.in-Ok.command ≡ flow = c.in-Ok.ensures.app in
    let taken : fault_of flow words ≡ [] = subst (λ a. is_simple_and_free a ≡ true → fault_of a words ≡ []) app c.in-Ok-try_get_matches_from.ensures.kinds refl in
    let rows : subcommand_rows_of found ≡ subcommand_of flow words =
    subst (λ a. is_simple a ≡ true → subcommand_rows_of found ≡ subcommand_of a words) app (λ simple. (c.in-Ok-try_get_matches_from.ensures.matches simple).1) refl in
    record { taken = taken; says = ap (option_and_then (λ p. named_call p.0 p.1)) (sym rows) ∙ sym c.matched_call.ensures ∙ rw c.in-Some.is refl }

-- words that are a call have a subcommand with what that call needs
pub returns-in-Ok-try_get_matches_from-clause-only : goal.returns-in-Ok-try_get_matches_from-clause-only
returns-in-Ok-try_get_matches_from-clause-only g c call is =
    let words = map g.S.AsStr.text c.args.words.now in
    let found = c.in-Ok-try_get_matches_from.found in
    let app : app_of c.in-Ok.command ≡ flow = c.in-Ok.ensures.app in
    let rows : subcommand_rows_of found ≡ subcommand_of flow words =
    subst (λ a. is_simple a ≡ true → subcommand_rows_of found ≡ subcommand_of a words) app (λ simple. (c.in-Ok-try_get_matches_from.ensures.matches simple).1) refl in
    let none : option_and_then (λ p. named_call p.0 p.1) (subcommand_rows_of found) ≡ None = sym c.matched_call.ensures ∙ rw c.in-None.is refl in
    let e : None ≡ Some call = sym none ∙ ap (option_and_then (λ p. named_call p.0 p.1)) rows ∙ is.says in
    absurd (cc)

pub returns-clause-only : goal.returns-clause-only
returns-clause-only g c call is =
    let words = map g.S.AsStr.text c.args.words.now in
    let error = c.in-Err-try_get_matches_from.error in
    let app : app_of c.in-Ok.command ≡ flow = c.in-Ok.ensures.app in
    let has : HasKind (fault_of flow words) error = subst (λ a. is_simple_and_free a ≡ true → HasKind (fault_of a words) error) app c.in-Err-try_get_matches_from.ensures.kinds refl in
    let memory : kind_of error ≡ OutOfMemory = elim (subst (λ ks. HasKind ks error) is.taken has) [ inl is ↦ is | inr none ↦ absurd none ] in
    c.fault_of_kind.ensures.memory (c.kind.ensures ∙ memory)
