-- The first turn of a run.
use Rattle.std.proofs.Common.{◌≡◌, ℕ, List, Bool, true, false, Option, Some, None, refl, sym, ap, ◌∙◌, subst}
use Rattle.std.specs.Prelude.{if◌then◌else◌}
use Rattle.std.proofs.lemmas.Bool.{true≢false}
use Rattle.flow_base.specs.Syntax.{Program}
use Rattle.flow_base.specs.declared.value.Value.{Value}
use Rattle.flow_base.specs.declared.event.Cmd.{Cmd}
use Rattle.flow_base.specs.declared.event.Input.TheVariants as input
use Rattle.flow_model.specs.Configuration.{Configuration, first_configuration, is_closed}
use Rattle.flow_model.specs.Deliver.{Progress, deliver, all_fit}
use Rattle.flow_model.specs.Turn.{Answers, Turn}
use Rattle.flow_model.specs.Turned.{turned}

pub turn_from : (p : Program) (answers : Answers) (k k' : Configuration) (at : ℕ) (vs ws : List Value) (cs : List Cmd) (new : Configuration) → k ≡ k' → vs ≡ ws → Turn p answers k at (input.Started vs) cs new → Turn p answers k' at (input.Started ws) cs new
turn_from p answers k k' at vs ws cs new e f t =
    subst (λ (q : Configuration). Turn p answers q at (input.Started ws) cs new) e
    (subst (λ (xs : List Value). Turn p answers k at (input.Started xs) cs new) f t)

pub turned_from : (p : Program) (answers : Answers) (k k' : Configuration) (at : ℕ) (vs ws : List Value) (o : Option (List Cmd × Configuration)) → k ≡ k' → vs ≡ ws → turned p answers k at (input.Started vs) ≡ o → turned p answers k' at (input.Started ws) ≡ o
turned_from p answers k k' at vs ws o e f t =
    subst (λ (q : Configuration). turned p answers q at (input.Started ws) ≡ o) e
    (subst (λ (xs : List Value). turned p answers k at (input.Started xs) ≡ o) f t)

when_unfit : (b : Bool) (q : Progress) → ◌≡◌ {A = Option Progress} (if b then Some q else None) None → b ≡ false
when_unfit true q e = cc
when_unfit false q e = refl

-- a run that has not begun takes no arguments that don't fit
pub unfit : (p : Program) (k : Configuration) (vs ws : List Value) → k ≡ first_configuration → vs ≡ ws → deliver p k (input.Started vs) ≡ None → all_fit p.parameters ws ≡ false
unfit p k vs ws e f d =
    let d1 = subst (λ (q : Configuration). deliver p q (input.Started vs) ≡ None) e d in
    let d2 = subst (λ (xs : List Value). deliver p first_configuration (input.Started xs) ≡ None) f d1 in
    when_unfit (all_fit p.parameters ws) _ d2

-- and isn't closed
pub not_closed : (k : Configuration) → k ≡ first_configuration → is_closed k.state ≡ true → ⊥
not_closed k e c = true≢false (sym c ∙ ap (λ (q : Configuration). is_closed q.state) e)

pub none_yet : (k : Configuration) → k ≡ first_configuration → k.events ≡ 0
none_yet k e = ap (λ (q : Configuration). q.events) e
