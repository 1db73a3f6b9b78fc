-- What is reported of all runs of a book.
use Rattle.std.proofs.Common.{◌≡◌, ◌⊎◌, inl, inr, ◌≤◌, ◌^◌, length, Bool, Result, Ok, Err, sym, ◌∙◌, subst}
use Rattle.std.specs.Prelude.{IfErr, IfOk, OnOk}
use Rattle.flow_base.specs.declared.fault.Fault.{Fault}
use Rattle.flow_base.specs.declared.fault.Fault.TheVariants as fault
use Rattle.flow_check.specs.Language.{meaning_of}
use Rattle.flow_model.specs.Book.{Book}
use Rattle.flow_model.specs.Sound.{IsSound}
use Rattle.flow_machine.specs.Verifying.{AllStand, AreTotals, CantBeReplayed, CausedUnverified, IsLeastMismatch, Names, UnlessRefused}
use Rattle.flow_base.specs.declared.book.Totals.{Totals}
use Rattle.flow_machine.specs.declared.verify.Unverified.{Unverified}
use Rattle.flow_machine.specs.declared.verify.Unverified.TheVariants as unverified
use Rattle.flow_machine.proofs.Replaying.{lacks_none, no_mismatch}
use Rattle.flow_commit.specs.Boards.{IsOfBoard}
use Rattle.flow_commit.specs.Keeping.{rules}
use Rattle.flow_commit.specs.Verifying.{IsOfVerify, IsVerdict, IsVerified, verify_fault}

-- what is found of the book that a transaction shows is found of the one that is kept
pub verdict_on : (k b : Book) (r : Result Totals Unverified) (Sure : Type 0) → k ≡ b → IfOk r (λ t. Sure → AreTotals k t) → OnOk r (Sure → AllStand meaning_of k)
    → IfErr r (λ f. Sure → Names f (IsLeastMismatch meaning_of k)) → UnlessRefused r Sure → IsVerdict b r
verdict_on k b (Ok t) Sure same totals stand first sure = (subst (λ (x : Book). AreTotals x t) same (totals sure), subst (AllStand meaning_of) same (stand sure))
verdict_on k b (Err (unverified.NoMemory _)) Sure same totals stand first sure = tt
verdict_on k b (Err unverified.StoreRefused) Sure same totals stand first sure = tt
verdict_on k b (Err (unverified.Mismatch run place name)) Sure same totals stand first sure = subst (λ (x : Book). IsLeastMismatch meaning_of x run place name) same (first sure)

pub unless_so : {A : Type 0} (r : Result A Unverified) (X Y : Type 0) → (X → Y) → UnlessRefused r X → UnlessRefused r Y
unless_so (Ok x) X Y h on = h on
unless_so (Err (unverified.NoMemory _)) X Y h on = tt
unless_so (Err unverified.StoreRefused) X Y h on = tt
unless_so (Err (unverified.Mismatch run place name)) X Y h on = h on

pub caused_so : {A : Type 0} (r : Result A Unverified) (X Y : Type 0) → (X → Y) → CausedUnverified r X → CausedUnverified r Y
caused_so (Ok x) X Y h why = tt
caused_so (Err (unverified.NoMemory _)) X Y h why = tt
caused_so (Err unverified.StoreRefused) X Y h why = h why
caused_so (Err (unverified.Mismatch run place name)) X Y h why = tt

-- how it is reported
pub verified_as : (b : Book) (v : Unverified) (f : Fault) → f ≡ verify_fault v → IsVerdict b (Err v) → IsVerified b (Err f)
verified_as b (unverified.NoMemory _) f is verdict = subst (λ (x : Fault). IsVerified b (Err x)) (sym is) tt
verified_as b unverified.StoreRefused f is verdict = subst (λ (x : Fault). IsVerified b (Err x)) (sym is) tt
verified_as b (unverified.Mismatch run place name) f is verdict = subst (λ (x : Fault). IsVerified b (Err x)) (sym is) verdict

pub verify_among : (halted : Bool) (v : Unverified) (f : Fault) → f ≡ verify_fault v → IsOfVerify halted f
verify_among halted (unverified.NoMemory _) f is = subst (IsOfVerify halted) (sym is) tt
verify_among halted unverified.StoreRefused f is = subst (IsOfVerify halted) (sym is) tt
verify_among halted (unverified.Mismatch run place name) f is = subst (IsOfVerify halted) (sym is) tt

pub verify_cause : (v : Unverified) (f : Fault) (C : Type 0) → f ≡ verify_fault v → CausedUnverified {A = Totals} (Err v) C → f ≡ fault.StoreRefused → C
verify_cause (unverified.NoMemory _) f C is why e = absurd (let clash = sym is ∙ e in cc)
verify_cause unverified.StoreRefused f C is why e = why
verify_cause (unverified.Mismatch run place name) f C is why e = absurd (let clash = sym is ∙ e in cc)

-- Over a sound book no mismatch is reported, and E80 is the store's.
abbrev pub IsHindered : Bool → Book → Type 0 → Fault → Type 0
IsHindered halted b Down f = IsOfBoard halted f × (f ≡ fault.StoreRefused → Down ⊎ (2 ^ 63 ≤ length b.runs))

pub sound_as : (halted : Bool) (b : Book) (v : Unverified) (f : Fault) (Down : Type 0) → f ≡ verify_fault v → IsVerdict b (Err v) → CausedUnverified {A = Totals} (Err v) (Down ⊎ CantBeReplayed meaning_of b)
    → IsSound rules b → IsHindered halted b Down f
sound_as halted b (unverified.NoMemory _) f Down is verdict why sound = subst (IsHindered halted b Down) (sym is) (tt, λ e. absurd (cc))
sound_as halted b unverified.StoreRefused f Down is verdict why sound = subst (IsHindered halted b Down) (sym is) (
  tt,
  λ e. elim why [
    | inl down ↦ inl down
    | inr cant ↦ elim cant [ inl lacks ↦ absurd (lacks_none meaning_of b sound lacks) | inr many ↦ inr many ]
  ],
)
sound_as halted b (unverified.Mismatch run place name) f Down is verdict why sound = absurd (no_mismatch meaning_of b sound run place name verdict.here)
