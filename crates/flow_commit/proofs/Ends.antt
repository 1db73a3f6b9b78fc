-- How a commit ends.
use Rattle.std.proofs.Common.{◌≡◌, ◌⊎◌, inl, inr, ℕ, suc, ◌+◌, false, List, [], ◌∷◌, length, Result, Ok, Err, refl, ap, ◌∙◌, sym, subst, arith, true≢false}
use Rattle.std.specs.Prelude.{IfOk, OnOk}
use Rattle.sqlite_trees.specs.declared.store.Store.{Ghosts}
use Rattle.flow_base.specs.declared.command.Reply.{Reply}
use Rattle.flow_model.specs.Book.{Book}
use Rattle.flow_model.specs.Apply.{after, after_one, replies}
use Rattle.flow_base.specs.declared.submission.Taken.{Taken}
use Rattle.flow_base.specs.declared.submission.Receipt.{Receipt}
use Rattle.flow_tables.specs.Owned.{Stored, IsFit, Follows, Keeps, state_of}
use Rattle.flow_tables.specs.Faults.{HasFailed, IsCutOff, IsKeptOut}
use Rattle.flow_view.specs.Reading.{Caused}
use Rattle.flow_view.specs.declared.fault.ViewFault.{ViewFault}
use Rattle.flow_view.specs.declared.fault.ViewFault.TheVariants as fault
use Rattle.flow_commit.specs.declared.outcome.Outcome.TheVariants as outcomes
use Rattle.flow_commit.specs.declared.transaction.End.{End}
use Rattle.flow_commit.specs.declared.transaction.End.TheVariants as end
use Rattle.flow_commit.specs.Committing.{CantBeApplied, EndsFor, IsDown, IsFor, WasGivenUp}
use Rattle.flow_commit.specs.Keeping.{Keeping, rules, HasKept, commands_of, receipt_of, receipts_of, receipts_with}

-- where commands or replies have come to their end, nothing more is made
pub none_more : (kept : ℕ) (ts : List Taken) (rs : List Reply) → (length ts ≡ 0) ⊎ (length rs ≡ 0) → receipts_with kept ts rs ≡ []
none_more kept [] rs ended = refl
none_more kept (t ∷ ts) [] ended = refl
none_more kept (t ∷ ts) (r ∷ rs) (inl h) = absurd (omega (arith, h))
none_more kept (t ∷ ts) (r ∷ rs) (inr h) = absurd (omega (arith, h))

-- with the replies of apply they are the receipts of the batch
pub receipts_told : (kept : ℕ) (b : Book) (ts : List Taken) → receipts_with kept ts (replies rules b (commands_of ts)) ≡ receipts_of kept b ts
receipts_told kept b [] = refl
receipts_told kept b (t ∷ ts) = ap (λ rs. receipt_of (kept + 1) b t ∷ rs) (receipts_told (kept + 1) (after_one rules b t.command) ts)

pub receipts_counted : (kept : ℕ) (ts : List Taken) (rs : List Reply) → length rs ≡ length ts → length (receipts_with kept ts rs) ≡ length ts
receipts_counted kept [] rs h = refl
receipts_counted kept (t ∷ ts) [] h = absurd (omega (arith, h))
receipts_counted kept (t ∷ ts) (r ∷ rs) h =
    let fewer : length rs ≡ length ts = omega (arith, h) in
    ap suc (receipts_counted (kept + 1) ts rs fewer)

pub kept_all : {S : Type 0} (g : Ghosts S) (old new : Keeping S) (b : Book) (batch : List Taken) (rs : List Reply) (receipts : List Receipt)
    → (rs ≡ replies rules b (commands_of batch)) × Keeps (state_of g new.stored) (after rules b (commands_of batch))
    → receipts ≡ receipts_with old.kept batch rs → new.kept ≡ old.kept + length batch → new.halted ≡ false
    → HasKept g old new b batch receipts
kept_all g old new b batch rs receipts ends told counts goes = record {
  book = ends.1;
  told = told ∙ ap (receipts_with old.kept batch) ends.0 ∙ receipts_told old.kept b batch;
  counts = counts;
  goes_on = goes;
}

---- Why it ends so

pub caused_so : (C : Type 0) (f : ViewFault) → (f ≡ fault.StoreRefused → C) → Caused {A = Unit} (Err f) C
caused_so C (fault.NoMemory _) h = tt
caused_so C fault.StoreRefused h = h refl

pub failed_down : {S : Type 0} (g : Ghosts S) (old new : Stored S) → HasFailed (state_of g old) (state_of g new) → IsDown g old new
failed_down g old new (inl more) = inr (inl more)
failed_down g old new (inr shut) = inl shut

-- what keeps a transaction from being begun, where none runs any more
pub kept_down : {S : Type 0} (g : Ghosts S) (old mid new : Stored S) → Follows g old mid → IsFit g mid → (state_of g mid).in_transaction ≡ false → IsKeptOut (state_of g mid) (state_of g new) → IsDown g old new
kept_down g old mid new follows fit outside (inl inside) = absurd (true≢false (sym inside ∙ outside))
kept_down g old mid new follows fit outside (inr (inl more)) = inr (inl (omega (arith, (follows.3 fit.0 fit.1).0, more)))
kept_down g old mid new follows fit outside (inr (inr shut)) = inl shut

-- what follows of a result's value, by three clauses on it
pub ok_on : {A : Type 0} (P T : A → Type 0) (Q G : Type 0) (r : Result A ViewFault) → ((v : A) → P v → Q → G → T v) → IfOk r P → OnOk r Q → OnOk r G → IfOk r T
ok_on P T Q G (Ok v) on p q g = on v p q g
ok_on P T Q G (Err f) on p q g = tt

-- and what follows by two
pub both_on : {A : Type 0} (Q G T : Type 0) (r : Result A ViewFault) → (Q → G → T) → OnOk r Q → OnOk r G → OnOk r T
both_on Q G T (Ok v) on q g = on q g
both_on Q G T (Err f) on q g = tt

pub done_on : {A : Type 0} (G T : Type 0) (r : Result A ViewFault) → (G → T) → OnOk r G → OnOk r T
done_on G T (Ok v) on h = on h
done_on G T (Err f) on h = tt

pub caused_on : {A : Type 0} (C D : Type 0) (r : Result A ViewFault) → (C → D) → Caused r C → Caused r D
caused_on C D (Ok v) on h = tt
caused_on C D (Err (fault.NoMemory _)) on h = tt
caused_on C D (Err fault.StoreRefused) on h = on h

pub fault_on : (C D : Type 0) (f : ViewFault) → (C → D) → Caused {A = Unit} (Err f) C → Caused {A = Unit} (Err f) D
fault_on C D (fault.NoMemory _) on h = tt
fault_on C D fault.StoreRefused on h = on h

-- the cause of a fault that is E80
pub cause_of : (C : Type 0) (f : ViewFault) → f ≡ fault.StoreRefused → Caused {A = Unit} (Err f) C → C
cause_of C f is h = subst (λ x. Caused {A = Unit} (Err x) C) is h

pub ends_on : (W V : Type 0) (U T : ViewFault → Type 0) (e : End) → (W → V) → ((f : ViewFault) → U f → T f) → EndsFor W U e → EndsFor V T e
ends_on W V U T (end.Kept reply) stop cut h = tt
ends_on W V U T (end.Refused (fault.NoMemory _)) stop cut h = tt
ends_on W V U T (end.Refused fault.StoreRefused) stop cut h = stop h
ends_on W V U T (end.Unknown f _) stop cut h = cut f h

pub refused_for : (W : Type 0) (U : ViewFault → Type 0) (f : ViewFault) → (f ≡ fault.StoreRefused → W) → EndsFor W U (end.Refused f)
refused_for W U (fault.NoMemory _) h = tt
refused_for W U fault.StoreRefused h = h refl

pub not_applied_for : {S : Type 0} (g : Ghosts S) (old new : Keeping S) (b : Book) (batch back : List Taken) (f : ViewFault) (U : ViewFault → Type 0)
    → EndsFor (CantBeApplied b (commands_of batch) ⊎ WasGivenUp g old.stored new.stored) U (end.Refused f) → IsFor g old new b batch (outcomes.NotApplied back f)
not_applied_for g old new b batch back (fault.NoMemory _) U h = tt
not_applied_for g old new b batch back fault.StoreRefused U h = inr h

-- what refused the end of a transaction, behind what was done in it
pub cut_behind : {S : Type 0} (g : Ghosts S) (old mid new : Stored S) (sql : List ℕ) (f : ViewFault) → Follows g old mid → IsFit g mid → IsCutOff sql (state_of g mid) (state_of g new) f → f ≡ fault.StoreRefused
    → HasFailed (state_of g old) (state_of g new)
cut_behind g old mid new sql f follows fit cut is = elim (cut.failed is) [
  | inl more ↦ inl (omega (arith, (follows.3 fit.0 fit.1).0, more))
  | inr shut ↦ inr shut
]
