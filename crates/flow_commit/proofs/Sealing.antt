-- What a transaction leaves that was begun, read in, and committed with nothing changed.
use Rattle.std.proofs.Common.{◌≡◌, ◌⊎◌, inl, inr, ℕ, Bool, true, false, codes, List, Result, Ok, Err, refl, sym, ap, ◌∙◌, subst, arith, true≢false}
use Rattle.std.specs.Prelude.{IfOk, OnOk, IsTrue}
use Rattle.sqlite_trees.specs.declared.store.Store.{Ghosts}
use Rattle.flow_model.specs.Book.{Book}
use Rattle.flow_tables.specs.Owned.{Stored, IsFit, IsUp, is_sure, Follows, Keeps, LeavesWritten, IsFileOf, IsBarred, state_of}
use Rattle.flow_tables.specs.Faults.{Since, HasFailed, IsCutOff}
use Rattle.flow_tables.proofs.Stopping.{since_then}
use Rattle.flow_view.specs.Reading.{Caused}
use Rattle.flow_view.specs.declared.fault.ViewFault.{ViewFault}
use Rattle.flow_view.specs.declared.fault.ViewFault.TheVariants as view
use Rattle.flow_base.specs.declared.fault.Fault.{Fault}
use Rattle.flow_base.specs.declared.fault.Fault.TheVariants as faults
use Rattle.flow_base.specs.Keys.{Key}
use Rattle.flow_commit.specs.Boards.{Boarded, IsBoardOf, draft_of, board_fault}
use Rattle.flow_commit.specs.declared.waiting.Draft.{Draft}
use Rattle.flow_commit.specs.Committing.{IsDown}
use Rattle.flow_commit.proofs.Following.{fit_before, up_before, not_hindered}
use Rattle.flow_commit.proofs.Ends.{caused_so}

-- the board of a draft is that of the book which it was made of
pub board_made : (b : Book) (posted : List Key) (at : ℕ) (d : Draft) (it : Boarded) → it.tasks ≡ d.tasks → it.due ≡ d.due → it.open_runs ≡ d.open_runs → d ≡ draft_of posted at b → IsBoardOf b posted at it
board_made b posted at d it tasks due open_runs same =
    record { tasks = tasks ∙ ap (λ (x : Draft). x.tasks) same; due = due ∙ ap (λ (x : Draft). x.due) same; open_runs = open_runs ∙ ap (λ (x : Draft). x.open_runs) same }

-- what follows of a result's value, by two clauses on it
pub ok_by : {A : Type 0} (P T : A → Type 0) (G : Type 0) (r : Result A ViewFault) → ((v : A) → P v → G → T v) → IfOk r P → OnOk r G → IfOk r T
ok_by P T G (Ok v) on p h = on v p h
ok_by P T G (Err f) on p h = tt

pub shut_on : (v w : Bool) → (IsTrue w → IsTrue v) → v ≡ false → w ≡ false
shut_on v true on shut = absurd (true≢false (sym (on refl) ∙ shut))
shut_on v false on shut = refl

-- what has hindered a transaction has hindered what comes behind it
pub down_on : {S : Type 0} (g : Ghosts S) (old mid new : Stored S) → Follows g mid new → IsFit g new → IsDown g old mid → IsDown g old new
down_on g old mid new follows fit (inl shut) = inl (shut_on (state_of g mid).is_open (state_of g new).is_open (up_before g mid new follows fit) shut)
down_on g old mid new follows fit (inr (inl more)) = inr (inl (omega (arith, more, (follows.3 fit.0 fit.1).0)))
down_on g old mid new follows fit (inr (inr more)) = inr (inr more)

-- why the commit was refused
pub cut_failed : {S : Type 0} (g : Ghosts S) (mid new : Stored S) (f : ViewFault) → is_sure g mid → IsCutOff (codes "COMMIT") (state_of g mid) (state_of g new) f ⊎ IsBarred (state_of g mid) mid.refused f → Caused {A = Unit} (Err f) (HasFailed (state_of g mid) (state_of g new))
cut_failed g mid new f sure why = caused_so (HasFailed (state_of g mid) (state_of g new)) f (λ is. (not_hindered g mid f sure (IsCutOff (codes "COMMIT") (state_of g mid) (state_of g new) f) why).failed is)

pub failed_after : {S : Type 0} (g : Ghosts S) (old mid new : Stored S) → Follows g old mid → IsFit g mid → HasFailed (state_of g mid) (state_of g new) → IsDown g old new
failed_after g old mid new follows fit (inl more) = inr (inl (omega (arith, more, (follows.3 fit.0 fit.1).0)))
failed_after g old mid new follows fit (inr shut) = inl shut

pub ok_one : {A : Type 0} (P T : A → Type 0) (r : Result A ViewFault) → ((v : A) → P v → T v) → IfOk r P → IfOk r T
ok_one P T (Ok v) on p = on v p
ok_one P T (Err f) on p = tt

module _ {S : Type 0} (g : Ghosts S) (old mid new : Stored S) (follows : Follows g old mid) (opened : new.opened ≡ mid.opened) (fit : IsFit g new → IsFit g mid) (up : IsFit g new → IsUp g new → IsUp g mid) (since : Since (state_of g mid) (state_of g new)) where
  pub follows_sealed : (IsFit g new → (b : Book) → Keeps (state_of g old) b → Keeps (state_of g new) b) → Follows g old new
  follows_sealed keeps = (
    opened ∙ follows.0,
    λ ours clean. ((fit_before g old mid follows (fit (ours, clean))).1, keeps (ours, clean)),
    λ ours clean still. up_before g old mid follows (fit (ours, clean)) (up (ours, clean) still),
    λ ours clean. since_then (state_of g old) (state_of g mid) (state_of g new) (let now = fit (ours, clean) in follows.3 now.0 now.1) since,
  )

-- a commit of which nobody knows leaves the book that was there, since it is the one that was written
pub kept_either : {S : Type 0} (g : Ghosts S) (new : Stored S) (sure : Type 0) (b b' : Book) → b' ≡ b → LeavesWritten sure (state_of g new) b b' → (IsUp g new → Keeps (state_of g new) b) → Keeps (state_of g new) b
kept_either g new sure b b' same written still = record {
  kept = λ up. (still up).kept up;
  stops = λ db may. elim (written db may) [ inl before ↦ before | inr after ↦ subst (λ k. IsFileOf db k) same after.1 ];
}

-- the cause of E80, where a refusal of the tables is told
pub told_cause : (C : Type 0) (v : ViewFault) (f : Fault) → f ≡ board_fault v → Caused {A = Unit} (Err v) C → f ≡ faults.StoreRefused → C
told_cause C (view.NoMemory _) f is why e = absurd (let clash = sym is ∙ e in cc)
told_cause C view.StoreRefused f is why e = why
