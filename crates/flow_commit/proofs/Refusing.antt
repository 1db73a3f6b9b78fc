-- Why a batch is given up, in the words of what the keeper is before and behind.
use Rattle.std.proofs.Common.{◌≡◌, ◌⊎◌, inl, inr, ◌≤◌, List, Err, refl, arith}
use Rattle.std.specs.Prelude.{IsTrue}
use Rattle.std.proofs.lemmas.Bool.{cases_Bool}
use Rattle.sqlite_trees.specs.declared.store.Store.{Ghosts}
use Rattle.flow_base.specs.declared.command.Command.{Command}
use Rattle.flow_model.specs.Book.{Book}
use Rattle.flow_base.specs.declared.submission.Taken.{Taken}
use Rattle.flow_tables.specs.Owned.{Stored, IsFit, IsUp, Follows, Keeps, kept_book, state_of}
use Rattle.flow_tables.specs.Faults.{Since}
use Rattle.flow_tables.proofs.Stopping.{since_self, since_then}
use Rattle.flow_view.specs.Reading.{Caused}
use Rattle.flow_view.specs.declared.fault.ViewFault.{ViewFault}
use Rattle.flow_view.specs.declared.fault.ViewFault.TheVariants as fault
use Rattle.flow_commit.specs.declared.outcome.Outcome.TheVariants as outcomes
use Rattle.flow_commit.specs.declared.transaction.End.TheVariants as end
use Rattle.flow_commit.specs.Committing.{CantBeApplied, EndsFor, HasGoneOn, IsDown, IsRefusedFor}
use Rattle.flow_commit.specs.Keeping as keeping
use Rattle.flow_commit.specs.Keeping.{Keeping, commands_of}
use Rattle.flow_commit.proofs.Ends.{cause_of}
use Rattle.flow_commit.proofs.Following.{fit_before, up_before, follows_then}
use Rattle.flow_commit.proofs.Sealing.{down_on, shut_on}

module _ {S : Type 0} (g : Ghosts S) (old mid new : Stored S) (fit : IsFit g new) (one : Follows g old mid) (two : Follows g mid new) where
  -- A transaction that couldn't be decided was rolled back. Where the connection was shut before, it is shut behind.
  pub refused_over : (cs : List Command) (f : ViewFault) → (IsFit g mid → IsUp g old → Keeps (state_of g old) (kept_book g old))
      → (IsFit g mid → (b : Book) → Keeps (state_of g old) b → Caused {A = Unit} (Err f) (CantBeApplied b cs ⊎ IsDown g old mid)) → f ≡ fault.StoreRefused
      → CantBeApplied (kept_book g old) cs ⊎ IsDown g old new
  refused_over cs f own cause is =
      let was = fit_before g mid new two fit in
      elim (cases_Bool (state_of g old).is_open) [
        | inl open_still ↦ elim (cause_of _ f is (cause was (kept_book g old) (own was open_still))) [
          | inl cant ↦ inl cant
          | inr down ↦ inr (down_on g old mid new two fit down)
        ]
        | inr shut ↦ inr (inl (shut_on (state_of g old).is_open (state_of g new).is_open (λ up. up_before g old mid one was (up_before g mid new two fit up)) shut))
      ]

  pub since_both : Since (state_of g old) (state_of g new)
  since_both = (follows_then g old mid new one two).3 fit.0 fit.1

-- behind what was done in it the transaction was committed
pub since_committed : {S : Type 0} (g : Ghosts S) (old mid new : Stored S) → IsFit g mid → Follows g old mid → Since (state_of g mid) (state_of g new) → Since (state_of g old) (state_of g new)
since_committed g old mid new was one since = since_then (state_of g old) (state_of g mid) (state_of g new) (one.3 was.0 was.1) since

pub refused_by : {S : Type 0} (g : Ghosts S) (old new : Keeping S) (batch back : List Taken) (f : ViewFault)
    → EndsFor (CantBeApplied (keeping.kept_book g old) (commands_of batch) ⊎ IsDown g old.stored new.stored) (λ _. Unit {0}) (end.Refused f) → IsRefusedFor g old new batch (outcomes.NotApplied back f)
refused_by g old new batch back (fault.NoMemory _) h = tt
refused_by g old new batch back fault.StoreRefused h = inr h

pub gone_on_self : {S : Type 0} (g : Ghosts S) (k : Keeping S) → HasGoneOn g k k
gone_on_self g k = record { since = since_self (state_of g k.stored); up = λ up. up; rest = λ was. was; counts = omega arith }
