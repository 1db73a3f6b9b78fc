-- What a commit says is a part of a life, and so is what only reads the book.
use Rattle.std.proofs.Common.{◌≡◌, ℕ, true, false, List, [], ◌∷◌, refl, ap}
use Rattle.std.specs.Prelude.{Result}
use Rattle.sqlite_trees.specs.declared.store.Store.{Ghosts}
use Rattle.flow_base.specs.Keys.{Key}
use Rattle.flow_base.specs.declared.book.Totals.{Totals}
use Rattle.flow_base.specs.declared.fault.Fault.{Fault}
use Rattle.flow_base.specs.declared.submission.Taken.{Taken}
use Rattle.flow_model.specs.Book.{Book}
use Rattle.flow_view.specs.declared.fault.ViewFault.TheVariants as fault
use Rattle.flow_commit.specs.Boards.{Boarded}
use Rattle.flow_commit.specs.Calls.{BoardSays, CommitSays, HasStayed, VerifySays}
use Rattle.flow_commit.specs.Committing.{HasCommitted, IsFor}
use Rattle.flow_commit.specs.Keeping.{Keeping, KeepsBook}
use Rattle.flow_commit.specs.declared.outcome.Outcome.{Outcome}
use Rattle.flow_commit.specs.declared.outcome.Outcome.TheVariants as outcomes
use Rattle.flow_engine.specs.declared.done.Done.TheVariants as done
use Rattle.flow_engine.specs.Boarding.{RunsBoarded}
use Rattle.flow_engine.specs.Driving.{HasDone, IsDoneFor, Runs, done_of}
use Rattle.flow_engine.proofs.Boarding.{board_runs, board_still}
use Rattle.flow_engine.proofs.Joining.{drives_by}
use Rattle.flow_engine.proofs.OneMore.{nothing_yet, one_more}

module _ {S : Type 0} (g : Ghosts S) where
  commit_does : (old new : Keeping S) (b : Book) (batch : List Taken) (o : Outcome) → HasCommitted g old new b batch o → HasDone g old new b batch (done_of o)
  commit_does old new b batch (outcomes.Kept receipts stamp) h = (h.0, h.2)
  commit_does old new b batch (outcomes.NotApplied back f) h = (h.0, h.2)
  commit_does old new b batch (outcomes.Unknown back f) h = (h.0, h.2)
  commit_does old new b batch (outcomes.Halted back) h = (h.0, h.2)

  commit_for : (old new : Keeping S) (b : Book) (batch : List Taken) (o : Outcome) → IsFor g old new b batch o → IsDoneFor g old new b batch (done_of o)
  commit_for old new b batch (outcomes.Kept receipts stamp) h = tt
  commit_for old new b batch (outcomes.NotApplied back (fault.NoMemory _)) h = tt
  commit_for old new b batch (outcomes.NotApplied back fault.StoreRefused) h = h
  commit_for old new b batch (outcomes.Unknown back f) h = (f, h)
  commit_for old new b batch (outcomes.Halted back) h = tt

  pub commit_call : (old new : Keeping S) (batch : List Taken) (o : Outcome) → CommitSays g old new batch o → Runs g old new (batch ∷ []) (done_of o ∷ [])
  commit_call old new batch o says =
      let d = done_of o in
      let later : old.halted ≡ true → d ≡ done.Halted = λ h. ap done_of (says.later h) in
      record {
        opened = says.same;
        fit = says.fit;
        drives = λ fit b keeps goes. drives_by g old new b (batch ∷ []) (d ∷ [])
            (one_more g old b old new [] [] batch (nothing_yet g old b keeps goes) d (λ k kept. commit_does old new k batch o (says.commits fit k kept)) says.halted later false refl)
            (new, commit_does old new b batch o (says.commits fit b keeps), commit_for old new b batch o (says.cause fit b keeps), refl);
        still = λ h. (says.halted h, ap (λ x. x ∷ []) (later h));
      }

  -- what leaves all as it was, whatever it answers
  stayed_call : {A : Type 0} (old new : Keeping S) (result : Result A Fault) → HasStayed g old new result → RunsBoarded g old new [] []
  stayed_call old new result s = board_runs g old new (board_still g old new s.same s.follows s.fit s.own s.halted)

  pub board_call : (posted : List Key) (moment : ℕ) (old new : Keeping S) (result : Result Boarded Fault) → BoardSays g posted moment old new result → RunsBoarded g old new [] []
  board_call posted moment old new result says = stayed_call old new result says.stayed

  pub verify_call : (old new : Keeping S) (result : Result Totals Fault) → VerifySays g old new result → RunsBoarded g old new [] []
  verify_call old new result says = stayed_call old new result says.stayed
