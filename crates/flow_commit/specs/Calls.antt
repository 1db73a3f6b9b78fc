-- What the calls of a keeper say, each in one word. An engine says the same of the keeper that it has.
use Rattle.std.specs.Prelude.{◌≡◌, ◌⊎◌, ◌≤◌, ◌^◌, ℕ, true, false, List, length, Result, Err, IfOk, IfErr}
use Rattle.sqlite_trees.specs.declared.store.Store.{Ghosts}
use Rattle.flow_base.specs.declared.fault.Fault.{Fault}
use Rattle.flow_base.specs.declared.fault.Fault.TheVariants as faults
use Rattle.flow_check.specs.Language.{meaning_of}
use Rattle.flow_model.specs.Apply.{after}
use Rattle.flow_model.specs.Book.{Book}
use Rattle.flow_model.specs.Sound.{IsSound}
use Rattle.flow_base.specs.Keys.{Key}
use Rattle.flow_machine.specs.Verifying.{CantBeReplayed}
use Rattle.flow_base.specs.declared.submission.Taken.{Taken}
use Rattle.flow_base.specs.declared.book.Totals.{Totals}
use Rattle.flow_view.specs.declared.fault.ViewFault.TheVariants.{StoreRefused}
use Rattle.flow_tables.specs.Owned.{Follows, state_of}
use Rattle.flow_commit.specs.declared.outcome.Outcome.{Outcome}
use Rattle.flow_commit.specs.declared.outcome.Outcome.TheVariants as outcomes
use Rattle.flow_commit.specs.Boards.{AreAmong, Boarded, IsBoardOf, IsOfBoard, names_over}
use Rattle.flow_commit.specs.Committing.{HasCommitted, HasGoneOn, HasNoRoom, HasNoted, IsDown, IsFor, IsRefusedFor}
use Rattle.flow_commit.specs.Keeping.{Keeping, IsFit, IsUp, KeepsBook, kept_book, logged, rules}
use Rattle.flow_commit.specs.Shutting.{AreOver, HasClosed}
use Rattle.flow_commit.specs.Verifying.{IsOfVerify, IsVerified}

-- A batch was applied and committed, the whole of it or nothing.
pub record CommitSays {S : Type 0} (g : Ghosts S) (old new : Keeping S) (batch : List Taken) (result : Outcome) : Type 0 where
  pub fit : IsFit g new → IsFit g old
  pub commits : IsFit g new → (b : Book) → KeepsBook g old b → HasCommitted g old new b batch result
  pub halted : old.halted ≡ true → new ≡ old
  pub later : old.halted ≡ true → result ≡ outcomes.Halted batch
  -- where no number is left for the last of its places, nothing is begun
  pub full : old.halted ≡ false → HasNoRoom old.kept batch → (result ≡ outcomes.NotApplied batch StoreRefused) × (new ≡ old)
  pub same : new.stored.opened ≡ old.stored.opened
  pub found : new.found ≡ old.found
  pub posted : new.posted ≡ old.posted
  -- what its stamp names as closed is over, and no later command opens it again
  pub closed : HasClosed g new result
  pub noted : HasNoted g old new batch result
  -- an open connection was open before, and kept a book unless nothing was done
  pub up : IsFit g new → IsUp g new → IsUp g old
  pub own : IsFit g new → IsUp g old → (new ≡ old) ⊎ KeepsBook g old (kept_book g old)
  pub cause : IsFit g new → (b : Book) → KeepsBook g old b → IsFor g old new b batch result
  -- the cause of E80 also where no book is known to be kept
  pub why : IsFit g new → IsRefusedFor g old new batch result
  pub goes_on : IsFit g new → HasGoneOn g old new

-- What only reads the book leaves all as it was, whatever it answers.
pub record HasStayed {S A : Type 0} (g : Ghosts S) (old new : Keeping S) (result : Result A Fault) : Type 0 where
  pub same : (new.halted ≡ old.halted) × (new.kept ≡ old.kept) × (new.found ≡ old.found) × (new.log ≡ old.log)
  -- the store is as it was: what was kept is kept on, and each stop leaves it
  pub follows : Follows g old.stored new.stored
  pub fit : IsFit g new → IsFit g old
  pub book : IsFit g new → (b : Book) → KeepsBook g old b → KeepsBook g new b
  pub up : IsFit g new → IsUp g new → IsUp g old
  pub own : IsFit g new → IsUp g old → (new ≡ old) ⊎ KeepsBook g old (kept_book g old)
  -- no transaction is left running, behind a refusal neither
  pub rest : IsFit g new → (state_of g old.stored).in_transaction ≡ false → (state_of g new.stored).in_transaction ≡ false
  pub halted : old.halted ≡ true → new ≡ old
  pub later : old.halted ≡ true → result ≡ Err faults.Halted

-- This is what is to be done outside at a moment, where these tasks were posted.
pub record BoardSays {S : Type 0} (g : Ghosts S) (posted : List Key) (moment : ℕ) (old new : Keeping S) (result : Result Boarded Fault) : Type 0 where
  pub made : IsFit g new → (b : Book) → KeepsBook g old b → IfOk result (λ board. IsBoardOf b posted moment board)
  -- it is that of the book behind all commands that were kept
  pub behind : IsFit g new → IfOk result (λ board. IsBoardOf (after rules old.found (logged old.log)) posted moment board)
  pub names : IfOk result (λ board. (board.kept ≡ old.kept) × (board.posted ≡ posted))
  pub counted : IfOk result (λ board. board.kept ≡ length old.log)
  -- it names no attempt of a run that is over
  pub apart : IsFit g new → (over : List ℕ) → AreOver g old over → IfOk result (λ board. names_over over board.tasks ≡ false)
  pub stayed : HasStayed g old new result
  pub among : IfErr result (IsOfBoard old.halted)
  pub cause : IsFit g new → IfErr result (λ f. f ≡ faults.StoreRefused → IsDown g old.stored new.stored)
  -- whoever asks for the next one owes no more than these
  pub owes : old.halted ≡ false → AreAmong new.posted posted

-- Each run of the book was replayed.
pub record VerifySays {S : Type 0} (g : Ghosts S) (old new : Keeping S) (result : Result Totals Fault) : Type 0 where
  -- E68 is told of the first run that doesn't stand under its text, and Ok only where all stand
  pub verdict : IsFit g new → (b : Book) → KeepsBook g old b → IsVerified b result
  -- of a sound book no mismatch is reported, and E80 has the store behind it
  pub sound : IsFit g new → (b : Book) → KeepsBook g old b → IsSound rules b
      → IfErr result (λ f. IsOfBoard old.halted f × (f ≡ faults.StoreRefused → IsDown g old.stored new.stored ⊎ (2 ^ 63 ≤ length b.runs)))
  pub stayed : HasStayed g old new result
  pub among : IfErr result (IsOfVerify old.halted)
  pub cause : IsFit g new → (b : Book) → KeepsBook g old b
      → IfErr result (λ f. f ≡ faults.StoreRefused → IsDown g old.stored new.stored ⊎ CantBeReplayed meaning_of b)
