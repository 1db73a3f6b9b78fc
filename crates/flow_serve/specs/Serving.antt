-- What becomes of the submissions to a hub that an engine serves.
use Rattle.std.specs.Prelude.{◌≡◌, ◌⊎◌, ◌+◌, ◌≤◌, ℕ, true, false, List, [], ◌++◌, length, map, All}
use Rattle.sqlite_trees.specs.declared.store.Store.{Ghosts}
use Rattle.flow_base.specs.declared.code.Code.TheVariants as code
use Rattle.flow_base.specs.declared.fault.Fault.{Fault}
use Rattle.flow_base.specs.declared.fault.Fault.TheVariants as fault
use Rattle.flow_model.specs.Book.{Book}
use Rattle.flow_base.specs.declared.submission.Taken.{Taken}
use Rattle.flow_view.specs.Codes.{view_fault_code}
use Rattle.flow_commit.specs.Keeping.{Keeping, IsFit, IsUp, KeepsBook, kept_book}
use Rattle.flow_commit.specs.Committing.{HasGoneOn}
use Rattle.flow_queues.specs.declared.refused.Refused.{Refused}
use Rattle.flow_queues.specs.Refusing.{refused_by}
use Rattle.flow_base.specs.declared.task.Task.{Task}
use Rattle.flow_engine.specs.declared.done.Done.{Done}
use Rattle.flow_engine.specs.declared.done.Done.TheVariants as done
use Rattle.flow_engine.specs.Boarding.{RunsBoarded}
use Rattle.flow_engine.specs.Driving.{HasDone, IsDoneFor, IsNoted, NotesAll, gathered, receipts_in, receipts_told}
use Rattle.flow_engine.specs.Counting.{IsCounted}
use Rattle.flow_engine.specs.GivingUp.{AreGivenUp, IsGivenUpFor, WasRefused}
use Rattle.flow_serve.specs.Posting.{HasTurns}

-- It was in a batch that wasn't applied: E80 or E01.
abbrev pub IsGivenUp : Refused → Type 0
IsGivenUp r = (r.code ≡ code.StoreRefused) ⊎ (r.code ≡ code.NoMemory)

-- Since then a code has answered batches that weren't applied, and nothing else.
pub record GivesUp (old new : List Refused) : Type 0 where
  pub more : List Refused
  pub are : new ≡ old ++ more
  pub codes : All IsGivenUp more

-- Since then E85 has answered these, and no code anything else.
abbrev pub TurnsAway : List Refused → List Refused → List Taken → Type 0
TurnsAway old new waiting = new ≡ old ++ map (refused_by code.Halted) waiting

-- The engine has halted at a batch of which nobody knows whether it is kept. E84 has answered this batch, E85 what waited behind
-- it, and E80 or E01 those before it that weren't applied.
pub record EndsInDoubt {S : Type 0} (old new : Keeping S) (was now : List Refused) (waiting : List Taken) : Type 0 where
  pub went_on : old.halted ≡ false
  pub halted : new.halted ≡ true
  pub more : List Refused
  pub codes : All IsGivenUp more
  pub hand : List Taken
  pub some : (1 ≤ length hand) × (length hand ≤ 64)
  pub are : now ≡ was ++ more ++ map (refused_by code.Unknown) hand ++ map (refused_by code.Halted) waiting

-- The engine had halted before, and does nothing: E85 has answered all.
pub record EndsHalted {S : Type 0} (old new : Keeping S) (was now : List Refused) (waiting : List Taken) : Type 0 where
  pub halted : old.halted ≡ true
  pub same : new ≡ old
  pub are : TurnsAway was now waiting

-- Memory was wanting before anything was taken: nothing is committed, and E85 has answered all.
pub record EndsUnserved {S : Type 0} (old new : Keeping S) (was now : List Refused) (waiting : List Taken) : Type 0 where
  pub same : new ≡ old
  pub are : TurnsAway was now waiting

-- how one batch stops the engine: nobody knows of it, and E84 has answered it, or the engine had halted before
abbrev pub StopsAt : {S : Type 0} → Keeping S → Keeping S → List Refused → List Refused → List Taken → Fault → Type 0
StopsAt old new was now hand f =
    ((f ≡ fault.Unknown) × (old.halted ≡ false) × (new.halted ≡ true) × (now ≡ was ++ map (refused_by code.Unknown) hand))
    ⊎ ((f ≡ fault.Halted) × EndsHalted old new was now hand)

-- a batch has halted the engine, with this fault, and these were behind it
abbrev pub StopsFor : {S : Type 0} → Keeping S → Keeping S → List Refused → List Refused → List Taken → Fault → Type 0
StopsFor old new was now waiting f = ((f ≡ fault.Unknown) × EndsInDoubt old new was now waiting) ⊎ ((f ≡ fault.Halted) × EndsHalted old new was now waiting)

-- why an engine serves no more, and what has answered the submissions
abbrev pub EndsFor : {S : Type 0} → Keeping S → Keeping S → List Refused → List Refused → List Taken → Fault → Type 0
EndsFor old new was now waiting f = StopsFor old new was now waiting f ⊎ ((f ≡ fault.NoMemory _) × EndsUnserved old new was now waiting)

---- What serving has done with what it took

-- the codes that have answered a batch, by what became of it
abbrev pub codes_in : List Taken → Done → List Refused
codes_in batch (done.Kept receipts) = []
codes_in batch (done.NotApplied f) = map (refused_by (view_fault_code f)) batch
codes_in batch done.Unknown = map (refused_by code.Unknown) batch
codes_in batch done.Halted = map (refused_by code.Halted) batch

-- and many
abbrev pub codes_told : List (List Taken) → List Done → List Refused
codes_told batches dones = gathered codes_in batches dones

-- What has been done with one batch that was taken: it was committed, and where it isn't kept its submissions are answered by the code
-- for that.
pub record HasAnswered {S : Type 0} (g : Ghosts S) (old new : Keeping S) (was now : List Refused) (batch : List Taken) : Type 0 where
  pub ended : Done
  pub opened : new.stored.opened ≡ old.stored.opened
  pub fit : IsFit g new → IsFit g old
  pub does : IsFit g new → (b : Book) → KeepsBook g old b → HasDone g old new b batch ended
  pub cause : IsFit g new → (b : Book) → KeepsBook g old b → IsDoneFor g old new b batch ended
  pub halted : old.halted ≡ true → new ≡ old
  pub later : old.halted ≡ true → ended ≡ done.Halted
  pub noted : IsNoted old new batch ended
  pub log : new.log ≡ old.log ++ receipts_in batch ended
  pub codes : now ≡ was ++ codes_in batch ended
  pub up : IsFit g new → IsUp g new → IsUp g old
  pub own : IsFit g new → IsUp g old → (new ≡ old) ⊎ KeepsBook g old (kept_book g old)
  pub on : IsFit g new → HasGoneOn g old new
  pub why : IsFit g new → IsGivenUpFor (WasRefused g old new) (kept_book g old) batch ended

-- so many are committed together
abbrev pub IsBatch : List Taken → Type 0
IsBatch batch = (1 ≤ length batch) × (length batch ≤ 64)

-- What was taken was answered in these batches. The receipts of those that are kept are what the log has more, the submissions of the
-- others are answered by their codes, in their order, and E85 has answered these behind them. What stands behind each E80 is of the book
-- read off the tables at the beginning, whether it is known to be kept or not; and it is a failure of the disk for no more batches than the
-- store has counted failures.
pub record HasServed {S : Type 0} (g : Ghosts S) (old new : Keeping S) (was now : List Refused) (waiting : List Taken) : Type 0 where
  pub batches : List (List Taken)
  pub dones : List Done
  pub sizes : All IsBatch batches
  -- they are a part of a life, as the headline has it
  pub runs : RunsBoarded g old new batches dones
  pub noted : old.halted ≡ false → NotesAll old new batches dones
  pub log : new.log ≡ old.log ++ receipts_told batches dones
  pub codes : now ≡ was ++ codes_told batches dones ++ map (refused_by code.Halted) waiting
  pub given_up : IsFit g new → AreGivenUp (WasRefused g old new) (kept_book g old) batches dones
  pub counted : IsFit g new → IsCounted g old new (kept_book g old) batches dones

-- What was taken was answered so, and a board was asked for before each batch, and so many times more.
pub record ServesBoarded {S : Type 0} (g : Ghosts S) (tells : ℕ → Type 0) (old new : Keeping S) (was now : List Refused)
    (waiting : List Taken) (first posted : List Task) (left missed : List Fault) (more : ℕ) : Type 0 where
  pub served : HasServed g old new was now waiting
  pub turns : HasTurns g tells old new first posted left missed (more + length served.batches)
