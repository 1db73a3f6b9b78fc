-- How many batches an engine gives up: no more than the failures that its store has counted, but for other causes.
use Rattle.std.specs.Prelude.{◌≡◌, ◌⊎◌, ◌+◌, ◌≤◌, ◌^◌, ℕ, suc, false, List, [], ◌∷◌, length, IsSome}
use Rattle.sqlite_trees.specs.declared.store.Store.{Ghosts}
use Rattle.flow_base.specs.declared.command.Command.{Command}
use Rattle.flow_model.specs.Book.{Book}
use Rattle.flow_model.specs.Apply.{after}
use Rattle.flow_model.specs.Answers.{IsMoreBy}
use Rattle.flow_base.specs.declared.submission.Taken.{Taken}
use Rattle.flow_tables.specs.Faults.{WasFull}
use Rattle.flow_tables.specs.Owned.{state_of}
use Rattle.flow_commit.specs.Keeping.{Keeping, rules}
use Rattle.flow_commit.specs.Committing.{CantBeApplied}
use Rattle.flow_engine.specs.declared.done.Done.{Done}
use Rattle.flow_engine.specs.Driving.{if_kept}
use Rattle.flow_engine.specs.GivingUp.{IsGivenUpFor}

-- Since the engine was the first and now that it is the second, something else than a failure of the disk holds the store back: the
-- connection is shut, a limit is set on the steps of a query, or no row has a number left.
abbrev pub IsHeldBack : {S : Type 0} → Ghosts S → Keeping S → Keeping S → Type 0
IsHeldBack g old new = ((state_of g new.stored).is_open ≡ false) ⊎ (IsSome (state_of g old.stored).step_limit ⊎ WasFull g
    (state_of g old.stored))

-- Something else than a failure of the disk stands behind E80 of commands over a book: that, or the last of their places would be past the
-- last number, or they can't be applied to this book.
abbrev pub HasOtherCause : {S : Type 0} → Ghosts S → Keeping S → Keeping S → Book → List Command → Type 0
HasOtherCause g old new b cs = (2 ^ 63 ≤ new.kept + length cs) ⊎ (CantBeApplied b cs ⊎ IsHeldBack g old new)

-- This stands behind each of these batches that was given up with E80, over the book that those before it left, but for so many.
abbrev pub AreGivenUpBut : (Book → List Command → Type 0) → ℕ → Book → List (List Taken) → List Done → Type 0
AreGivenUpBut why n b [] ds = Unit {0}
AreGivenUpBut why n b (batch ∷ batches) [] = Unit {0}
AreGivenUpBut why n b (batch ∷ batches) (d ∷ ds) =
    (IsGivenUpFor why b batch d × AreGivenUpBut why n (after rules b (if_kept batch d)) batches ds)
    ⊎ ((fewer : ℕ) × (n ≡ suc fewer) × AreGivenUpBut why fewer (after rules b (if_kept batch d)) batches ds)

-- Another cause stands behind each batch that was given up with E80, but for at most as many as the store has counted failures since the
-- engine was the first.
pub record IsCounted {S : Type 0} (g : Ghosts S) (old new : Keeping S) (b : Book) (batches : List (List Taken)) (dones : List Done) : Type
    0 where
  pub failures : ℕ
  pub counted : IsMoreBy failures (state_of g old.stored).faults (state_of g new.stored).faults
  pub are : AreGivenUpBut (HasOtherCause g old new) failures b batches dones
