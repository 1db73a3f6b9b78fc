-- What stands behind commands that an engine gives up.
use Rattle.std.specs.Prelude.{◌≡◌, ◌⊎◌, ◌+◌, ◌≤◌, ◌^◌, List, [], ◌∷◌, length}
use Rattle.sqlite_trees.specs.declared.store.Store.{Ghosts}
use Rattle.flow_base.specs.declared.code.Code.{Code}
use Rattle.flow_base.specs.declared.code.Code.TheVariants as code
use Rattle.flow_base.specs.declared.command.Command.{Command}
use Rattle.flow_model.specs.Book.{Book}
use Rattle.flow_model.specs.Apply.{after}
use Rattle.flow_base.specs.declared.submission.Taken.{Taken}
use Rattle.flow_view.specs.declared.fault.ViewFault.TheVariants as fault
use Rattle.flow_commit.specs.Keeping.{Keeping, rules, IsFit, commands_of}
use Rattle.flow_commit.specs.Committing.{CantBeApplied, IsDown}
use Rattle.flow_engine.specs.declared.done.Done.{Done}
use Rattle.flow_engine.specs.declared.done.Done.TheVariants as done
use Rattle.flow_engine.specs.Driving.{if_kept}

-- E80 of commands over a book, since the engine was the first and now that it is the second: the last of their places would be past
-- the last number, they can't be applied to this book, or the connection is shut or the store hindered something in between.
abbrev pub WasRefused : {S : Type 0} → Ghosts S → Keeping S → Keeping S → Book → List Command → Type 0
WasRefused g old new b cs = (2 ^ 63 ≤ new.kept + length cs) ⊎ (CantBeApplied b cs ⊎ IsDown g old.stored new.stored)

-- That stands behind E80 where the disk has told no lie. Of E01 nothing more is said.
abbrev pub GivesUp : {S : Type 0} → Ghosts S → Keeping S → Keeping S → Book → List Command → Code → Type 0
GivesUp g old new b cs k = k ≡ code.StoreRefused → IsFit g new → WasRefused g old new b cs

---- Batches

-- this stands behind a batch, where it was given up with E80
abbrev pub IsGivenUpFor : (Book → List Command → Type 0) → Book → List Taken → Done → Type 0
IsGivenUpFor why b batch (done.NotApplied fault.StoreRefused) = why b (commands_of batch)
IsGivenUpFor why b batch _ = Unit {0}

-- and behind each of these, over the book that those before it left
abbrev pub AreGivenUp : (Book → List Command → Type 0) → Book → List (List Taken) → List Done → Type 0
AreGivenUp why b [] ds = Unit {0}
AreGivenUp why b (batch ∷ batches) [] = Unit {0}
AreGivenUp why b (batch ∷ batches) (d ∷ ds) = IsGivenUpFor why b batch d × AreGivenUp why (after rules b (if_kept batch d)) batches ds
