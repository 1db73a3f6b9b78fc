-- What firing timers promises.
use Rattle.std.specs.Prelude.{◌≡◌, ◌++◌, ℕ, List}
use Rattle.flow_base.specs.declared.book.Change.{Change}
use Rattle.flow_base.specs.declared.command.Command.{Command}
use Rattle.flow_base.specs.declared.command.Command.TheVariants as command
use Rattle.flow_model.specs.Book.{Book, changed_by}
use Rattle.flow_model.specs.Apply.{Outcome, Firings}

-- These are the changes of the outcome, and the book is as it was.
pub record Makes (old new : Book) (changes : List Change) (o : Outcome) : Type 0 where
  pub changes_are : changes ≡ o.changes
  pub still : new ≡ old

-- The changes of the outcome stand behind the others, and the book is changed by them.
pub record Adds (old new : Book) (before after : List Change) (o : Outcome) : Type 0 where
  pub changes_are : after ≡ before ++ o.changes
  pub book_is : new ≡ changed_by old o.changes

-- The changes of so many firings stand behind the others, and this is the book that they leave.
pub record Fires (new : Book) (before after : List Change) (count : ℕ) (f : Firings) : Type 0 where
  pub changes_are : after ≡ before ++ f.changes
  pub count_is : count ≡ f.count
  pub book_is : new ≡ f.book

-- Decided in one step, over the book as it was and without a position: all but a tick and a list of open runs.
abbrev pub IsOneStep : Command → Type 0
IsOneStep (command.Tick at) = ⊥
IsOneStep (command.Open from most) = ⊥
IsOneStep c = Unit {0}
