-- What deciding a command promises.
use Rattle.std.specs.Prelude.{◌≡◌, List, Result, IfOk, Vec}
use Rattle.flow_base.specs.declared.book.Change.{Change}
use Rattle.flow_base.specs.declared.command.Reply.{Reply}
use Rattle.flow_model.specs.Book.{Book, changed_by}
use Rattle.flow_model.specs.Apply.{Outcome}
use Rattle.flow_view.specs.Called.{Kept}
use Rattle.flow_view.specs.Reading.{Caused}
use Rattle.flow_view.specs.declared.fault.ViewFault.{ViewFault}
use Rattle.flow_view.specs.declared.view.View.{Ghosts}

-- This reply and these changes are the outcome.
pub record Gives (reply : Reply) (changes : List Change) (o : Outcome) : Type 0 where
  pub reply_is : reply ≡ o.reply
  pub changes_are : changes ≡ o.changes

-- This reply and these changes are the outcome, and the book is as it was.
pub record Finds (old new : Book) (reply : Reply) (changes : List Change) (o : Outcome) : Type 0 where
  pub reply_is : reply ≡ o.reply
  pub changes_are : changes ≡ o.changes
  pub still : new ≡ old

-- What a call over a view says if it finds the outcome of a command that is stuck on no book: E80 has one cause, that the view's store has
-- refused something. `g` is the view's kind, `V.View` in a clause.
pub record FindsAlways {V A : Type 0} (g : Ghosts V) (old new : V) (result : Result (Reply × Vec Change A) ViewFault) (o : Outcome) : Type 0 where
  pub finds : IfOk result (λ r. g.is_sure new → Finds (g.book old) (g.book new) r.0 r.1.items o)
  pub cause : (a : V) → g.follows a old → g.is_true new → g.is_sure old → Caused result (g.refuses a new)
  pub kept : Kept g old new result

-- This reply and these changes are the outcome, and the book is changed by it.
pub record Decides (old new : Book) (reply : Reply) (changes : List Change) (o : Outcome) : Type 0 where
  pub reply_is : reply ≡ o.reply
  pub changes_are : changes ≡ o.changes
  pub book_is : new ≡ changed_by old o.changes
