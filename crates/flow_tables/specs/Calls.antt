-- What a call says that reads the book which a view shows, whatever else it is for, in one word.
use Rattle.std.specs.Prelude.{◌≡◌, Result, Ok, IfOk, OnOk}
use Rattle.flow_model.specs.Book.{Book}
use Rattle.flow_view.specs.Reading.{Caused, Reads}
use Rattle.flow_view.specs.declared.fault.ViewFault.{ViewFault}
use Rattle.flow_tables.specs.Names.{Ghosts}
use Rattle.flow_tables.specs.Owned.{Stored, book_now, is_sure, IsFit, Follows, Refuses}
use Rattle.flow_tables.specs.Puts.{IsUnfit}
pub use Rattle.flow_view.specs.declared.view.View.{Ghosts as Views}

-- This was asked of the book: its value comes, or E80 since the view's store has refused something, and of the view is kept what
-- every call keeps. `g` is the view's kind, `V.View` in a clause.
pub record Recalled {V A : Type 0} (g : Views V) (old new : V) (result : Result A ViewFault) (value : Book → A) : Type 0 where
  pub reads : IfOk result (λ v. Reads (g.is_sure new) (g.book old) (g.book new) v (value (g.book old)))
  pub cause : (a : V) → g.follows a old → g.is_true new → g.is_sure old → Caused result (g.refuses a new)
  pub goes_on : OnOk result (g.is_true new → g.is_sure old → g.is_sure new)
  pub sure : g.is_sure new → g.is_sure old
  pub was_true : g.is_true new → g.is_true old
  pub follows : (a : V) → g.follows a old → g.follows a new

-- The same where nothing comes: what was read is only known.
pub record Looked {V A : Type 0} (g : Views V) (old new : V) (result : Result A ViewFault) : Type 0 where
  pub reads : OnOk result (g.is_sure new → g.book new ≡ g.book old)
  pub cause : (a : V) → g.follows a old → g.is_true new → g.is_sure old → Caused result (g.refuses a new)
  pub goes_on : OnOk result (g.is_true new → g.is_sure old → g.is_sure new)
  pub sure : g.is_sure new → g.is_sure old
  pub was_true : g.is_true new → g.is_true old
  pub follows : (a : V) → g.follows a old → g.follows a new

-- nothing was refused so far
abbrev pub LooksOn : {V : Type 0} → Views V → V → V → Type 0
LooksOn g old new = Looked {A = Unit {0}} g old new (Ok tt)

-- the tables as a view
abbrev pub as_view : {S : Type 0} → Ghosts S → Views (Stored S)
as_view g = record { book = λ t. book_now g t; is_sure = λ t. is_sure g t; is_true = λ t. IsFit g t; follows = λ a b. Follows g a b; refuses = λ a t. Refuses g a t; unfit = λ b c. IsUnfit b c }
