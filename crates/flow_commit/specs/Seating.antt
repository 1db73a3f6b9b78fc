-- Where the runs of a keeper's book stand, as far as it knows.
use Rattle.std.specs.Prelude.{◌≡◌, []}
use Rattle.sqlite_trees.specs.declared.store.Store.{Ghosts}
use Rattle.flow_cache.specs.Laws.{AllHave}
use Rattle.flow_check.specs.Language.{meaning_of}
use Rattle.flow_machine.specs.Seated.{ReachedIn}
use Rattle.flow_machine.specs.declared.seats.Seats.{Seats}
use Rattle.flow_model.specs.Book.{Book}
use Rattle.flow_tables.specs.Owned.{Stored, IsFit, IsUp, Keeps, state_of}

-- Each position is one that its run has reached in a book that the tables keep.
abbrev pub IsSeated : {S : Type 0} → Ghosts S → Stored S → Seats → Type 0
IsSeated g t s = (b : Book) × (Keeps (state_of g t) b × AllHave (ReachedIn meaning_of b) s.kept.entries)

-- None stands ahead of the book that is kept, and as long as the connection is open each is one that was reached there.
pub record HasSeats {S : Type 0} (g : Ghosts S) (t : Stored S) (s : Seats) : Type 0 where
  pub ahead : s.ahead.items ≡ []
  pub kept : IsFit g t → IsUp g t → (b : Book) → Keeps (state_of g t) b → AllHave (ReachedIn meaning_of b) s.kept.entries
