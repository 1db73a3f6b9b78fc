-- From which moment on a keeper looks at what waits, and what becomes of that by the end of a transaction.
use Rattle.std.specs.Prelude.{ℕ, List}
use Rattle.sqlite_trees.specs.declared.store.Store.{Ghosts}
use Rattle.flow_base.specs.Keys.{Key}
use Rattle.flow_model.specs.Book.{Book}
use Rattle.flow_tables.specs.Owned.{Stored, IsFit, IsUp, Keeps, state_of}
use Rattle.flow_commit.specs.Boards.{AllWerePosted}
use Rattle.flow_commit.specs.declared.transaction.End.{End}
use Rattle.flow_commit.specs.declared.transaction.End.TheVariants as end

-- As long as the connection is open, what may be attempted before a moment in the book that is kept was posted.
abbrev pub HasLooked : {S : Type 0} → Ghosts S → Stored S → ℕ → List Key → Type 0
HasLooked g t since posted = IsFit g t → IsUp g t → (b : Book) → Keeps (state_of g t) b → AllWerePosted posted since b

-- this holds where a transaction was committed
abbrev pub IfKept : Type 0 → End → Type 0
IfKept holds (end.Kept rs) = holds
IfKept holds (end.Refused f) = Unit {0}
IfKept holds (end.Unknown f _) = Unit {0}
