-- Tables as a value of the code: the book that they hold, and what becomes of it.
use Rattle.std.specs.Prelude.{◌≡◌, ◌⊎◌, ◌<ℤ◌}
use Rattle.flow_tables.specs.Names.{Bytes, Bool, Book, no_book, last_number, Tells, book_in, no_schema, RunRow, Held, state, HasCleanDisk, State, Ghosts, IfErr, IsTrue, MatchResult, Option, false, pos, true, ℕ, HasTables, Holds, IsOver, IsRefused, IsStill, AreOurs, Database, Layout, tables_by, tables_in, Refusal, RowFacts, ViewFault, Err, None, Ok, Some, option_map, ℤ, refl, Result}
use Rattle.std.specs.Coded.{Coded, code_by, coded×, coded_option}
use Rattle.sqlite.specs.Tree.{Trees}
use Rattle.sqlite.specs.Held.{held_code}
use Rattle.flow_view.specs.declared.fault.ViewFault.TheVariants as fault
use Rattle.flow_tables.specs.contracts.fault.Refusal as refusal_row
use Rattle.flow_maps.specs.declared.maps.Maps.{Maps}
use Rattle.flow_maps.specs.Serving.{Serves}
use Rattle.flow_maps.specs.Undoing.{GoesBack, Returns}
use Rattle.flow_tables.specs.Known.{IsKnown}
use Rattle.flow_rows.specs.Rows.{One}
use Rattle.flow_rows.specs.Told.{TellsIn}
use Rattle.flow_sql.specs.Past.{ArePast, HasPast, past_tables}
use Rattle.flow_sql.specs.Stored.{AreUtf8}
use Rattle.flow_tables.specs.Faults.{IsHindering, Since, told_fault}

-- The value: the connection, why the rest of the transaction is refused, if it is, and, for contracts alone, the connection
-- as it was handed in.
pub record Stored (S : Type 0) : Type 0 where
  pub held : Held S
  pub refused : Option Refusal
  pub opened : Held S

abbrev pub stored_code : {S : Type 0} → Coded S → Coded (Stored S)
stored_code {S} store =
    code_by (Held S × (Option Refusal × Held S)) (coded× (held_code store) (coded× (coded_option refusal_row.the_row.coded) (held_code store)))
    (λ t. (t.held, (t.refused, t.opened)))
    (λ p. record { held = p.0; refused = p.1.0; opened = p.1.1 })
    (λ _. refl)

abbrev pub state_of : {S : Type 0} → Ghosts S → Stored S → State
state_of g t = state g t.held

abbrev pub book_of : Database → Book
book_of db = book_in (tables_in db)

-- the rows tell the book that is read off them
abbrev pub TellBook : Database → Type 0
TellBook db = Tells (tables_in db) (book_of db)

-- and their texts are UTF-8
pub record ShowsBook (db : Database) : Type 0 where
  pub tells : TellBook db
  pub utf8 : AreUtf8 (tables_in db)

-- What the tables keep true of a connection whose disk is clean.
pub record IsOwn (s : State) (refused : Option Refusal) : Type 0 where
  pub over : IsTrue s.is_open → IsOver s.in_transaction s
  pub kept : IsTrue s.is_open → ShowsBook s.committed
  -- at rest the connection shows what was committed
  pub rest : s.in_transaction ≡ false → IsTrue s.is_open → s.now ≡ s.committed
  -- a transaction in which nothing was refused shows a book
  pub whole : s.in_transaction ≡ true → refused ≡ None → IsTrue s.is_open × ShowsBook s.now

---- The book

-- the book that the connection shows
abbrev pub book_now : {S : Type 0} → Ghosts S → Stored S → Book
book_now g t = book_of (state_of g t).now

-- the book that the last commit left, read off the tables
abbrev pub kept_book : {S : Type 0} → Ghosts S → Stored S → Book
kept_book g t = book_of (state_of g t).committed

-- the connection is open
abbrev pub IsUp : {S : Type 0} → Ghosts S → Stored S → Type 0
IsUp g t = IsTrue (state_of g t).is_open

-- our tables with any rows, or none, as a file of our format has them
abbrev pub IsCurrent : State → Type 0
IsCurrent s = HasCleanDisk s → HasTables s.committed ⊎ (s.committed.schema ≡ no_schema)

-- What is said of the book is said of those, and of tables of the first format with any rows, which are moved when they are opened, as
-- the file that was opened has them.
abbrev pub IsOurs : State → Type 0
IsOurs s = HasCleanDisk s → (HasTables s.committed ⊎ (s.committed.schema ≡ no_schema)) ⊎ HasPast s.committed

-- and of a disk that has told no lie so far
abbrev pub IsFit : {S : Type 0} → Ghosts S → Stored S → Type 0
IsFit g t = IsOurs (state g t.opened) × HasCleanDisk (state g t.held)

-- Nothing was refused in the transaction that runs, so it shows a book.
pub record IsSure (ours : Type 0) (s : State) (refused : Option Refusal) : Type 0 where
  pub fit : ours
  pub clean : HasCleanDisk s
  pub mode : s.in_transaction ≡ true
  pub none : refused ≡ None

abbrev pub is_sure : {S : Type 0} → Ghosts S → Stored S → Type 0
is_sure g t = IsSure (IsOurs (state g t.opened)) (state g t.held) t.refused

-- What is known of the rows is true, where the transaction shows a book.
abbrev pub IsAware : State → Option Refusal → RowFacts → Type 0
IsAware s refused known = refused ≡ None → s.in_transaction ≡ true → IsKnown known (tables_in s.now)

-- What is known is of some book from which it is known how to go back to the one that was kept; and of the one that the transaction
-- shows.
pub record IsServing (m : Maps) (s : State) (refused : Option Refusal) : Type 0 where
  pub last : IsTrue s.is_open → Returns m (book_of s.committed)
  pub shown : refused ≡ None → s.in_transaction ≡ true → Serves m (book_of s.now) × GoesBack m (book_of s.committed) (book_of s.now)

-- the store stopped what was done since the first
abbrev pub Refuses : {S : Type 0} → Ghosts S → Stored S → Stored S → Type 0
Refuses g first t = IsHindering g (state_of g first) (state_of g t)

-- Nothing more is done, and this is told: what the transaction was refused before, or E80 where none runs.
abbrev pub IsBarred : State → Option Refusal → ViewFault → Type 0
IsBarred s refused f = ((r : Refusal) × (refused ≡ Some r) × (f ≡ told_fault r)) ⊎ ((f ≡ fault.StoreRefused) × (s.in_transaction ≡ false))

-- the trees of a file hold this book
pub record IsFileOf (db : Trees) (b : Book) : Type 0 where
  pub layout : Layout
  pub ours : AreOurs layout db
  pub tells : Tells (tables_by layout db) b

-- The last commit left this book, as far as the connection is open, and each stop at this moment leaves it.
pub record Keeps (s : State) (b : Book) : Type 0 where
  pub kept : IsTrue s.is_open → HasTables s.committed × Tells (tables_in s.committed) b
  pub stops : (db : Trees) → s.may_leave db → IsFileOf db b

-- each stop at this moment leaves one of these books
abbrev pub LeavesEither : State → Book → Book → Type 0
LeavesEither s before after = (db : Trees) → s.may_leave db → IsFileOf db before ⊎ IsFileOf db after

-- the same, of which the later one may be there only where what was written was sure
abbrev pub LeavesWritten : Type 0 → State → Book → Book → Type 0
LeavesWritten sure s before after = (db : Trees) → s.may_leave db → IsFileOf db before ⊎ (sure × IsFileOf db after)

-- What was kept is kept on, whatever book it is.
abbrev pub KeepsOn : Type 0 → State → State → Type 0
KeepsOn ours old new = ours → HasCleanDisk new → HasCleanDisk old × ((b : Book) → Keeps old b → Keeps new b)

-- what is open was open before
abbrev pub WasUp : Type 0 → State → State → Type 0
WasUp ours old new = ours → HasCleanDisk new → IsTrue new.is_open → IsTrue old.is_open

-- no failure of the disk is forgotten, and the limit on the steps of a query stays
abbrev pub HasCounted : Type 0 → State → State → Type 0
HasCounted ours old new = ours → HasCleanDisk new → Since old new

abbrev pub Follows : {S : Type 0} → Ghosts S → Stored S → Stored S → Type 0
Follows g a b =
    (b.opened ≡ a.opened) × KeepsOn (IsOurs (state g b.opened)) (state_of g a) (state_of g b) × WasUp (IsOurs (state g b.opened)) (state_of g a) (state_of g b)
    × HasCounted (IsOurs (state g b.opened)) (state_of g a) (state_of g b)

---- Reads of the book, within a transaction

-- The answer is this of the book that the tables tell, which are as they were; a refusal has changed nothing, or ended it.
abbrev pub ReadsBook : {A : Type 0} → State → State → Result A ViewFault → (Book → A) → Type 0
ReadsBook old new result value =
    (b : Book) → Tells (tables_in old.now) b → Holds true old → MatchResult result (λ v. IsStill true old new × (v ≡ value b)) (λ _. IsRefused true old new)

-- A refusal has this behind it, where the tables tell a book.
abbrev pub StopsRead : {A : Type 0} → State → Result A ViewFault → Type 0 → Type 0
StopsRead old result why =
    (b : Book) → Tells (tables_in old.now) b → Holds true old → IfErr result (λ f. f ≡ fault.StoreRefused → why)

-- a number that no text and no run has
abbrev pub IsBelowOne : Option ℤ → Type 0
IsBelowOne None = ⊥
IsBelowOne (Some n) = n <ℤ pos 1

-- a number as a column holds it
abbrev pub as_number : Option ℕ → Option ℤ
as_number o = option_map pos o

-- so many, as their last number, from 1 on
abbrev pub as_count : ℕ → Option ℤ
as_count n = last_number n

-- A refusal is noted, and nothing else.
abbrev pub IsNoted : {A E : Type 0} → (E → Refusal) → Result A E → Option Refusal → Option Refusal → Type 0
IsNoted note (Ok v) old new = new ≡ old
IsNoted note (Err f) old new = new ≡ Some (note f)

---- Opening

-- The connection shows our tables at rest, which tell the book.
pub record IsShowing (s : State) (b : Book) : Type 0 where
  pub over : IsOver false s
  pub same : s.now ≡ s.committed
  pub tells : Tells (tables_in s.committed) b
  pub utf8 : AreUtf8 (tables_in s.committed)

-- The book that a file of our format holds when it is opened: our tables tell it, or there are none and it is the empty one.
abbrev pub IsHeld : State → Book → Type 0
IsHeld s b = (HasTables s.committed × Tells (tables_in s.committed) b) ⊎ ((s.committed.schema ≡ no_schema) × (b ≡ no_book))

-- the trees of a file of the first format hold this book
pub record IsPastFileOf (db : Trees) (b : Book) : Type 0 where
  pub past : ArePast db
  pub tells : TellsIn One (past_tables db) b

-- a store of the first format holds it
pub record IsHeldBefore (s : State) (b : Book) : Type 0 where
  pub past : HasPast s.committed
  pub tells : TellsIn One (past_tables s.committed.trees) b

-- The book that a file holds when it is opened, in either format.
abbrev pub IsFound : State → Book → Type 0
IsFound s b = IsHeld s b ⊎ IsHeldBefore s b

-- A stop leaves what a stop before could leave, or the tables made for this book.
abbrev pub LeavesMade : State → State → Book → Type 0
LeavesMade old new b = (db : Trees) → new.may_leave db → old.may_leave db ⊎ IsFileOf db b
