-- What the opening of the engine gives, and why it is refused.
use Rattle.std.specs.Prelude.{◌≡◌, ℕ, false, List, [], IsTrue, Result, Ok, Err, IfOk, IfErr, MatchResult}
use Rattle.sqlite.specs.Tree.{Trees}
use Rattle.sqlite_trees.specs.declared.store.Store.{Ghosts}
use Rattle.sqlite.specs.State.{State, HasCleanDisk}
use Rattle.sqlite.specs.Held.{Held, state}
use Rattle.flow_base.specs.declared.book.Run.{Run}
use Rattle.flow_base.specs.declared.fault.Fault.{Fault}
use Rattle.flow_base.specs.declared.fault.Fault.TheVariants as fault
use Rattle.flow_check.specs.Language.{is_program, meaning_of}
use Rattle.flow_model.specs.Book.{Book}
use Rattle.flow_tables.specs.Faults.{Since}
use Rattle.flow_sql.specs.Past.{HasPast, past_tables}
use Rattle.flow_tables.specs.Opening.{HasCause, HasFirstFormat, IsFirstDamage, IsOfRows, IsOfStore, IsOfTables, StopsTables}
use Rattle.flow_tables.specs.Owned.{IsCurrent, IsFileOf, IsFound, IsPastFileOf, Keeps, LeavesMade, state_of}
use Rattle.flow_tables.specs.States.{HasTables}
use Rattle.flow_tables.specs.Stored.{tables_in}
use Rattle.flow_commit.specs.Keeping.{Keeping, IsFit, KeepsBook, kept_book}
use Rattle.flow_recover.specs.declared.positions.Position.{Position}
use Rattle.flow_recover.specs.Positions.{ArePositions, IsOpenRun, IsStanding}
use Rattle.flow_recover.specs.Recovering.{HasNeitherFormat, HoldsSound, HoldsSoundBefore, IsLeft, IsOfRecovery, IsOpenedOver, StillHolds, WasRead}
use Rattle.flow_engine.specs.Answering.{IsSure}

-- each open run of the book stands under its text
abbrev pub AllStand : Book → Type 0
AllStand b = (n : ℕ) (r : Run) → IsOpenRun b n r → IsStanding meaning_of b r

-- These are the positions of the book that the store held when it was opened: one for each of its open runs and no other, in the
-- order of runs, each under the run's text.
pub record HasFound {S : Type 0} (g : Ghosts S) (k : Keeping S) (positions : List Position) : Type 0 where
  pub book : Book
  pub found : IsFound (state g k.stored.opened) book
  pub are : ArePositions meaning_of book positions

-- The engine keeps the book that was found, and each of its open runs stands under its text.
pub record IsOpened {S : Type 0} (g : Ghosts S) (from : State) (k : Keeping S) : Type 0 where
  pub book : Book
  pub found : IsFound from book
  pub kept : KeepsBook g k book
  -- its texts are programs, and its runs keep the rules
  pub of_rows : IsOfRows is_program book
  pub stands : AllStand book

-- The engine keeps this book again, as an engine before it did.
pub record KeepsAgain {S : Type 0} (g : Ghosts S) (k : Keeping S) (b : Book) : Type 0 where
  pub fit : IsFit g k
  pub kept : KeepsBook g k b
  pub stands : AllStand b

-- What is told of a store that wasn't opened, which was and is in these states.
pub record IsUnopened {S : Type 0} (g : Ghosts S) (from to : State) (f : Fault) : Type 0 where
  -- E01, E68 and E80 to E84 alone are told: E82 and E83 only where the tables say so, and E84 only where the first format was read.
  pub among : IsOfRecovery f
  pub version : HasCleanDisk to → f ≡ fault.BadVersion → HasNeitherFormat g to
  pub moving : HasCleanDisk to → f ≡ fault.Unknown → HasFirstFormat g from
  pub damaged : HasCleanDisk to → (HasCleanDisk from → HasTables from.committed) → IsFirstDamage is_program (tables_in from.committed) f
  pub damaged_before : HasCleanDisk to → (HasCleanDisk from → HasPast from.committed) → IsFirstDamage is_program (past_tables from.committed.trees) f
  pub cause : HasCleanDisk to → HasCause g f
  -- Over our tables, or none, E80 comes of the disk or of a limit on steps, E81 of such a limit or of a text that isn't UTF-8.
  pub why : HasCleanDisk to → IsCurrent from → StopsTables g from to f
  -- no failure of the disk is forgotten, and the limit on the steps of a query stays
  pub since : Since from to
  -- The store is as it was, or the book that was found is kept, and E68 names its least run that doesn't replay.
  pub left : HasCleanDisk to → IsLeft from to f
  -- no transaction is left running, over any file
  pub ended : HasCleanDisk to → to.in_transaction ≡ false
  -- Tables that stand for a sound book, or none, are refused only where the store fails, or isn't ours.
  pub own : HasCleanDisk to → (HasCleanDisk from → HoldsSound from) → IsOfTables f
  -- Those of the first format too, and where their move isn't committed.
  pub own_before : HasCleanDisk to → (HasCleanDisk from → HoldsSoundBefore from) → IsOfStore f
  -- A stop leaves what it could leave before, or the tables made for the book that was found: new ones, or those to which a store of the
  -- first format is moved.
  pub stops : HasCleanDisk to → (b : Book) → (HasCleanDisk from → IsFound from b) → HasCleanDisk from × LeavesMade from to b
  -- Over an open connection that held a book it is held on: over what a stop left of one, over a connection that was closed while
  -- it kept one, and over a store without tables.
  pub holds : HasCleanDisk to → (b : Book) → (HasCleanDisk from → IsTrue from.is_open × IsFound from b) → StillHolds from to b

---- A life's beginning

-- What is said of an engine that was opened over a connection.
pub record Opens {S : Type 0} (g : Ghosts S) (conn : Held S) (first : Keeping S) : Type 0 where
  pub opened : first.stored.opened ≡ conn
  pub clean : HasCleanDisk (state_of g first.stored) → HasCleanDisk (state g conn)
  -- no failure of the disk is forgotten, and the limit on the steps of a query stays
  pub since : Since (state g conn) (state_of g first.stored)
  pub anew : (first.kept ≡ 0) × (first.halted ≡ false)
  pub found : IsFit g first → IsOpened g (state g conn) first

-- an opening beside which something else is given
abbrev pub engine_of : {K A E : Type 0} → Result (K × A) E → Result K E
engine_of (Ok r) = Ok r.0
engine_of (Err e) = Err e

-- What is said of an opening, whoever watches it.
pub record OpeningSays {S : Type 0} (g : Ghosts S) (conn : Held S) (result : Result (Keeping S) (Fault × Held S)) : Type 0 where
  pub opened : IfOk result (λ e. e.stored.opened ≡ conn)
  pub anew : IfOk result (λ e. (e.kept ≡ 0) × (e.halted ≡ false))
  -- Its history begins here, over the book that it keeps.
  pub begins : IfOk result (λ e. (IsFit g e → KeepsBook g e e.found) × (e.log ≡ []))
  -- A disk that has told no lie had told none before.
  pub clean : IfOk result (λ e. HasCleanDisk (state_of g e.stored) → HasCleanDisk (state g conn))
  -- No failure of the disk is forgotten, and the limit on the steps of a query stays, Ok or refused.
  pub since : MatchResult result (λ e. Since (state g conn) (state_of g e.stored)) (λ e. Since (state g conn) (state g e.1))
  pub rest : IfOk result (λ e. HasCleanDisk (state_of g e.stored) → (state_of g e.stored).in_transaction ≡ false)
  pub found : IfOk result (λ e. IsFit g e → IsOpened g (state g conn) e)
  -- Over any file: our format was read, or there was no such table, and it was made, or the first format was read.
  pub format : IfOk result (λ e. HasCleanDisk (state_of g e.stored) → WasRead g (state g conn))
  -- Over what a stop left of a book, or over a connection that was closed while it kept the book, it keeps that book again.
  pub again : IfOk result (λ e. HasCleanDisk (state_of g e.stored) → (db : Trees) (b : Book) → IsFileOf db b
      → (HasCleanDisk (state g conn) → IsOpenedOver (state g conn) db) → KeepsAgain g e b)
  pub again_before : IfOk result (λ e. HasCleanDisk (state_of g e.stored) → (db : Trees) (b : Book) → IsPastFileOf db b
      → (HasCleanDisk (state g conn) → IsOpenedOver (state g conn) db) → KeepsAgain g e b)
  pub closed : IfOk result (λ e. HasCleanDisk (state_of g e.stored) → (b : Book)
      → (HasCleanDisk (state g conn) → IsTrue (state g conn).is_open × Keeps (state g conn) b) → KeepsAgain g e b)
  -- This is what a life has of its opening.
  pub opens : IfOk result (λ e. Opens g conn e)
  -- The book over which it answers first is the one that the store held.
  pub book : IfOk result (λ e. IsSure g e → IsFound (state g conn) (kept_book g e))
  pub refused : IfErr result (λ e. IsUnopened g (state g conn) (state g e.1) e.0)
