-- What a connection shows, and what became of it by a call.
use Rattle.std.specs.Prelude.{◌≡◌, ◌∷◌, ◌⊎◌, ◌≤◌}
use Rattle.flow_sql.specs.Names.{Tables, Database, Held, state, Row, Schema, Executes, HasCleanDisk, Shows, State, Table, IsTable, Trees, rowid, is_int, Error, Statement, created, IsSound, Checked, Parsed, Ghosts, AllByRecursion, Bool, IsTrue, List, MatchResult, codes, false, true, ℕ, [], Ok, Err, Result, ⊤}
use Rattle.sqlite_ast.specs.declared.Statement.TheVariants as written
use Rattle.sqlite_ast.specs.declared.Conflict.TheVariants as conflict
use Rattle.flow_sql.specs.Layout.{Layout, Fresh, schema_of, no_schema, meta, text, run}
use Rattle.flow_sql.specs.Stored.{tables_in, tables_by, format_row}
use Rattle.sqlite_disk.specs.Disk.{MoreFaults}
use Rattle.sqlite.specs.State.{store_error}
use Rattle.sqlite_trees.specs.declared.error.StoreError.{StoreError}

-- the numbers of the rows are whole and rise, so none comes twice
abbrev pub AreNumbered : List Row → Type 0
AreNumbered rows = IsTable rows × AllByRecursion (λ r. IsTrue (is_int (rowid r))) rows

-- The trees of a file hold these tables: what is sound in SQL says nothing of the order of rows.
pub record AreLaid (s : Schema) (db : Trees) : Type 0 where
  pub sound : IsSound s db
  pub numbered : AllByRecursion (λ t. AreNumbered (db t.tree)) s.tables

-- The trees of a file with our tables in this layout, in their format.
pub record AreOurs (l : Layout) (db : Trees) : Type 0 where
  pub sound : IsSound (schema_of l) db
  pub format : db 0 ≡ format_row ∷ []
  -- what is sound in SQL says nothing of the order of rows
  pub numbered : AllByRecursion (λ t. AreNumbered (db t.tree)) (schema_of l).tables

-- its tables are ours, in one of the layouts
abbrev pub IsLaidOut : Database → Type 0
IsLaidOut db = (l : Layout) × (db.schema ≡ schema_of l)

-- in this one
pub record LieAs (l : Layout) (db : Database) : Type 0 where
  pub laid_out : db.schema ≡ schema_of l
  pub ours : AreOurs l db.trees

pub record HasTables (db : Database) : Type 0 where
  pub layout : Layout
  pub lie : LieAs layout db

-- The connection is open, in a transaction or not, over our tables.
pub record IsOver (inside : Bool) (s : State) : Type 0 where
  pub is_open : IsTrue s.is_open
  pub mode : s.in_transaction ≡ inside
  pub now : HasTables s.now
  pub committed : HasTables s.committed

-- the same, if the disk has told no lie so far
abbrev pub Holds : Bool → State → Type 0
Holds inside s = HasCleanDisk s → IsOver inside s

-- A statement changed the tables so, and nothing else; what the last commit left is as it was.
pub record Changes (old new : State) (after : Tables) : Type 0 where
  pub over : IsOver true new
  pub tables : tables_in new.now ≡ after
  pub committed : new.committed ≡ old.committed

-- The transaction has ended with what the last commit left, unless the store has shut the connection.
pub record IsUndone (old new : State) : Type 0 where
  pub mode : new.in_transaction ≡ false
  pub over : IsTrue new.is_open → IsOver false new × (new.now ≡ old.committed) × (new.committed ≡ old.committed)

-- The tables are as they were, and so is what the last commit left.
abbrev pub IsStill : Bool → State → State → Type 0
IsStill inside old new = IsOver inside new × (new.now ≡ old.now) × (new.committed ≡ old.committed)

-- A refused statement has changed nothing, or the transaction has ended.
abbrev pub IsRefused : Bool → State → State → Type 0
IsRefused inside old new = IsStill inside old new ⊎ IsUndone old new

---- Whatever tables there are

-- A transaction was begun, and nothing else changed.
abbrev pub HasBegun : State → State → Type 0
HasBegun old new = (old.in_transaction ≡ false) × Shows old new old.now old.committed true

-- What the transaction showed is committed.
abbrev pub HasCommitted : State → State → Type 0
HasCommitted old new = IsTrue old.in_transaction × Shows old new old.now old.now false

-- The transaction goes on, and what the last commit left is as it was.
pub record GoesOn (old new : State) : Type 0 where
  pub was_open : IsTrue old.is_open
  pub is_open : IsTrue new.is_open
  pub mode : new.in_transaction ≡ true
  pub committed : new.committed ≡ old.committed

-- No transaction runs any more, and the connection shows what the last commit left, unless the store has shut it.
pub record HasEnded (old new : State) : Type 0 where
  pub was_open : IsTrue new.is_open → IsTrue old.is_open
  pub mode : new.in_transaction ≡ false
  pub back : IsTrue new.is_open → (new.now ≡ old.committed) × (new.committed ≡ old.committed)

-- It goes on or has ended, and nothing was committed.
abbrev pub CommitsNothing : State → State → Type 0
CommitsNothing old new = GoesOn old new ⊎ HasEnded old new

-- No transaction runs.
abbrev pub IsAtRest : State → Type 0
IsAtRest s = (s.in_transaction ≡ false) × (IsTrue s.is_open → s.now ≡ s.committed)

-- A statement of the store was refused with this error.
abbrev pub IsRefusal : {S : Type 0} → Ghosts S → Error → Type 0
IsRefusal {S} g e = (old new : Held S) × (sql : List ℕ) × Executes sql [] (state g old) (state g new) (Err e)

-- A statement without parameters was run, or refused.
abbrev pub RunsTo : List ℕ → State → State → Result (Unit {0}) Error → Type 0
RunsTo sql old new r = MatchResult r (λ _. (count : ℕ) × Executes sql [] old new (Ok count)) (λ e. Executes sql [] old new (Err e))

-- Three such statements ran, one after another.
abbrev pub RanThree : {S : Type 0} → Ghosts S → List ℕ → List ℕ → List ℕ → Held S → Held S → Type 0
RanThree {S} g one two three old new =
    (b c : Held S) × (k m n : ℕ) × Executes one [] (state g old) (state g b) (Ok k) × Executes two [] (state g b) (state g c) (Ok m) × Executes three [] (state g c) (state g new) (Ok n)

-- The disk has failed at least so often, and the limit on the steps of a query is the same.
abbrev pub Since : State → State → Type 0
Since first s = (first.faults ≤ s.faults) × (s.step_limit ≡ first.step_limit)

-- The error is that of a store that failed: by memory, the disk, size, or since it was shut.
abbrev pub IsStoreError : Error → Type 0
IsStoreError e = (kind : StoreError) × (e ≡ store_error kind)

-- The disk has failed once more, and the error tells so.
abbrev pub TellsFailure : Error → State → State → Type 0
TellsFailure e old new = IsStoreError e × MoreFaults old.faults new.faults

-- One of three such statements was refused with this error, behind those before it.
abbrev pub StoppedOfThree : {S : Type 0} → Ghosts S → List ℕ → List ℕ → List ℕ → Held S → Held S → Error → Type 0
StoppedOfThree {S} g one two three old new e =
    Executes one [] (state g old) (state g new) (Err e)
    ⊎ (((b : Held S) × (k : ℕ) × Since (state g old) (state g b) × Executes one [] (state g old) (state g b) (Ok k) × Executes two [] (state g b) (state g new) (Err e))
    ⊎ ((b c : Held S) × (k m : ℕ) × Since (state g old) (state g c) × Executes one [] (state g old) (state g b) (Ok k) × Executes two [] (state g b) (state g c) (Ok m)
    × Executes three [] (state g c) (state g new) (Err e)))

-- What ran was rolled back; where nothing ran nothing was done.
abbrev pub HasGoneBack : {S : Type 0} → Ghosts S → Held S → Held S → Type 0
HasGoneBack g old new = (((state g old).in_transaction ≡ false) × (new ≡ old)) ⊎ ((count : ℕ) × Executes (codes "ROLLBACK") [] (state g old) (state g new) (Ok count))

---- Making the tables

-- The connection is open, and has these tables without rows, whatever the last commit left.
pub record HasEmpty (inside : Bool) (made : Schema) (s : State) : Type 0 where
  pub is_open : IsTrue s.is_open
  pub mode : s.in_transaction ≡ inside
  pub laid_out : s.now.schema ≡ made
  pub empty : AllByRecursion (λ (t : Table). s.now.trees t.tree ≡ []) made.tables

-- The connection is open, and has no table.
abbrev pub IsBlank : Bool → State → Type 0
IsBlank inside s = HasEmpty inside no_schema s

abbrev pub no_tables : Tables
no_tables = record { texts = []; runs = []; events = λ run. []; timers = λ run. []; outbox = λ run. [] }

-- The trees of our tables without rows, as a new store has them.
abbrev pub AreNew : Trees → Type 0
AreNew db = AreOurs Fresh db × (tables_by Fresh db ≡ no_tables)

-- The transaction shows our tables without rows, as a new store has them.
pub record HasMade (s : State) : Type 0 where
  pub is_open : IsTrue s.is_open
  pub mode : s.in_transaction ≡ true
  pub now : HasTables s.now
  pub tables : tables_in s.now ≡ no_tables
  pub fresh : AreNew s.now.trees

-- a CREATE TABLE, an INSERT that has no clause, an UPDATE or a DELETE, of which none shows anything
abbrev pub IsMaking : Statement → Type 0
IsMaking (written.CreateTable def) = ⊤
IsMaking (written.Insert conflict.Abort name columns rows clauses shown) = (clauses ≡ []) × (shown ≡ [])
IsMaking (written.Update name sets test shown) = shown ≡ []
IsMaking (written.Delete name test shown) = shown ≡ []
IsMaking _ = ⊥

abbrev pub IsReading : Statement → Type 0
IsReading (written.Select s) = ⊤
IsReading _ = ⊥

-- the text begins with such a statement
abbrev pub FirstIs : (Statement → Type 0) → Checked Parsed → Type 0
FirstIs P (Ok p) = P p.statement
FirstIs P (Err e) = ⊥

-- no row follows, and the schema is that after the first three tables
abbrev pub half_schema : Schema
half_schema = created (created (created no_schema meta) text) run
