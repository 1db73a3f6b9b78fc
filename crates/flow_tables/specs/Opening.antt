-- What opening reads and finds, and why it is refused.
use Rattle.std.specs.Prelude.{◌≡◌, ◌∷◌, ◌⊎◌, ◌≢◌}
use Rattle.sqlite_disk.specs.Disk.{MoreFaults}
use Rattle.flow_tables.specs.Names.{EventRow, no_schema, Fault, BadVersion, Damaged, NoMemory, NotOurs, StoreRefused, Book, first_damage, by_run, StoreRows, format_sql, Read, read_sql, Tables, Database, Held, state, Row, Executes, State, Error, Int, Ghosts, column, AllByRecursion, Bool, List, false, pos, true, ℕ, HasEnded, HasTables, IsLaidOut, tables_in, IsReadError, QueriesRow, QueryReturnedNoRows, SqliteFailure, Err, Ok, Some, length, ℤ, [], IsSome, ⊤, IsOver, IsBlank, Tells, AreUtf8, AreNew, Trees}
use Rattle.flow_base.specs.Syntax.{Bytes}
use Rattle.flow_base.specs.declared.fault.Damage.{Damage}
use Rattle.flow_base.specs.declared.fault.Fault.TheVariants.{Unknown}
use Rattle.flow_tables.specs.Owned.{IsCurrent, IsHeld}
use Rattle.flow_sql.specs.Past.{HasPast, PastRead, drop_events_sql, past_kinds, past_schema, past_sql}
use Rattle.sqlite.specs.declared.error.ErrorCode.TheVariants as code
use Rattle.flow_rows.specs.Damages.{event_place, task_place, timer_place}
use Rattle.flow_rows.specs.Rows.{Two, rows_of}
use Rattle.flow_rows.specs.Standing.{AreKept}
use Rattle.flow_tables.specs.declared.fault.StoreFault.TheVariants as read
use Rattle.flow_sql.specs.States.{Since, TellsFailure}
use Rattle.flow_sql.specs.Layout.{Write, write_sql}
use Rattle.flow_sql.specs.Stored.{HasOddText, event_params, kinds_of, LieByRun}
use Rattle.flow_tables.specs.Reads.{IsAskedWith, IsReadFault}

---- The format

-- The number of the format was read, and is another.
abbrev pub HasOtherFormat : {S : Type 0} → Ghosts S → State → Type 0
HasOtherFormat {S} g new = (old : Held S) × (row : Row) × (n : ℤ) × QueriesRow format_sql [] (state g old) new (Ok row) × (column row 0 ≡ Int n) × (n ≢ pos 2)

---- How an error of the store is told

-- E80 for memory, disk and size, E81 for all else; the want of memory by itself
abbrev pub opening_fault : Error → Fault
opening_fault (SqliteFailure code.OutOfMemory) = NoMemory _
opening_fault (SqliteFailure code.SystemIoFailure) = StoreRefused
opening_fault (SqliteFailure code.DatabaseCorrupt) = StoreRefused
opening_fault (SqliteFailure code.DiskFull) = StoreRefused
opening_fault (SqliteFailure code.TooBig) = StoreRefused
opening_fault (SqliteFailure code.Closed) = StoreRefused
opening_fault _ = NotOurs

-- What reading the format answers where it is our number, or else where there is no such table.
abbrev pub IsAnswered : Bool → State → State → Type 0
IsAnswered true old new = (row : Row) × QueriesRow format_sql [] old new (Ok row) × (column row 0 ≡ Int (pos 2))
IsAnswered false old new = (e : Error) × QueriesRow format_sql [] old new (Err e) × (e ≢ QueryReturnedNoRows) × (opening_fault e ≡ NotOurs)

-- The format was read so, of what the last commit left at the start, under the limit on steps that was set there.
abbrev pub HasFormat : {S : Type 0} → Ghosts S → State → Bool → Type 0
HasFormat {S} g start is_there = (old new : Held S) × HasEnded start (state g old) × Since start (state g old) × IsAnswered is_there (state g old) (state g new)

-- The same, and the number is that of the first format.
abbrev pub HasFirstFormat : {S : Type 0} → Ghosts S → State → Type 0
HasFirstFormat {S} g start = (old new : Held S) × (row : Row) × HasEnded start (state g old) × Since start (state g old) × QueriesRow format_sql [] (state g old) (state g new) (Ok row) × (column row 0 ≡ Int (pos 1))

---- What the rows say

-- Tables stand for a book: they are its rows, its texts are programs, and its runs keep the rules.
pub record StandFor (is_program : Bytes → Bool) (t : Tables) (b : Book) : Type 0 where
  pub texts : AllByRecursion (λ text. is_program text ≡ true) b.texts
  pub runs : AreKept Two (length b.texts) [] b.runs
  pub same : t ≡ rows_of b

-- Its own rows stand for a book: its texts are programs, and its runs keep the rules.
abbrev pub IsOfRows : (Bytes → Bool) → Book → Type 0
IsOfRows is_program b = StandFor is_program (rows_of b) b

-- The rows are those of the tables, and each table's lie by rising run: no other rows do.
abbrev pub AreReadOff : StoreRows → Tables → Type 0
AreReadOff rows t = (by_run rows ≡ t) × LieByRun event_place rows.events × LieByRun timer_place rows.timers × LieByRun task_place rows.outbox

-- A damage that is told is the first one.
abbrev pub IsFirstDamage : (Bytes → Bool) → Tables → Fault → Type 0
IsFirstDamage is_program t (Damaged d) = (rows : StoreRows) × AreReadOff rows t × (first_damage is_program rows ≡ Some d)
IsFirstDamage is_program t _ = ⊤

-- The rows and the format are as they should be.
abbrev pub IsOfTables : Fault → Type 0
IsOfTables (NoMemory _) = ⊤
IsOfTables StoreRefused = ⊤
IsOfTables NotOurs = ⊤
IsOfTables _ = ⊥

-- Of a store of the first format too, which is moved when it is opened: E01, E80, E81, or E84.
abbrev pub IsOfStore : Fault → Type 0
IsOfStore Unknown = ⊤
IsOfStore f = IsOfTables f

-- It is the first damage of these rows.
abbrev pub IsDamageOf : (Bytes → Bool) → StoreRows → Fault → Type 0
IsDamageOf is_program rows f = (d : Damage) × (f ≡ Damaged d) × (first_damage is_program rows ≡ Some d)

-- What is told where the last commit left our tables, or none: a fault of the store, or the first damage of our tables.
abbrev pub IsToldOf : (Bytes → Bool) → Database → Fault → Type 0
IsToldOf is_program db f = IsOfTables f ⊎ (HasTables db × (rows : StoreRows) × IsDamageOf is_program rows f × AreReadOff rows (tables_in db))

-- What opening tells at all: E01, E80 to E83.
abbrev pub IsOfOpening : Fault → Type 0
IsOfOpening (NoMemory _) = ⊤
IsOfOpening StoreRefused = ⊤
IsOfOpening NotOurs = ⊤
IsOfOpening BadVersion = ⊤
IsOfOpening (Damaged d) = ⊤
IsOfOpening _ = ⊥

---- Why it is refused

-- A statement of the store was refused with this error, or a row of an answer can't be read.
abbrev pub IsMet : {S : Type 0} → Ghosts S → Error → Type 0
IsMet {S} g e =
    (old new : Held S) × (sql : List ℕ)
    × (Executes sql [] (state g old) (state g new) (Err e)
    ⊎ (QueriesRow sql [] (state g old) (state g new) (Err e)
    ⊎ (((r : Read) × (params : Row) × IsAskedWith r params × (read_sql r ≡ sql) × IsReadFault (kinds_of r) sql params (state g old) (state g new) (read.Refused e))
    ⊎ (((row : Row) × QueriesRow sql [] (state g old) (state g new) (Ok row) × IsReadError 0 (column row 0) e)
    ⊎ (((r : PastRead) × (past_sql r ≡ sql) × IsReadFault (past_kinds r) sql [] (state g old) (state g new) (read.Refused e))
    ⊎ (((r : EventRow) × (sql ≡ write_sql Write.insert_event) × Executes sql (event_params r) (state g old) (state g new) (Err e))
    ⊎ ((run : ℤ) × (sql ≡ drop_events_sql) × Executes sql (Int run ∷ []) (state g old) (state g new) (Err e))))))))

-- The other faults have clauses of their own, and want of memory none.
abbrev pub HasCause : {S : Type 0} → Ghosts S → Fault → Type 0
HasCause g StoreRefused = (e : Error) × IsMet g e × (opening_fault e ≡ StoreRefused)
HasCause g NotOurs = (e : Error) × IsMet g e × (opening_fault e ≡ NotOurs)
HasCause g _ = ⊤

---- What stands behind it, over our tables or none

-- Making the tables stopped: the disk has failed, as the error tells, or a limit is set on the steps of a query. The database
-- declines none of the statements.
abbrev pub StopsMaking : {S : Type 0} → Ghosts S → Held S → Held S → Error → Type 0
StopsMaking g first new e = e ≢ SqliteFailure code.OutOfMemory → TellsFailure e (state g first) (state g new) ⊎ IsSome (state g first).step_limit

-- Behind E80 stands that the connection was shut, that the disk has failed since the first state, or a limit on the steps of a query.
-- Behind E81 it is such a limit, or that our tables hold a text that isn't UTF-8, and no failure of the disk. The other faults have
-- clauses of their own, and want of memory none.
abbrev pub StopsTables : {S : Type 0} → Ghosts S → State → State → Fault → Type 0
StopsTables g first new StoreRefused = (first.is_open ≡ false) ⊎ (MoreFaults first.faults new.faults ⊎ IsSome first.step_limit)
StopsTables g first new NotOurs = IsSome first.step_limit ⊎ (HasTables first.committed × HasOddText (tables_in first.committed))
StopsTables g first new _ = ⊤

-- The same of any file of ours: behind E84 stands that the first format was read.
abbrev pub StopsOpening : {S : Type 0} → Ghosts S → State → State → Fault → Type 0
StopsOpening g first new f = (IsCurrent first → StopsTables g first new f) × (f ≡ Unknown → HasFirstFormat g first)

---- What is opened

-- What is found of our tables, or of none: they are shown, or there are none. Ours aren't found only where a limit is
-- set on the steps of a query. Those of the first format aren't ours, and are there.
abbrev pub IsFoundSo : {S : Type 0} → Ghosts S → State → State → Bool → Type 0
IsFoundSo g old new true =
    (HasTables old.committed → IsOver false new × (new.now ≡ old.committed) × (new.committed ≡ old.committed)) × (old.committed.schema ≡ no_schema → ⊥) × (HasPast old.committed → ⊥)
IsFoundSo g old new false =
    (HasTables old.committed → IsLaidOut new.now × IsSome old.step_limit) × (old.committed.schema ≡ no_schema → IsBlank false new) × (HasPast old.committed → new.now.schema ≡ past_schema)

-- The connection shows the book that the file held, in our tables, and it is committed. Tables that were there are as they were.
pub record IsOpened (old new : State) (b : Book) : Type 0 where
  pub over : IsOver false new
  pub same : new.now ≡ new.committed
  pub found : IsHeld old b
  pub tells : Tells (tables_in new.committed) b
  pub utf8 : AreUtf8 (tables_in new.committed)
  pub kept : (new.committed ≡ old.committed) ⊎ (old.committed.schema ≡ no_schema)

-- A stop leaves new tables, and none where ours are.
abbrev pub LeavesNew : Type 0 → Type 0 → Trees → Type 0
LeavesNew ours none db = (ours → ⊥) × (none → AreNew db)
