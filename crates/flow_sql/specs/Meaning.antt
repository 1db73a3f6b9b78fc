-- What a text of SQL means over our tables: a query and what its answer tells, a change and what it does.
use Rattle.flow_sql.specs.Names.{Schema, Tables, IsPlain, command_of, timed, Command, Select, Does, understood, reads_listing, Row, overlay, IsAnswer, Query, Executes, State, mode_of, text_of, Trees, Error, first, Compiled, List, Option, false, map, true, ℕ, [], Ok, Err, length, Kind}
use Rattle.std.specs.Prelude.{IsSome, ◌≡◌, ◌⊎◌}
use Rattle.sqlite.specs.State.{IsStatement}
use Rattle.sqlite_typing.specs.Types.{accepts_program}
use Rattle.flow_sql.specs.Layout.{Layout, schema_of, Read, query_of, Write, write_sql}
use Rattle.flow_sql.specs.Stored.{tables_in, tables_by, kinds_of, AreUtf8}
use Rattle.flow_sql.specs.Coming.{IsFull}
use Rattle.flow_sql.specs.States.{AreOurs, IsOver, Changes, FirstIs, IsReading}

-- over the tables of a schema the text is this command, and nothing else
pub record IsTextOver (s : Schema) (sql : List ℕ) (command : Command) : Type 0 where
  pub is : command_of (understood s sql) ≡ command
  pub plain : IsPlain (understood s sql)

-- and this query, and nothing else
pub record IsReadOver (s : Schema) (sql : List ℕ) (q : Query) (names : List (List ℕ)) : Type 0 where
  pub is : command_of (understood s sql) ≡ Select (record { lets = []; body = q }) names
  pub plain : IsPlain (understood s sql)
  pub unlisted : reads_listing s sql ≡ false
  pub reading : FirstIs IsReading (first sql)

-- over ours, in this layout
abbrev pub IsText : Layout → List ℕ → Command → Type 0
IsText l sql command = IsTextOver (schema_of l) sql command

abbrev pub IsRead : Layout → List ℕ → Query → List (List ℕ) → Type 0
IsRead l sql q names = IsReadOver (schema_of l) sql q names

---- Our texts, with what is given to them

-- how many values are given with a read, and with a change
abbrev pub read_takes : Read → ℕ
read_takes Read.all_texts = 0
read_takes Read.text_body = 1
read_takes Read.text_number = 1
read_takes Read.last_text = 0
read_takes Read.all_runs = 0
read_takes Read.runs_until = 1
read_takes Read.runs_within = 2
read_takes Read.runs_after = 1
read_takes Read.run_row = 1
read_takes Read.last_run = 0
read_takes Read.requested = 1
read_takes Read.open_run = 1
read_takes Read.open_numbers = 2
read_takes Read.all_events = 0
read_takes Read.events_until = 1
read_takes Read.events_within = 2
read_takes Read.events_after = 1
read_takes Read.run_events = 1
read_takes Read.last_event = 1
read_takes Read.event_at = 2
read_takes Read.newest_event = 1
read_takes Read.all_timers = 0
read_takes Read.all_tasks = 0
read_takes Read.timers_until = 1
read_takes Read.timers_within = 2
read_takes Read.timers_after = 1
read_takes Read.tasks_until = 1
read_takes Read.tasks_within = 2
read_takes Read.tasks_after = 1
read_takes Read.run_tasks = 1

abbrev pub write_takes : Write → ℕ
write_takes Write.insert_text = 2
write_takes Write.insert_run = 5
write_takes Write.insert_event = 5
write_takes Write.insert_events = 10
write_takes Write.insert_timer = 3
write_takes Write.insert_task = 4
write_takes Write.delete_timer = 2
write_takes Write.delete_timers = 1
write_takes Write.delete_task = 2
write_takes Write.delete_tasks = 1
write_takes Write.mark_run = 2
write_takes Write.set_text = 2

-- The database itself refuses the statement, as where a key would be broken, a row is too big or a query takes more steps than it may.
abbrev pub IsDeclined : List ℕ → Row → State → Type 0
IsDeclined sql params s =
    (stop : Option Error) × (c : Compiled) × (it : IsStatement s sql params c) × Does s.step_limit (mode_of s) (timed params c.formats it.now) s.now (text_of sql c) c.returning c.command (Err stop)

---- Questions and changes

-- A question: one of our reads, what is given with it, what a row of its answer says, and what the rows tell of the tables. The read
-- fits what is given with it, and what it answers over our tables tells this of them, in whichever layout they lie.
pub record Asks (A : Type 0) : Type 1 where
  pub read : Read
  pub params : Row
  pub said : Row → A
  pub tells : Tables → List A → Type 0
  pub takes : read_takes read ≡ length params
  pub typed : (l : Layout) → accepts_program (schema_of l) [] (query_of l read) params ≡ true
  pub found : (l : Layout) (db : Trees) → AreOurs l db → (rows : List Row) → IsAnswer (query_of l read) (overlay db []) params rows
      → tells (tables_by l db) (map said rows)

-- its rows are read so, as columns of these kinds
abbrev pub IsReadSo : {A : Type 0} → Asks A → (Row → A) → List Kind → Type 0
IsReadSo asks said kinds = (asks.said ≡ said) × (kinds_of asks.read ≡ kinds)

-- A change with what is given with it makes this of our tables.
abbrev pub Puts : Write → Row → (Tables → Type 0) → (Tables → Tables) → Type 1
Puts w params fits after = (old new : State) (count : ℕ) → IsOver true old → fits (tables_in old.now) → Executes (write_sql w) params old new (Ok count) → Changes old new (after (tables_in old.now))

-- And where it is welcome a limit alone hinders it.
abbrev pub IsTaken : Write → Row → (Tables → Type 0) → Type 1
IsTaken w params welcome = (s : State) → IsOver true s → welcome (tables_in s.now) → IsDeclined (write_sql w) params s → IsSome s.step_limit ⊎ IsFull s.now

-- It fits what is given with it, does both, and leaves texts UTF-8 that were.
pub record IsRowChange (write : Write) (params : Row) (fits welcome : Tables → Type 0) (after : Tables → Tables) : Type 1 where
  pub takes : write_takes write ≡ length params
  pub put : Puts write params fits after
  pub taken : IsTaken write params welcome
  pub utf8 : (t : Tables) → AreUtf8 t → AreUtf8 (after t)

-- A change of rows: one of our changes, what is given with it, what has to hold of the tables before, of which tables the database
-- takes it, and what they are after; and what is sure of the values that are given, by which it is so.
pub record Alters : Type 1 where
  pub write : Write
  pub params : Row
  pub fits : Tables → Type 0
  pub welcome : Tables → Type 0
  pub after : Tables → Tables
  pub sure : Type 0
  pub means : sure → IsRowChange write params fits welcome after
