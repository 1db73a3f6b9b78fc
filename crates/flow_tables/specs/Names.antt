-- The names of std, of the store, of the book and of its rows that most definitions and lemmas cite, passed on from one
-- place. Declares nothing.
pub use Rattle.flow_base.specs.Effects.{effect_of}
pub use Rattle.flow_base.specs.Syntax.{Bytes}
pub use Rattle.flow_base.specs.declared.book.Change.{Change}
pub use Rattle.flow_base.specs.declared.book.Change.TheVariants.{AddRun, AddText, AddTurn, SetAttempt, SetText}
pub use Rattle.flow_base.specs.declared.book.Run.{Run}
pub use Rattle.flow_base.specs.declared.book.OpenActivity.{OpenActivity}
pub use Rattle.flow_base.specs.declared.book.Turn.{Turn}
pub use Rattle.flow_base.specs.declared.effect.Effect.{Effect}
pub use Rattle.flow_base.specs.declared.event.Cmd.{Cmd}
pub use Rattle.flow_base.specs.declared.event.Event.{Event}
pub use Rattle.flow_base.specs.declared.event.Input.{Input}
pub use Rattle.flow_base.specs.declared.event.Input.TheVariants.{Started}
pub use Rattle.flow_base.specs.declared.event.What.TheVariants.{Came, Asked}
pub use Rattle.flow_base.specs.declared.fault.Fault.{Fault}
pub use Rattle.flow_base.specs.declared.fault.Fault.TheVariants.{BadVersion, Damaged, NoMemory, NotOurs, StoreRefused}
pub use Rattle.flow_model.specs.Book.{Book, nth, no_book, changed}
pub use Rattle.flow_model.specs.Configuration.{is_open}
pub use Rattle.flow_model.specs.Open.{state_of}
pub use Rattle.flow_model.specs.Turned.{traces, turn_events}
pub use Rattle.flow_rows.specs.Changes.{is_other_task, marked, marked_row, with_event, with_run, with_text, with_timer, without_tasks, without_timers, with_task, without_task, without_timer, under_text, with_task_in_place}
pub use Rattle.flow_rows.specs.Damages.{first_damage}
pub use Rattle.flow_rows.specs.Finding.{first, is_run_at, last_number, number_of_run, number_of_text}
pub use Rattle.flow_rows.specs.Rows.{by_run, event_row, of_run, open_number, run_row, run_rows, task_row, timer_row, timers_left, request_text}
pub use Rattle.flow_rows.specs.Told.{FitsTables, IsReadable, IsReadableTurn, StartsNone, Tells, after_change, after_effect, after_turn, book_in, new_run}
pub use Rattle.flow_tables.specs.Unread.{shown_book}
pub use Rattle.flow_rows.specs.declared.rows.StoreRows.{StoreRows}
pub use Rattle.flow_sql.specs.Layout.{Layout, Fresh, Write, format_sql, no_schema, schema_of, write_sql, Read, read_sql}
pub use Rattle.flow_sql.specs.Names.{event_id, last, Tables, events_of, tasks_of, timers_of, OutboxRow, RunRow, survives_weaker, Database, Held, state, Kind, Row, Executes, HasCleanDisk, State, Survives, Error, Int, Words, Ghosts, column, ints, AllByRecursion, int_eq, Bool, IfErr, IsTrue, List, MatchResult, Option, codes, false, filter, int_lt, map, pos, true, ℕ}
pub use Rattle.flow_sql.specs.Names.{TimerRow, Trees, Value, Shows, IsUnchanged, IsRolledBack, EventRow, IsSound, task_id, timer_id, value_cmp, rowid, is_int, TextRow}
pub use Rattle.flow_sql.specs.States.{AreNew, IsLaidOut, LieAs, HasBegun, HasCommitted, HasEnded, HasTables, Holds, IsAtRest, IsBlank, IsOver, IsRefusal, IsRefused, IsStill, IsUndone, RunsTo, no_tables, AreOurs, FirstIs, HasGoneBack}
pub use Rattle.flow_sql.specs.Stored.{number_at, tables_by, tables_in, AreUtf8, HasOddText}
pub use Rattle.std.specs.List.{list_any}
pub use Rattle.flow_events.specs.Row.{IsCommandWithinLimits, IsWithinLimits}
pub use Rattle.flow_view.specs.Heads.{head_of}
pub use Rattle.flow_base.specs.declared.event.What.{What}
pub use Rattle.flow_maps.specs.declared.maps.Maps.{Maps}
pub use Rattle.flow_view.specs.declared.head.Head.{Head}
pub use Rattle.sqlite_disk.specs.Disk.{MoreFaults}
pub use Rattle.flow_tables.specs.Changed.{Changes, KeepsUtf8}
pub use Rattle.flow_tables.specs.declared.fault.Refusal.{Refusal}
pub use Rattle.flow_tables.specs.declared.fault.StoreFault.{StoreFault}
pub use Rattle.flow_tables.specs.declared.known.RowFacts.{RowFacts}
pub use Rattle.flow_tables.specs.declared.known.KnownRun.{KnownRun}
pub use Rattle.flow_tables.specs.declared.known.OpenTasks.{OpenTasks}
pub use Rattle.flow_tables.specs.declared.known.RowStanding.{RowStanding}
pub use Rattle.flow_view.specs.declared.fault.ViewFault.{ViewFault}
pub use Rattle.sqlite.specs.Reading.{IsReadError}
pub use Rattle.sqlite.specs.State.{CommitsBy, Shown, QueriesRow, FailsToQuery}
pub use Rattle.sqlite.specs.declared.error.Error.TheVariants.{QueryReturnedNoRows, SqliteFailure}
pub use Rattle.sqlite.specs.declared.error.ErrorCode.TheVariants.{OutOfMemory}
pub use Rattle.std.specs.Prelude.{Err, IfOk, IfSome, None, Ok, OnOk, Some, length, option_map, reverse, slice_get, ℤ, ◌≡◌, [], ◌∷◌, refl, ◌⊎◌, Result, ◌+◌, ◌≢◌, ◌≤◌, ◌^◌, if◌then◌else◌, ◌<◌, suc, eqb, negsuc, IsSome, drop, ⊤, zero, ◌↔◌, ◌++◌, ◌<ℤ◌}
