-- The names that most proofs cite: those of specs/Names, and the definitions beside it. Declares nothing.
pub use Rattle.flow_sql.proofs.Leaves.{was_clean, rest_ended, rolled_back_ended, error_leaves}
pub use Rattle.std.proofs.lemmas.Bool.{cases_Bool}
pub use Rattle.std.proofs.lemmas.Bool.Decides.{Decides-int_eq}
pub use Rattle.flow_sql.specs.Coming.{HasRun, IsWelcomeTask, IsWelcomeEvent}
pub use Rattle.flow_rows.specs.Typed.{IsTypedChange}
pub use Rattle.flow_view.specs.Reading.{Caused}
pub use Rattle.sqlite_trees.proofs.ListLemmas.{all_weaker, all-filter, all-append}
pub use Rattle.flow_tables.specs.Faults.{IsStopped, IsHindering, Because, told_answer, view_fault, StopsWith, refusal_of, fault_of, noted_fault, ShowsOddText}
pub use Rattle.flow_tables.specs.Known.{made_turn, IsKnown, Stands, stands_what, made_event, made_events, begins, first_row, first_standing, HasOnly, ended, stands_by, tasks_gone, timers_gone, closed_from, made_effect, any_standing, tasks_known, nothing_known, IsKnownRun, IsRunFound, OfCount, OfRun, made_what}
pub use Rattle.flow_tables.specs.Names.{effect_of, Bytes, Change, AddRun, AddText, AddTurn, Run, OpenActivity, Turn, Effect, Cmd, Event, Input, Started, Came, Fault, BadVersion, Damaged, NoMemory, NotOurs, StoreRefused, Book, nth, is_open, state_of, traces, turn_events, is_other_task, marked, marked_row, with_event, with_run, with_text, with_timer, without_tasks, without_timers, first_damage, first, is_run_at, last_number, number_of_run, number_of_text, by_run, event_row, of_run, open_number, run_row, task_row, timer_row, timers_left, run_rows, FitsTables, IsReadable, IsReadableTurn, StartsNone, Tells, after_change, after_effect, after_turn, book_in, new_run, shown_book, StoreRows, Write, format_sql, no_schema, Layout, Fresh, schema_of, IsLaidOut, LieAs, tables_by, write_sql, last, Tables, events_of, tasks_of, timers_of, OutboxRow, RunRow, survives_weaker, Database, Held, state, Row, Executes, HasCleanDisk, State, Survives, Error, Int, Words, Ghosts, column, ints, AllByRecursion, int_eq, Bool, IfErr, IsTrue, List, MatchResult, Option, codes, false, filter, int_lt, map, pos, true, ℕ, AreNew, Changes, HasBegun, HasCommitted, HasEnded, HasTables, Holds, IsAtRest, IsOver, IsRefusal, IsRefused, IsStill, IsUndone, no_tables, number_at, tables_in, Refusal, StoreFault, RowFacts, KnownRun, OpenTasks, RowStanding, ViewFault, SqliteFailure, Err, IfOk, None, Ok, OnOk, Some, length, option_map, reverse, ℤ, [], refl, Result, CommitsBy, OutOfMemory, suc, Asked, eqb, negsuc, QueriesRow, AreOurs, IsSome, FailsToQuery, drop, zero, no_book, changed, FirstIs, Read, read_sql, with_task, without_task, without_timer, Kind, KeepsUtf8, slice_get}
pub use Rattle.flow_tables.specs.Names.{list_any, AreUtf8, IsCommandWithinLimits, IsWithinLimits, TimerRow, head_of, Trees, Value, Shows, IsUnchanged, IsRolledBack, EventRow, What, Maps, IsSound, event_id, task_id, timer_id, request_text, value_cmp, rowid, is_int, TextRow, Head, MoreFaults, HasOddText}
pub use Rattle.flow_tables.specs.Owned.{book_of, Follows, is_sure, IsOurs, IsCurrent, IsHeld, IsShowing, IsOwn, Keeps, book_now, TellBook, IsAware, HasCounted, IsBelowOne, as_number, as_count, IsFound, LeavesMade, IsFileOf, IsSure, KeepsOn, WasUp, ReadsBook, IsNoted, StopsRead, kept_book, IsUp, ShowsBook}
pub use Rattle.flow_tables.specs.Puts.{OrCut, WasPut, IsCutShort, IsUnfit, IsUnfitTurn, counted, mark_of, AreUnfit, IsUnfitInput, texts_counted, runs_counted, events_counted, mark_found, AreWithin, IsWithin, HasRoom, IsNext, AreBelow, IsUnwelcome}
pub use Rattle.std.proofs.Common.{subst, ◌∙◌, sym, ap, inl, inr, arith, rules, true≢false, lt-ltb}
