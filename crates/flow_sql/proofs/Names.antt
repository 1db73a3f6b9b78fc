-- The names that most proofs cite, of specs/Names, of the definitions beside it and of the kit, passed on from one place. Declares nothing.
pub use Rattle.flow_sql.specs.Layout.{Layout, Fresh, Moved, schema_of, layout_of, place_of_events, tree_of_events, past, text_table, run_table, event_table, timer_table, task_table, Write, write_sql, run, text, Read, rows_where, of_runs, format_sql, no_schema, format_query, equal_to, query_of, first_where, upward, downward, read_sql, meta_sql, text_sql, run_sql, event_sql, timer_sql, outbox_sql, set_format_sql, meta, event, timer, outbox}
pub use Rattle.flow_sql.specs.Meaning.{IsText, IsTextOver, IsRowChange, IsRead, IsReadOver, write_takes, IsDeclined, IsTaken, Puts, read_takes}
pub use Rattle.flow_sql.specs.Names.{at_run, event_id, put_all_by, put_by, rising, task_id, timer_id, last, Tables, events_of, tasks_of, timers_of, EventRow, OutboxRow, RunRow, TextRow, TimerRow, IsPlain, command_of, one_permutation, runs_as, statement_of, survives_weaker, cast, timed, Binary, Command, Begin, Commit, Delete, Insert, Rollback, Select, Update, AtPlace, Does, OnRows, Tally, Applies, edit_of, edited, next_rowid, Database, Held, state, Kind, Integer, Text, is_true, Row, overlay, IsAnswer, Output, Query, end, inner, output, output_cmp, Chosen, Given, Task, Written, Schema, Values, Executes, HasCleanDisk, IsRolledBack, IsUnchanged, Runs, RunsCommand, Shows, State, Survives, Writes, mode_of, shows_rows, text_of, Table, Term, col, lit, IsAscending, IsTable, Trees, has_rowid, put_row, rowid, without_rowid, is_int, Error, Value, Int, Null, Words, Statement, IsSound, sorted_unique, first, Checked, Compiled, CompileError, NoSuchTable, ids_of, Returning, Column, Enforced, Compare, Eq, Parsed, IsPermutation-filter, all-filter, all-permutation, all_both, all_of, all_weaker, ascending-filter, ascending-map, ascending_weaker, filter_all, filter_none, filter_same, map-map, Ghosts, value_cmp-Int, plain, bytes, column, Key, cases_Bool, Decides-int_eq, int_cmp_total, ints, map-append, map-id, IsPermutation-map, IsPermutation-refl, IsPermutation-sym, IsPermutation-trans, AllByRecursion, list_any, IsPermutation, int_cmp, int_eq, is_eq, is_gt, Bool, IfErr, IsTrue, List, MatchResult, Option, codes, false, filter, int_lt, map, pos, slice_get, true, ℕ, Ordering, Equal, Greater, Less, [], refl, Ok, ℤ, None, Err, Result, ⊤, length, Some, not, value_cmp, understood, reads_listing, Fails, take, reverse, Nothing, IsMisplaced}
pub use Rattle.flow_sql.specs.Names.{Concludes, CreateTable, Edit, Edited, Gives, Inserts, IsPermutation-append_right, IsPermutation-cons, IsPermutation-middle, IsPermutation-reverse, IsStatement, MakesSequence, MakesTable, Outcome, Part, Queried, RefusesToRead, Release, RollbackTo, Rows, Savepoint, Shown, Then, WritesRows, alike_right, and_left, and_parts, and_right, cases_eq, cases_lt, edit_error, eqb-true, false_from_ne_true, first_as, get_or_past, id_in, int_ranked, lacks_sequence, length-append, length_permutation, list_all, list_any-IsPermutation, ltb-true, not-true, on, on_total, one_step, or_cases, or_left, or_right, ordering_reverse, ordering_then, reads_as, reverse-append, reverse-reverse, taken_by, tied_itself, value_cmp-Text, value_cmp_total, value_rows, with_tree, without_all}
pub use Rattle.flow_sql.specs.States.{IsOver, AreNumbered, HasTables, AreLaid, AreOurs, IsLaidOut, LieAs, RunsTo, Changes, HasEnded, IsStill, GoesOn, IsMaking, FirstIs, IsAtRest, IsBlank, IsUndone, IsRefused, HasBegun, HasCommitted, AreNew, CommitsNothing, HasEmpty, HasMade, Holds, IsReading, IsRefusal, RanThree, Since, StoppedOfThree, IsStoreError, TellsFailure, half_schema}
pub use Rattle.flow_sql.specs.Stored.{tables_in, tables_by, timer_in, task_in, run_in, event_in, number_at, text_in, number_of, format_row, number_said, text_said, text_row_said, run_row_said, event_row_said, task_row_said, timer_row_said, IsReadAs, AreReadAs, AreUtf8, kinds_of}
pub use Rattle.sqlite_tied.proofs.RuleLemmas.{and_true}
pub use Rattle.sqlite_rules.proofs.TableLemmas.{int_is}
pub use Rattle.std.proofs.Common.{sym, ap, ◌∙◌, subst, inl, inr, arith, true≢false, append-nil, OnOk, append_assoc, bytes_eq, cond, drop, eq-eqb, flat_map, fold, nat_cmp, ne_eqb, subst₂, suc, zero, ◌+ℤ◌, ◌/◌, ◌≡◌}
pub use Rattle.flow_sql.specs.Coming.{AreShortRuns, HasNoNumber, HasRun, HasText, IsFull, IsFullBy, IsNewOf, IsNewRun, IsNewText, IsShort, IsWelcomeEvent, IsWelcomeRun, IsWelcomeTask, IsWelcomeText, IsWelcomeTimer}
pub use Rattle.sqlite.specs.Calls.{IsWrite}
pub use Rattle.sqlite.specs.declared.error.Error.TheVariants.{SqlInputError, SqliteFailure}
pub use Rattle.sqlite.specs.declared.error.ErrorCode.TheVariants.{OutOfMemory}
pub use Rattle.sqlite.specs.declared.run.Mode.{Mode}
pub use Rattle.sqlite_disk.specs.Disk.{MoreFaults}
pub use Rattle.sqlite_exec.proofs.PartitionLemmas.{ascending_from_sorted, sorted_from_ascending}
pub use Rattle.sqlite_rules.proofs.ListLemmas.{all_from, all_has, has_filtered, has_got, has_kept, some_from, some_has, test_from, test_has}
pub use Rattle.sqlite_rules.proofs.ProbeLemmas.{has_mapped, mapped_has}
pub use Rattle.sqlite_rules.specs.Action.{Leads, works}
pub use Rattle.sqlite_rules.specs.Edit.{IsOversized, IsRefused as RefusesEdit, are_fresh, have_rowids, is_referred, left_by, put_all, row_at}
pub use Rattle.sqlite_rules.specs.Keys.{are_unique}
pub use Rattle.sqlite_rules.specs.Lists.{Has}
pub use Rattle.sqlite_rules.specs.Steps.{PassAlone}
pub use Rattle.sqlite_schema.specs.Names.{index_named, is_key, table_named, view_named}
pub use Rattle.sqlite_schema.specs.Rules.{Keeps, Refers, agree, are_present, are_typed, clashes, differ, guards, has_computed, has_null, has_parent, index_reals, is_held, is_of, parent_key, passes, passes_checks, references_fit, suits, table_reals}
pub use Rattle.sqlite_schema.specs.declared.program.Program.{Program}
pub use Rattle.sqlite_schema.specs.declared.schema.Among.TheVariants.{All}
pub use Rattle.sqlite_schema.specs.declared.schema.Constraint.{Constraint}
pub use Rattle.sqlite_schema.specs.declared.schema.Constraint.TheVariants.{Check, Datatype, ForeignKey, NotNull, PrimaryKey, Unique}
pub use Rattle.sqlite_schema.specs.declared.schema.Index.{Index}
pub use Rattle.sqlite_schema.specs.declared.schema.Reference.{Reference}
pub use Rattle.sqlite_sql.specs.Catalog.{entry_of}
pub use Rattle.sqlite_sql.specs.Ops.{fits_i64}
pub use Rattle.sqlite_sql.specs.Program.{ProgramOverflows, QueryOverflows}
pub use Rattle.sqlite_trees.specs.View.{IsStorable, IsStorableRow}
pub use Rattle.sqlite_typing.specs.Types.{accepts_program, accepts_terms}
pub use Rattle.sqlite_value.proofs.KeyLemmas.{first_key-plain}
pub use Rattle.std.proofs.lemmas.List.Elements.{All-from_recursion, filter-append}
pub use Rattle.std.specs.Prelude.{Any, IsAscii, IsSome, IsUtf8, if◌then◌else◌, ltb, nat_lt, negsuc, option_map, sum_by, ◌&&◌, ◌*◌, ◌++◌, ◌+◌, ◌<ℤ◌, ◌<◌, ◌==◌, ◌^◌, ◌||◌, ◌∷◌, ◌≢◌, ◌≤◌, ◌⊎◌}
pub use Rattle.flow_rows.specs.Changes.{in_its_place, marked, marked_row, row_under_text, under_text, with_event, with_run, with_task, with_task_in_place, with_text, with_timer, without_task, without_tasks, without_timer, without_timers}
pub use Rattle.sqlite_trees.proofs.ListLemmas.{all-append, all-map, all-slice_get, all_from_map, ascending-append, filter-filter, filter-map}
