-- The names of std, of the store and of rows that most definitions and lemmas on tables cite, passed on from one place.
-- Declares nothing.
pub use Rattle.flow_rows.specs.Changes.{at_run, event_id, put_all_by, put_by, rising, task_id, timer_id}
pub use Rattle.flow_rows.specs.Finding.{last}
pub use Rattle.flow_rows.specs.Rows.{Tables, events_of, tasks_of, timers_of}
pub use Rattle.flow_rows.specs.declared.rows.EventRow.{EventRow}
pub use Rattle.flow_rows.specs.declared.rows.OutboxRow.{OutboxRow}
pub use Rattle.flow_rows.specs.declared.rows.RunRow.{RunRow}
pub use Rattle.flow_rows.specs.declared.rows.TextRow.{TextRow}
pub use Rattle.flow_rows.specs.declared.rows.TimerRow.{TimerRow}
pub use Rattle.sqlite.proofs.Callers.{IsPlain, command_of, one_permutation, runs_as, statement_of, first_as, one_step, reads_as}
pub use Rattle.sqlite.proofs.StateLemmas.{survives_weaker}
pub use Rattle.sqlite.specs.Cast.{cast}
pub use Rattle.sqlite.specs.Clock.{timed}
pub use Rattle.sqlite.specs.Collation.TheVariants.{Binary}
pub use Rattle.sqlite.specs.Command.{Command}
pub use Rattle.sqlite.specs.Command.TheVariants.{Begin, Commit, Delete, Insert, Rollback, Select, Update, Nothing, CreateTable, Release, RollbackTo, Rows, Savepoint}
pub use Rattle.sqlite.specs.Does.{AtPlace, Does, OnRows, Tally, Concludes, MakesSequence, MakesTable, WritesRows, lacks_sequence}
pub use Rattle.sqlite.specs.Edit.{Applies, edit_of, edited, next_rowid, Edit, id_in, taken_by, without_all}
pub use Rattle.sqlite.specs.Effect.{Database, RefusesToRead, edit_error, value_rows}
pub use Rattle.sqlite.specs.Held.{Held, state}
pub use Rattle.sqlite.specs.Kind.{Kind}
pub use Rattle.sqlite.specs.Kind.TheVariants.{Integer, Text}
pub use Rattle.sqlite.specs.Listing.{understood, reads_listing}
pub use Rattle.sqlite.specs.Ops.{is_true}
pub use Rattle.sqlite.specs.Order.{Row, value_cmp}
pub use Rattle.sqlite.specs.Program.{overlay}
pub use Rattle.sqlite.specs.Query.{IsAnswer, Output, Query, end, inner, output, output_cmp}
pub use Rattle.sqlite.specs.Rowids.TheVariants.{Chosen, Given}
pub use Rattle.sqlite.specs.Rows.{Task, Written, Edited, Gives, Inserts, Outcome, Part, Queried, Then}
pub use Rattle.sqlite.specs.Schema.{Schema}
pub use Rattle.sqlite.specs.Source.TheVariants.{Values}
pub use Rattle.sqlite.specs.State.{Executes, HasCleanDisk, IsRolledBack, IsUnchanged, Runs, RunsCommand, Shows, State, Survives, Writes, mode_of, shows_rows, text_of, Fails, IsMisplaced, IsStatement, Shown}
pub use Rattle.sqlite.specs.Table.{Table}
pub use Rattle.sqlite.specs.Term.{Term, col, lit}
pub use Rattle.sqlite.specs.Tree.{IsAscending, IsTable, Trees, has_rowid, put_row, rowid, without_rowid, with_tree}
pub use Rattle.sqlite.specs.View.{is_int}
pub use Rattle.sqlite.specs.declared.error.Error.{Error}
pub use Rattle.sqlite.specs.declared.types.Value.{Value}
pub use Rattle.sqlite.specs.declared.types.Value.TheVariants.{Int, Null, Text as Words}
pub use Rattle.sqlite_ast.specs.declared.Statement.{Statement}
pub use Rattle.sqlite_catalog.specs.Change.{created}
pub use Rattle.sqlite_catalog.specs.Listing.{IsSound}
pub use Rattle.sqlite_keyed.proofs.SortLemmas.{sorted_unique}
pub use Rattle.sqlite_resolve.specs.Compile.{first}
pub use Rattle.sqlite_resolve.specs.Lowering.{Checked}
pub use Rattle.sqlite_resolve.specs.declared.compiled.Compiled.{Compiled}
pub use Rattle.sqlite_resolve.specs.declared.error.CompileError.{CompileError}
pub use Rattle.sqlite_resolve.specs.declared.error.CompileError.TheVariants.{NoSuchTable}
pub use Rattle.sqlite_rules.specs.Calls.{ids_of}
pub use Rattle.sqlite_schema.specs.declared.command.Returning.{Returning}
pub use Rattle.sqlite_schema.specs.declared.schema.Column.{Column}
pub use Rattle.sqlite_schema.specs.declared.schema.Keys.TheVariants.{Enforced}
pub use Rattle.sqlite_sql.specs.declared.ops.BinaryOp.TheVariants.{Compare}
pub use Rattle.sqlite_sql.specs.declared.ops.CompareOp.TheVariants.{Eq}
pub use Rattle.sqlite_syntax.specs.declared.statement.Parsed.{Parsed}
pub use Rattle.sqlite_trees.proofs.ListLemmas.{IsPermutation-filter, all-filter, all-permutation, all_both, all_of, all_weaker, ascending-filter, ascending-map, ascending_weaker, filter_all, filter_none, filter_same, map-map}
pub use Rattle.sqlite_trees.specs.declared.store.Store.{Ghosts}
pub use Rattle.sqlite_value.proofs.OrderLemmas.{value_cmp-Int, value_cmp-Text, value_cmp_total}
pub use Rattle.sqlite_value.specs.Keys.{plain}
pub use Rattle.sqlite_value.specs.Order.{bytes, column}
pub use Rattle.sqlite_value.specs.declared.keys.Key.{Key}
pub use Rattle.std.proofs.lemmas.Bool.{cases_Bool, and_left, and_parts, and_right, cases_eq, cases_lt, eqb-true, false_from_ne_true, ltb-true, not-true, or_cases, or_left, or_parts, or_right}
pub use Rattle.std.proofs.lemmas.Bool.Decides.{Decides-int_eq}
pub use Rattle.std.proofs.lemmas.Cmp.{int_cmp_total, alike_right, int_ranked, on_total, tied_itself}
pub use Rattle.std.proofs.lemmas.Int.{ints}
pub use Rattle.std.proofs.lemmas.List.{map-append, map-id, get_or_past, length-append, reverse-append, reverse-reverse}
pub use Rattle.std.proofs.lemmas.List.Sorted.{IsPermutation-map, IsPermutation-refl, IsPermutation-sym, IsPermutation-trans, IsPermutation-append_right, IsPermutation-cons, IsPermutation-middle, IsPermutation-reverse, length_permutation, list_any-IsPermutation}
pub use Rattle.std.specs.List.{AllByRecursion, list_any, list_all}
pub use Rattle.std.specs.List.Sorted.{IsPermutation}
pub use Rattle.std.specs.Ordering.{int_cmp, int_eq, is_eq, is_gt, on, ordering_reverse, ordering_then}
pub use Rattle.std.specs.Prelude.{Bool, IfErr, IsTrue, List, MatchResult, Option, codes, false, filter, int_lt, map, pos, slice_get, true, ℕ, [], ◌≡◌, ◌∷◌, refl, Ok, ℤ, None, Err, Result, ⊤, ◌⊎◌, ◌++◌, length, if◌then◌else◌, Some, not, ◌≢◌, ◌&&◌, ◌==◌, ◌+◌, ◌||◌, take, reverse, ◌<ℤ◌, ◌≤◌}
pub use Rattle.std.specs.declared.cmp.Ordering.{Ordering}
pub use Rattle.std.specs.declared.cmp.Ordering.TheVariants.{Equal, Greater, Less}
