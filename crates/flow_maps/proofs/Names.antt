-- The names that most proofs cite. Declares nothing.
pub use Rattle.flow_base.specs.Effects.{effect_of_command, effect_of_input, state_by}
pub use Rattle.flow_base.specs.Syntax.{Bytes}
pub use Rattle.flow_base.specs.declared.book.Change.{Change}
pub use Rattle.flow_base.specs.declared.book.Change.TheVariants.{AddRun, AddText, AddTurn, SetAttempt, SetText}
pub use Rattle.flow_base.specs.declared.book.Due.{Due}
pub use Rattle.flow_base.specs.declared.book.OpenActivity.{OpenActivity}
pub use Rattle.flow_base.specs.declared.book.Run.{Run}
pub use Rattle.flow_base.specs.declared.book.Timer.{Timer}
pub use Rattle.flow_base.specs.declared.book.Turn.{Turn}
pub use Rattle.flow_base.specs.declared.effect.Effect.{Effect}
pub use Rattle.flow_base.specs.declared.effect.Effect.TheVariants.{Begins, Closes, EndsActivity, EndsTimer, Nothing, OpensActivity, OpensTimer}
pub use Rattle.flow_base.specs.declared.event.Cmd.{Cmd}
pub use Rattle.flow_base.specs.declared.event.Event.{Event}
pub use Rattle.flow_base.specs.declared.event.State.{State}
pub use Rattle.flow_base.specs.declared.event.What.{What}
pub use Rattle.flow_base.specs.declared.event.What.TheVariants.{Asked, Came}
pub use Rattle.flow_maps.specs.Agenda.{events_behind, is_open_run, tasks_at, tasks_behind, tasks_of, timers_behind}
pub use Rattle.flow_maps.specs.Calendars.{HasSlots, IsNext, Slot, date_of_task, date_of_timer, due_of, has_slot, is_slot, part_within, slot, slot_cmp}
pub use Rattle.flow_maps.specs.Gathering.{listed_with, outlook_from}
pub use Rattle.flow_maps.specs.Keys.{IsFound, IsIndex, is_key, key_if, name_of, open_key, request_key}
pub use Rattle.flow_maps.specs.KnownTexts.{IsText, IsTextCount, KnowsBodies, KnowsTexts}
pub use Rattle.flow_maps.specs.Names.{at_name, both, is_name}
pub use Rattle.flow_maps.specs.OfRuns.{is_run, replaced}
pub use Rattle.flow_maps.specs.Outlooks.{Waiting, due_after, first_timer, is_by, is_within, moment_of, outlook_of, ready_of, ready_within, sooner, soonest, waiting, waiting_from, waiting_in, with_next, with_ready}
pub use Rattle.flow_maps.specs.Seats.{AreCalls, IsSeat, IsSeated, Knows, KnowsOpen, KnowsRuns, head_behind, made_of, seat_tasks}
pub use Rattle.flow_maps.specs.Serving.{KnowsFacts, Serves}
pub use Rattle.flow_maps.specs.Signals.{AreOf, IsTaken, IsUntaken, asked_by, at_request, or_later, signal_of, with_history}
pub use Rattle.flow_maps.specs.Timers.{of_run, timers_at, timers_of}
pub use Rattle.flow_maps.specs.Turned.{is_open_after, is_open_behind, is_open_by}
pub use Rattle.flow_maps.specs.Undoing.{GoesBack, IsUndo, Leads, LeadsBack, Returns, WasBefore, WasBegun}
pub use Rattle.flow_maps.specs.declared.book_texts.BookTexts.{BookTexts}
pub use Rattle.flow_maps.specs.declared.facts.Facts.{Facts}
pub use Rattle.flow_maps.specs.declared.facts.KnownRuns.{KnownRuns}
pub use Rattle.flow_maps.specs.declared.gathering.WaitingList.{WaitingList}
pub use Rattle.flow_maps.specs.declared.index.Index.{Index}
pub use Rattle.flow_maps.specs.declared.maps.Maps.{Maps}
pub use Rattle.flow_maps.specs.declared.open_seats.OpenSeats.{OpenSeats}
pub use Rattle.flow_maps.specs.declared.outlook.BookWaits.{BookWaits}
pub use Rattle.flow_maps.specs.declared.seat.Seat.{Seat}
pub use Rattle.flow_maps.specs.declared.signals.SignalEvents.{SignalEvents}
pub use Rattle.flow_maps.specs.declared.texts.TextBodies.{TextBodies}
pub use Rattle.flow_maps.specs.declared.undo.Journal.{Journal}
pub use Rattle.flow_maps.specs.declared.undo.RunBefore.{RunBefore}
pub use Rattle.flow_maps.specs.declared.undo.Undo.{Undo}
pub use Rattle.flow_model.proofs.DueFirst.{Before, Has, InRuns, IsLeast, runs_least, the_least}
pub use Rattle.flow_model.proofs.Logs.{nth_at}
pub use Rattle.flow_model.specs.Book.{Book, at_attempt, changed, first_from, found_in, is_from, is_open_of, is_run_of, is_signal_of, least_due, least_from, least_of, nth, open_run, requested, signal_in, signalled, signalled_from, unbegun_run, with_attempt, with_run, with_text, with_turn}
pub use Rattle.flow_model.specs.Configuration.{is_open}
pub use Rattle.flow_model.specs.Open.{moment_after, open_timers, state_after, state_after_one, state_of, tasks_after, timers_after, timers_after_one, timers_left}
pub use Rattle.flow_model.specs.Turned.{traces, turn_events}
pub use Rattle.flow_view.specs.Heads.{event_at, event_if, event_of, head_at, head_if, head_of}
pub use Rattle.flow_view.specs.declared.head.Head.{Head}
pub use Rattle.std.proofs.Common.{Bool, Equal, Global, Greater, Less, List, None, Option, Ordering, Some, Vec, [], ap, append-nil, append_assoc, arith, bytes_eq, cond, drop, drop-cons, false, filter, get_or, inl, inr, is_some, length, length-append, map, nat_eq, not, option_map, refl, rules, slice_get, slice_set, subst, suc, sym, take, true, true≢false, vec_len, zero, ℕ, ◌∙◌}
pub use Rattle.std.proofs.Math.Seq.{drop-append_seam, take-append_seam}
pub use Rattle.std.proofs.lemmas.Bool.{cases_Bool, le-ltb, leb-false, leb-true, lt-ltb, ltb-false, ltb-true}
pub use Rattle.std.proofs.lemmas.Cmp.{nat_cmp_total, ranked, tied_itself}
pub use Rattle.std.proofs.lemmas.List.{nil_from_length, take_more}
pub use Rattle.std.proofs.lemmas.Map.Entries.{length-keys_of}
pub use Rattle.std.proofs.lemmas.Map.Made.{is_some-lookup}
pub use Rattle.std.proofs.lemmas.Map.Text.{is_eq-slice_cmp}
pub use Rattle.std.proofs.lemmas.Slice.Eq.{bytes_eq-Decides}
pub use Rattle.std.specs.BTreeMap.{BTreeMap, IsUpperBound, UpdatesBy, get, keys}
pub use Rattle.std.specs.BTreeMap.Range.{IsLeBy, range_contains}
pub use Rattle.std.specs.BTreeSet.{BTreeSet, IsKeyInRange, IsKeyRangeOf, btree_set_len, contains}
pub use Rattle.std.specs.Cmp.{nat_cmp_is}
pub use Rattle.std.specs.Cmp.Lexicographic.{slice_cmp}
pub use Rattle.std.specs.List.{AllByRecursion, list_any}
pub use Rattle.std.specs.List.Sorted.{IsStrictlySortedBy}
pub use Rattle.std.specs.Map.{update}
pub use Rattle.std.specs.Ordering.{is_eq, is_gt, is_le, is_lt, nat_cmp, ordering_then}
pub use Rattle.std.specs.Prelude.{IfSome, MatchOption, nat_le, nat_lt}
pub use Rattle.std.specs.declared.ops.Bound.TheVariants.{Excluded, Included, Unbounded}
