use Rattle.std.proofs.Common.{◌≡◌, ◌+◌, ◌++◌, ℕ, List, drop, length}
use Rattle.flow_base.specs.Keys.{Key}
use Rattle.flow_model.specs.Apply.{after, replies}
use Rattle.flow_machine.specs.Stuck.{IsStuckWithin}
use Rattle.flow_machine.specs.Fitting.{IsUnfitWithin}
use Rattle.flow_check.specs.Language.{meaning_of}
use Rattle.flow_machine.specs.Seated.{FitSeats, KeepsAlike}
use Rattle.flow_commit.specs.Boards.{AllWerePosted}
use Rattle.flow_commit.specs.Keeping.{rules, commands_of}
use Rattle.flow_commit.specs.Shutting.{AreShut}
use Rattle.flow_commit.proofs.deciding.decide_batch.Given as goal

abbrev pub invariant-loop-taken : goal.invariant-loop-taken
invariant-loop-taken g l =
    let book = g.V.View.book in
    let left = commands_of (drop l.taken-index l.batch) in
    let all = commands_of l.batch in
    let Fit : Type 0 = FitSeats meaning_of (book l.fn.view) l.fn.seats in
    record {
      told : g.V.View.is_sure l.view → Fit → l.replies.items ++ replies rules (book l.view) left ≡ replies rules (book l.fn.view) all;
      rest : g.V.View.is_sure l.view → Fit → after rules (book l.view) left ≡ after rules (book l.fn.view) all;
      fit : g.V.View.is_sure l.view → Fit → FitSeats meaning_of (book l.view) l.seats;
      since : g.V.View.is_sure l.view → Fit → (posted : List Key) → AllWerePosted posted l.fn.since (book l.fn.view) → AllWerePosted posted l.since (book l.view);
      shut : g.V.View.is_sure l.view → Fit → AreShut l.fn.closed.items (book l.fn.view) → AreShut l.closed.items (book l.view);
      alike : KeepsAlike l.fn.seats l.seats;
      counted : length l.replies.items + length (drop l.taken-index l.batch) ≡ length l.batch;
      stuck : g.V.View.is_sure l.view → Fit → IsStuckWithin rules (book l.view) left → IsStuckWithin rules (book l.fn.view) all;
      unfit : g.V.View.is_sure l.view → Fit → IsUnfitWithin g.V.View.unfit rules (book l.view) left → IsUnfitWithin g.V.View.unfit rules (book l.fn.view) all;
      goes_on : g.V.View.is_true l.view → g.V.View.is_sure l.fn.view → g.V.View.is_sure l.view;
      sure : g.V.View.is_sure l.view → g.V.View.is_sure l.fn.view;
      was_true : g.V.View.is_true l.view → g.V.View.is_true l.fn.view;
      follows : (a : g.row.V.Denot) → g.V.View.follows a l.fn.view → g.V.View.follows a l.view;
    }
