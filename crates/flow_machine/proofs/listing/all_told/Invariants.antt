use Rattle.std.proofs.Common.{◌≡◌, ◌++◌, drop}
use Rattle.flow_machine.specs.Listed.{StuckIn, told_in}
use Rattle.flow_machine.specs.Seated.{FitSeats, KeepsAlike}
use Rattle.flow_machine.proofs.listing.all_told.Given as goal

abbrev pub invariant-loop-number : goal.invariant-loop-number
invariant-loop-number g l =
    let m = g.P.Programs.meaning in
    let old = g.V.View.book l.fn.view in
    record {
      same : g.V.View.is_sure l.view → g.V.View.book l.view ≡ old;
      told : g.V.View.is_sure l.view → FitSeats m old l.fn.seats → told_in m old l.numbers ≡ l.list.items ++ told_in m old (drop l.number-index l.numbers);
      stuck : StuckIn m old (drop l.number-index l.numbers) → StuckIn m old l.numbers;
      ahead : l.seats.ahead.items ≡ l.fn.seats.ahead.items;
      alike : KeepsAlike l.fn.seats l.seats;
      goes_on : g.V.View.is_true l.view → g.V.View.is_sure l.fn.view → g.V.View.is_sure l.view;
      sure : g.V.View.is_sure l.view → g.V.View.is_sure l.fn.view;
      was_true : g.V.View.is_true l.view → g.V.View.is_true l.fn.view;
      follows : (a : g.row.V.Denot) → g.V.View.follows a l.fn.view → g.V.View.follows a l.view;
    }
