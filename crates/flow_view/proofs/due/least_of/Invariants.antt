use Rattle.std.proofs.Common.{◌≡◌, drop}
use Rattle.flow_model.specs.Book.{least_of}
use Rattle.flow_view.proofs.due.least_of.Given as goal

abbrev pub invariant-loop-timer : goal.invariant-loop-timer
invariant-loop-timer l = least_of l.at l.run l.fn.best l.timers ≡ least_of l.at l.run l.least (drop l.timer-index l.timers)
