use Rattle.std.proofs.Common.{◌≡◌, take, map}
use Rattle.flow_base.specs.declared.book.Timer.{Timer}
use Rattle.flow_machine.proofs.describe.timer_events.Given as goal

abbrev pub invariant-loop-timer : goal.invariant-loop-timer
invariant-loop-timer l = l.list.items ≡ map (λ (t : Timer). t.id) (take l.timer-index l.timers)
