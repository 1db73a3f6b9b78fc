use Rattle.std.specs.Prelude.{◌≡◌}
use Rattle.flow_maps.proofs.Names.{length, Run, with_turn, AreCalls}
use Rattle.flow_maps.proofs.calls.calls_behind.Given as goal

abbrev pub invariant-loop-place : goal.invariant-loop-place
invariant-loop-place l = (r : Run) → length r.history ≡ l.count → AreCalls l.fn.calls.items r.history → AreCalls l.calls.items (with_turn l.turn r).history
