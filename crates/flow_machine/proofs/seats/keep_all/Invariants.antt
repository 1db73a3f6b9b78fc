use Rattle.std.proofs.Common.{◌≡◌, ℕ, Contains, length}
use Rattle.std.specs.Vec.Iter.{into_iter_items, into_iter_len}
use Rattle.flow_cache.specs.declared.positions.Entry.{Entry}
use Rattle.flow_machine.specs.Seated.{WasThere}
use Rattle.flow_machine.specs.declared.seats.Led.{Led}
use Rattle.flow_machine.proofs.seats.keep_all.Given as goal

abbrev pub invariant-loop-led : goal.invariant-loop-led
invariant-loop-led l = record {
  counts : into_iter_len l.led-iterator ≡ length (into_iter_items l.led-iterator);
  left : (x : Led) → Contains (into_iter_items l.led-iterator) x → Contains l.fn.ahead.items x;
  there : (e : ℕ × Entry) → Contains l.kept.entries e → WasThere l.fn.kept.entries l.fn.ahead.items e;
}
