use Rattle.std.proofs.Common.{rules, ◌≡◌, ◌∷◌, length}
use Rattle.std.specs.Vec.Iter.{into_iter_items, into_iter_len}
use Rattle.flow_machine.proofs.Seating.{gave_first, gave_later, one_kept}
use Rattle.flow_machine.proofs.seats.keep_all.Goals as goal

pub loop-led-preserved : goal.loop-led-preserved
loop-led-preserved c =
    let before = into_iter_items c.loop-led.led-iterator in
    let after = into_iter_items c.next.new.self in
    let led = c.in-Some.led in
    let gave : before ≡ led ∷ after = c.in-Some.ensures.steps.0 in
    let counts : into_iter_len c.next.new.self ≡ length after = search rules in
    record {
      counts = counts;
      left = λ x there. c.loop-led.invariant.left x (gave_later before after led x gave there);
      there = one_kept c.args.kept.now.entries c.args.ahead.items c.loop-led.kept c.keep.new.kept led c.loop-led.invariant.there (c.loop-led.invariant.left led (gave_first before after led gave)) c.keep.ensures;
    }
