use Rattle.std.proofs.Common.{◌<◌, arith, length, ap, sym, ◌∙◌}
use Rattle.flow_cache.specs.Entries.{Kept}
use Rattle.flow_check.specs.Language.{meaning_of}
use Rattle.flow_recover.proofs.Filled.{all_reached, led_among, one_led}
use Rattle.flow_recover.proofs.filling.seats_of.Goals as goal

pub loop-i-preserved : goal.loop-i-preserved
loop-i-preserved c =
    let within : c.loop-i.i < length c.args.positions.now = omega (arith, c.loop-i-test.true, c.count_of-i-end.ensures) in (
      ap (λ (k : Kept). k.entries) c.lead.ensures.kept ∙ c.loop-i.invariant.0,
      one_led c.args.positions.now c.index-positions-i.result c.in_ok-led.led c.loop-i.seats.ahead.items c.lead.new.self.ahead.items (c.loop-i.i, within, sym c.index-positions-i.is) c.in_ok-led.ensures.led c.lead.ensures.led c.loop-i.invariant.1,
    )

pub returns-clause-reached : goal.returns-clause-reached
returns-clause-reached c b all first are =
    all_reached meaning_of b all c.loop-i.seats c.settle.new.self c.loop-i.invariant.0 (led_among c.args.positions.now all c.loop-i.seats.ahead.items first c.loop-i.invariant.1) c.settle.ensures.settled are
