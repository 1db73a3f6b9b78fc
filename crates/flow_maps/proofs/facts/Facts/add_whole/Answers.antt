use Rattle.flow_maps.proofs.Names.{refl, sym}
use Rattle.flow_maps.proofs.facts.Facts.add_whole.Goals as goal

pub returns : goal.returns
returns c is b h =
    let r = c.args.whole.now in
    let number = c.in-Some.ensures b h.runs in
    record {
      runs = c.add.ensures is b r number refl c.in-Some-seat_of.ensures h.runs;
      signals = c.add_run.ensures c.if-not-add_run.false b r number refl (sym c.as_slice.ensures) h.signals;
    }
