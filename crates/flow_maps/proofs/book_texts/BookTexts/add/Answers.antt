use Rattle.std.specs.Prelude.{◌+◌}
use Rattle.flow_maps.proofs.Names.{length, AddText, changed}
use Rattle.flow_maps.proofs.Staying.{count_next, next_there, texts_stay}
use Rattle.flow_maps.proofs.book_texts.BookTexts.add.Goals as goal

pub returns : goal.returns
returns c b h =
    let change = AddText c.args.body.now in
    let next = c.next_text-next.ensures (length b.texts) h.1 in (
      c.keep_next.ensures (changed b change) (next_there b c.args.body.now c.next_text-next.result next) (texts_stay c.args.self.now.bodies b change h.0),
      count_next b c.args.body.now c.count_of-count.result (c.count_of-count.ensures (length b.texts + 1) next),
    )
