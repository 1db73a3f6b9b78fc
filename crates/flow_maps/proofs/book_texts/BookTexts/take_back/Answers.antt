use Rattle.flow_maps.proofs.Names.{length}
use Rattle.flow_maps.proofs.Staying.{count_last}
use Rattle.flow_maps.proofs.book_texts.BookTexts.take_back.Goals as goal

pub returns : goal.returns
returns c b t h = (c.take_back.ensures b t h.0, c.one_less-fewer.ensures (length b.texts) (count_last b t c.args.self.now.count h.1))
