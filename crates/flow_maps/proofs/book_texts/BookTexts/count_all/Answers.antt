use Rattle.flow_maps.proofs.Names.{sym}
use Rattle.flow_maps.proofs.book_texts.BookTexts.count_all.Goals as goal

pub returns : goal.returns
returns c b is h = (h.0, sym is)
