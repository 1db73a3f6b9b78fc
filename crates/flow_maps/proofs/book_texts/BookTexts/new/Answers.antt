use Rattle.flow_maps.proofs.book_texts.BookTexts.new.Goals as goal

pub returns : goal.returns
returns c b = (c.new.ensures b, tt)
