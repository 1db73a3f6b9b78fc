use Rattle.flow_maps.proofs.book_texts.BookTexts.forget.Goals as goal

pub returns : goal.returns
returns c b = (c.forget.ensures b, tt)
