use Rattle.flow_tables.proofs.unread.ToldBook.of_lists.Goals as goal

pub returns : goal.returns
returns c = λ k. record { texts = c.of.ensures k; runs = c.of-2.ensures k }
