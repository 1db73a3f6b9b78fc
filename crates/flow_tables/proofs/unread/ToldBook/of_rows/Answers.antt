use Rattle.flow_tables.proofs.unread.ToldBook.of_rows.Goals as goal

pub returns : goal.returns
returns c = λ k. record { texts = c.of.ensures k; runs = c.args.runs }
