use Rattle.flow_tables.proofs.unread.ToldBook.none.Goals as goal

pub returns : goal.returns
returns c = λ k. record { texts = c.of.ensures k; runs = c.no_runs.ensures k }
