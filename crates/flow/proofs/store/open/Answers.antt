use Rattle.flow.proofs.store.open.Goals as goal

pub returns-in-Ok-clause-over : goal.returns-in-Ok-clause-over
returns-in-Ok-clause-over g c = record { opens = c.in-Ok.ensures.opens; nothing = c.in-Ok.ensures.begins.1; book = c.in-Ok.ensures.book }

-- the connection that the engine gave back
pub returns-clause-refused : goal.returns-clause-refused
returns-clause-refused g c = (c.in-Err._held, c.in-Err.ensures.refused)
