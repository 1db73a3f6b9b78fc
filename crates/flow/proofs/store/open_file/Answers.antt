use Rattle.std.proofs.Common.{inl, inr}
use Rattle.flow.proofs.store.open_file.Goals as goal

pub returns-in-Ok-open-clause-opened : goal.returns-in-Ok-open-clause-opened
returns-in-Ok-open-clause-opened g c = (c.in-Ok.conn, (c.in-Ok.ensures, c.in-Ok-open.ensures.over))

-- the file was opened, and the engine refused it
pub returns-in-Err-open-clause-refused : goal.returns-in-Err-open-clause-refused
returns-in-Err-open-clause-refused g c = inl (c.in-Ok.conn, (c.in-Err-open.fault, (c.in-Ok.ensures, (c.in-Err-open.ensures.refused, c.unkept.ensures))))

pub returns-in-Err-clause-refused : goal.returns-in-Err-clause-refused
returns-in-Err-clause-refused g c = inr (c.in-Err.error, (c.in-Err.ensures, c.unopened.ensures))
