use Rattle.std.proofs.Common.{inr}
use Rattle.flow.proofs.store.open_memory.Goals as goal

pub returns-in-Ok-clause-opened : goal.returns-in-Ok-clause-opened
returns-in-Ok-clause-opened c = (c.in_ok-conn.conn, (c.in_ok-conn.ensures.empty, c.in-Ok.ensures.over))

pub returns-in-Err-clause-refused : goal.returns-in-Err-clause-refused
returns-in-Err-clause-refused c = inr (c.in_ok-conn.conn, (c.in_ok-conn.ensures.empty, c.in-Err.ensures.refused))
