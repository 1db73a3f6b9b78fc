use Rattle.flow_sql.proofs.transaction.run.Goals as goal
use Rattle.flow_sql.proofs.Names.{state, Err, Ok, []}
use Rattle.flow_sql.proofs.Leaves.{was_open}

pub returns-in-Ok-clause-runs : goal.returns-in-Ok-clause-runs
returns-in-Ok-clause-runs g c clean = (_, c.in-Ok.ensures.runs clean)

pub returns-in-Ok-clause-open : goal.returns-in-Ok-clause-open
returns-in-Ok-clause-open g c clean = was_open (state g.S.Store c.args.conn.now) (state g.S.Store c.execute.new.self) c.args.sql.now [] (Ok _) (c.in-Ok.ensures.runs clean)

pub returns-in-Err-clause-open : goal.returns-in-Err-clause-open
returns-in-Err-clause-open g c h = was_open (state g.S.Store c.args.conn.now) (state g.S.Store c.execute.new.self) c.args.sql.now [] (Err c.in-Err.error) (c.in-Err.ensures.runs h)
