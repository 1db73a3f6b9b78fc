use Rattle.flow_sql.proofs.Leaves.{was_clean, ended_undone}
use Rattle.flow_sql.proofs.Names.{state, Err, Executes, IsTrue, Rollback, codes, []}
use Rattle.flow_sql.proofs.Transactions.{rolls_back, rolled_back, rollback_text, control_survives, ran_to, ran_ok}
use Rattle.flow_sql.proofs.transaction.rollback.Goals as goal

pub returns-clause-undone : goal.returns-clause-undone
returns-clause-undone g c was clean =
    let old = state g.S.Store c.args.conn.now in
    let new = state g.S.Store c.run.new.conn in
    let over = was (was_clean old new _ c.run.ensures.survives clean) in
    ended_undone old new over.committed (rolled_back old new c.run.result (c.run.ensures.runs clean) over.mode)

pub returns-clause-cause : goal.returns-clause-cause
returns-clause-cause g c clean =
    let old = state g.S.Store c.args.conn.now in
    let new = state g.S.Store c.run.new.conn in
    ran_to old new (codes "ROLLBACK") (IsTrue old.in_transaction) (λ e. Executes (codes "ROLLBACK") [] old new (Err e)) c.run.result (c.run.ensures.runs clean)
    (λ count h. (rolls_back old new count h).0) (λ e h. h)

pub returns-clause-done : goal.returns-clause-done
returns-clause-done g c clean = ran_ok (state g.S.Store c.args.conn.now) (state g.S.Store c.run.new.conn) (codes "ROLLBACK") _ c.run.result (c.run.ensures.runs clean) (λ count h. (count, h))

pub returns-clause-ended : goal.returns-clause-ended
returns-clause-ended g c clean = rolled_back (state g.S.Store c.args.conn.now) (state g.S.Store c.run.new.conn) c.run.result (c.run.ensures.runs clean)

pub returns-clause-survives : goal.returns-clause-survives
returns-clause-survives g c = control_survives (state g.S.Store c.args.conn.now) (state g.S.Store c.run.new.conn) (codes "ROLLBACK") Rollback rollback_text tt c.run.ensures.survives
