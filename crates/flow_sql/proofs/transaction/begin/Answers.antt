use Rattle.flow_sql.proofs.Leaves.{was_clean, error_refused}
use Rattle.flow_sql.proofs.Names.{state, codes, Begin, Err, Executes, HasBegun, IsRefused, IsStill, [], true, false}
use Rattle.flow_sql.proofs.Transactions.{ran_to, begins, begun_still, begin_text, control_survives}
use Rattle.flow_sql.proofs.transaction.begin.Goals as goal

pub returns-clause-begun : goal.returns-clause-begun
returns-clause-begun g c was clean =
    let old = state g.S.Store c.args.conn.now in
    let new = state g.S.Store c.run.new.conn in
    let over = was (was_clean old new _ c.run.ensures.survives clean) in
    ran_to old new (codes "BEGIN") (IsStill true old new) (λ _. IsRefused false old new) c.run.result (c.run.ensures.runs clean)
    (λ count h. begun_still old new (begins old new count h) over) (λ e. error_refused old new (codes "BEGIN") [] e false over)

pub returns-clause-effect : goal.returns-clause-effect
returns-clause-effect g c clean =
    let old = state g.S.Store c.args.conn.now in
    let new = state g.S.Store c.run.new.conn in
    ran_to old new (codes "BEGIN") (HasBegun old new) (λ e. Executes (codes "BEGIN") [] old new (Err e)) c.run.result
    (c.run.ensures.runs clean) (begins old new) (λ e h. h)

pub returns-clause-survives : goal.returns-clause-survives
returns-clause-survives g c =
    control_survives (state g.S.Store c.args.conn.now) (state g.S.Store c.run.new.conn) (codes "BEGIN") Begin begin_text tt
    c.run.ensures.survives
