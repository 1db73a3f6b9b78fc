use Rattle.flow_tables.proofs.Names.{state, subst, sym, inl}
use Rattle.flow_tables.specs.Opening.{HasCause}
use Rattle.flow_tables.proofs.Opened.{caused}
use Rattle.flow_tables.proofs.Stopping.{rollback_told}
use Rattle.flow_tables.proofs.open.end_running.Goals as goal

pub returns-in-Err-clause-cause : goal.returns-in-Err-clause-cause
returns-in-Err-clause-cause g c clean = subst (HasCause g.S.Store) (sym c.opening_fault.ensures) (caused g.S.Store c.in-Err.error (c.args.conn.now, c.undo.new.conn, _, inl (c.in-Err.ensures.cause clean)))

pub returns-in-Err-clause-why : goal.returns-in-Err-clause-why
returns-in-Err-clause-why g c clean =
    rollback_told g.S.Store (state g.S.Store c.args.conn.now) (state g.S.Store c.undo.new.conn) c.opening_fault.result c.in-Err.error c.opening_fault.ensures c.in-Err.ensures.inside (c.in-Err.ensures.cause clean)
