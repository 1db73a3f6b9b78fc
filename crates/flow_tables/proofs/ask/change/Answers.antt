use Rattle.std.proofs.Common.{Ok, Err, refl}
use Rattle.flow_tables.proofs.Questioned.{changed}
use Rattle.flow_tables.proofs.ask.change.Goals as goal

pub returns-in-Ok : goal.returns-in-Ok
returns-in-Ok g c = changed g.S.Store (g.C.RowChange.does c.args.change.now) c.send.ensures.sure c.args.conn.now c.send.new.conn c.send.ensures.survives _ c.in-Ok.ensures.runs (Ok tt) tt

pub returns-in-Err : goal.returns-in-Err
returns-in-Err g c = changed g.S.Store (g.C.RowChange.does c.args.change.now) c.send.ensures.sure c.args.conn.now c.send.new.conn c.send.ensures.survives _ c.in-Err.ensures.runs (Err c.in-Err.error) refl
