use Rattle.flow_tables.proofs.Names.{pos, true, state, tables_in, refl, sym, ◌∙◌, ap}
use Rattle.std.specs.List.{list_any}
use Rattle.flow_tables.specs.Puts.{is_task_at}
use Rattle.flow_tables.proofs.Altering.{single_there}
use Rattle.flow_tables.proofs.Stopping.{read_because}
use Rattle.flow_tables.proofs.run_changes.find_task.Goals as goal

pub returns-then-is_single-clause-finds : goal.returns-then-is_single-clause-finds
returns-then-is_single-clause-finds g c holds clean =
    ((holds clean, refl, refl), single_there c.args.known.now c.args.run c.args.event (tables_in (state g.S.Store c.args.conn.now).now) (sym c.is_single.ensures ∙ c.if-is_single.true))

pub returns-in-Ok-clause-finds : goal.returns-in-Ok-clause-finds
returns-in-Ok-clause-finds g c holds clean =
    let read = c.in-Ok.ensures.reads true holds clean in
    (read.0, λ known. c.has_task.ensures ∙ ap (list_any (is_task_at (pos c.args.event))) (c.as_slice.ensures.value ∙ read.1))

pub returns-in-Err-clause-finds : goal.returns-in-Err-clause-finds
returns-in-Err-clause-finds g c holds clean = c.in-Err.ensures.reads true holds clean

pub returns-in-Err-clause-cause : goal.returns-in-Err-clause-cause
returns-in-Err-clause-cause g c holds clean = read_because g.S.Store c.args.conn.now c.ask.new.conn c.in-Err.fault c.stopped.result _ c.stopped.ensures (c.in-Err.ensures.stops true holds clean)
