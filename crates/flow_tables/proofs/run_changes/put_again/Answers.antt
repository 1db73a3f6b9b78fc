use Rattle.flow_tables.proofs.Names.{state, pos, tables_in, task_row, with_task, without_task}
use Rattle.flow_tables.proofs.Altering.{comes_again}
use Rattle.flow_tables.proofs.Parts.{row_put, put_then}
use Rattle.flow_tables.proofs.Stopping.{stops_then}
use Rattle.flow_tables.proofs.run_changes.put_again.Goals as goal

pub returns-clause-put : goal.returns-clause-put
returns-clause-put g c holds clean =
    let first = c.in_ok-alter.ensures.put tt holds (c.alter-2.ensures.quiet.0 clean) in
    let task = task_row (pos c.args.run) (record { event = c.args.event; attempt = c.args.attempt; ready = c.args.ready }) in
    let gone = without_task (pos c.args.run) (pos c.args.event) (tables_in (state g.S.Store c.args.conn.now).now) in
    row_put _ _ c.task_row.result task (λ x. with_task x gone) c.alter-2.result c.task_row.ensures (put_then _ _ _ gone (with_task c.task_row.result) c.alter-2.result first (c.alter-2.ensures.put tt (λ _. first.over) clean))

pub returns-clause-cause : goal.returns-clause-cause
returns-clause-cause g c holds has clean =
    let t = tables_in (state g.S.Store c.args.conn.now).now in
    let first = c.in_ok-alter.ensures.put tt holds (c.alter-2.ensures.quiet.0 clean) in
    stops_then g.S.Store c.args.conn.now c.alter.new.conn c.alter-2.new.conn c.alter.ensures.quiet c.alter-2.result holds (λ u. u)
    (c.alter-2.ensures.cause (λ _. first.over) (comes_again (pos c.args.run) (record { event = c.args.event; attempt = c.args.attempt; ready = c.args.ready }) c.task_row.result t _ c.task_row.ensures first.tables has) clean)
