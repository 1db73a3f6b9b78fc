use Rattle.flow_tables.proofs.Names.{OpenActivity, state, pos, tables_in, ◌∙◌, sym, subst, Database, HasRun}
use Rattle.flow_tables.proofs.Altering.{no_task_set, task_set, run_of_task}
use Rattle.flow_tables.proofs.Stopping.{stops_then}
use Rattle.flow_tables.proofs.run_changes.set_attempt.Goals as goal

pub returns-then-not-is_there-clause-put : goal.returns-then-not-is_there-clause-put
returns-then-not-is_there-clause-put g c b tells known holds clean =
    let found = c.in_ok-is_there.ensures.finds holds clean in
    let task : OpenActivity = record { event = c.args.event; attempt = c.args.attempt; ready = c.args.ready } in
    (tt, no_task_set (state g.S.Store c.args.conn.now) (state g.S.Store c.find_task.new.conn) (pos c.args.run) task found.0 (sym c.if-not-is_there.true ∙ found.1 known))

pub returns-clause-put : goal.returns-clause-put
returns-clause-put g c b tells known holds clean =
    let cm = c.put_again.ensures.quiet.0 clean in
    let found = c.in_ok-is_there.ensures.finds holds cm in
    task_set (state g.S.Store c.args.conn.now) (state g.S.Store c.find_task.new.conn) (state g.S.Store c.put_again.new.conn) (pos c.args.run) (record { event = c.args.event; attempt = c.args.attempt; ready = c.args.ready }) c.put_again.result
    (holds (c.find_task.ensures.quiet.0 cm)).now found.0 (sym c.if-not-is_there.false ∙ found.1 known) (c.put_again.ensures.put (λ _. found.0.0) clean)

pub returns-clause-cause : goal.returns-clause-cause
returns-clause-cause g c b tells known holds clean =
    let old = state g.S.Store c.args.conn.now in
    let found = c.in_ok-is_there.ensures.finds holds (c.put_again.ensures.quiet.0 clean) in
    let has = subst (λ (d : Database). HasRun (pos c.args.run) (tables_in d)) (sym found.0.1) (run_of_task (tables_in old.now) b c.args.run (pos c.args.event) tells (sym c.if-not-is_there.false ∙ found.1 known)) in
    stops_then g.S.Store c.args.conn.now c.find_task.new.conn c.put_again.new.conn c.in_ok-is_there.ensures.quiet c.put_again.result holds (λ none. absurd none) (c.put_again.ensures.cause (λ _. found.0.0) has clean)
