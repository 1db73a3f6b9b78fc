use Rattle.std.proofs.Common.{rules, ◌≡◌, [], pos, Some, None, ap, ◌∙◌, subst}
use Rattle.flow_rows.specs.Damages.{damages_of_history, first_of, history_of}
use Rattle.flow_rows.specs.Inspecting.{GivesRun, HasSeen, part_in, told_where}
use Rattle.flow_rows.specs.Parts.{or_else, rows_before, tasks_differ, timers_differ, with_run}
use Rattle.flow_rows.specs.Rows.{events_of, tasks_of, timers_of}
use Rattle.flow_rows.proofs.Inspected.{inspection_of, met_of, sees_damage, sees_run}
use Rattle.flow_rows.proofs.LeftOpen.{tasks_named}
use Rattle.flow_rows.proofs.inspection.Inspection.see_run.Goals as goal

pub returns-in_ok-given-in-Ok : goal.returns-in_ok-given-in-Ok
returns-in_ok-given-in-Ok c = λ p g next seen.
    let i = c.args.self.now in
    let rows = c.args.rows.now in
    let n = c.get-n.result in
    let is : n ≡ c.args.number = search rules in
    let both : (damages_of_history (pos n) (events_of rows.events.now (pos n)) ≡ []) × (c.in-Ok.history ≡ history_of rows.events.now (pos n)) = search rules in
    let first_slice : c.as_slice.result.now ≡ c.in-Ok.history = search rules in
    let second_slice : c.as_slice-in-Ok.result.now ≡ c.in-Ok.history = search rules in
    let new = inspection_of i.texts c.add.new.self (met_of i.met.texts c.either-self.result i.met.events c.either-self-in-Ok.result c.either-self-in-Ok-2.result) in
    subst (λ k. HasSeen p new (with_run g (part_in k rows)) × GivesRun i new (part_in k rows) c.in_ok-given-in-Ok.given) is
    (sees_run p i g n (part_in n rows) c.add.new.self c.either-self.result c.either-self-in-Ok.result c.either-self-in-Ok-2.result c.in-Ok.history c.in_ok-given-in-Ok.given
    (is ∙ next) seen (tasks_named (pos n) rows.outbox.now) c.in_ok-add.ensures
    (c.either-self.ensures ∙ ap (or_else i.met.runs) (c.run_damage-broken.ensures (rows_before g.runs) seen.taken))
    both.0 both.1
    (c.either-self-in-Ok.ensures ∙ ap (or_else i.met.timers) (c.in_ok-timers-in-Ok.ensures ∙ ap (λ h. first_of (timers_differ n (timers_of rows.timers.now (pos n)) h)) (first_slice ∙ both.1)))
    (c.either-self-in-Ok-2.ensures ∙ ap (or_else i.met.outbox) (c.in_ok-outbox-in-Ok.ensures ∙ ap (λ h. first_of (tasks_differ n (tasks_of rows.outbox.now (pos n)) h)) (second_slice ∙ both.1)))
    (c.in_ok-given-in-Ok.ensures ∙ ap (λ m. told_where m (part_in n rows) c.in-Ok.history) c.first.ensures))

pub returns-in-Err : goal.returns-in-Err
returns-in-Err c = λ p g next seen.
    let i = c.args.self.now in
    let rows = c.args.rows.now in
    let n = c.get-n.result in
    let is : n ≡ c.args.number = search rules in
    let one : first_of (damages_of_history (pos n) (events_of rows.events.now (pos n))) ≡ Some c.in-Err.found = search rules in
    let new = inspection_of i.texts c.add.new.self (met_of i.met.texts c.either-self.result c.either-self-in-Err.result i.met.timers i.met.outbox) in
    subst (λ k. HasSeen p new (with_run g (part_in k rows)) × GivesRun i new (part_in k rows) None) is
    (sees_damage p i g n (part_in n rows) c.add.new.self c.either-self.result c.either-self-in-Err.result c.in-Err.found
    (is ∙ next) seen c.in_ok-add.ensures
    (c.either-self.ensures ∙ ap (or_else i.met.runs) (c.run_damage-broken.ensures (rows_before g.runs) seen.taken))
    one c.either-self-in-Err.ensures)
