use Rattle.std.proofs.Common.{◌≡◌, ◌+◌, ◌∷◌, ◌∙◌, [], List, take, drop, ap, refl, sym, subst, true, false}
use Rattle.flow_model.specs.Rest.{Rest, is_done}
use Rattle.flow_run.specs.Marks.{onto, within}
use Rattle.flow_run.specs.Flat.{AreFull, blocks_of, is_task, marks_of, task_rest}
use Rattle.flow_run.specs.declared.cell.Cell.{Cell}
use Rattle.flow_run.proofs.Delivering.{waits_open, waits_task}
use Rattle.flow_run.proofs.Steps.{earlier_task, later_task}
use Rattle.flow_run.proofs.Walking.{full_set, same_cell, task_settles, task_shows}
use Rattle.flow_run.proofs.deliver.becomes.Goals as goal

pub settle-requires-clause-full : goal.settle-requires-clause-full
settle-requires-clause-full c =
    let ls = c.args.table.now.lists.items in
    let q = c.index_mut.result.now in
    let full : AreFull ls q = subst (AreFull ls) (sym c.index_mut.ensures.value) (c.requires.sound.0 c.args.i q c.requires.there) in
    full_set ls c.args.cells.now.items c.args.i (record { places = q.places; doing = c.args.doing }) c.requires.there c.requires.sound.0 full

pub settle-requires-clause-settles : goal.settle-requires-clause-settles
settle-requires-clause-settles c =
    let ls = c.args.table.now.lists.items in
    let cs = c.args.cells.now.items in
    let q = c.index_mut.result.now in
    let is = c.index_mut.ensures.value in
    let waits = c.requires.waits q is in
    task_settles ls cs c.args.i (record { places = q.places; doing = c.args.doing }) c.requires.there c.requires.task
    (earlier_task ls cs cs c.args.i q c.requires.there is (waits_task q.doing waits) c.requires.sound.1 refl refl (waits_open ls q waits))
    (later_task ls cs cs c.args.i q c.requires.there is c.requires.sound.1 refl)

pub returns-clause-shows : goal.returns-clause-shows
returns-clause-shows c = λ old same.
    let ls = c.args.table.now.lists.items in
    let cs = c.args.cells.now.items in
    let q = c.index_mut.result.now in
    let one : q ≡ old = same_cell cs c.args.i q old c.requires.there c.index_mut.ensures.value same in
    c.settle.ensures.shows
    ∙ task_shows ls cs c.args.i (record { places = q.places; doing = c.args.doing }) c.requires.there c.requires.task
    ∙ ap (λ (x : Cell). onto (take c.args.i (marks_of ls cs)) (task_rest ls (record { places = x.places; doing = c.args.doing }) ∷ onto (drop (c.args.i + 1) (marks_of ls cs)) [])) one
