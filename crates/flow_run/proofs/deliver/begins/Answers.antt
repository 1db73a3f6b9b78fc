use Rattle.std.proofs.Common.{◌≡◌, ◌+◌, ◌∷◌, ◌∙◌, [], List, take, drop, ap, refl, sym, subst, true, false}
use Rattle.flow_model.specs.Rest.{Rest, is_done, rest_of}
use Rattle.flow_nodes.specs.Links.{block_at}
use Rattle.flow_run.specs.Marks.{onto, within}
use Rattle.flow_run.specs.Flat.{AreFull, blocks_of, is_task, marks_of, task_rest}
use Rattle.flow_run.specs.declared.cell.Cell.{Cell}
use Rattle.flow_run.proofs.Delivering.{waits_open, waits_task}
use Rattle.flow_run.proofs.Steps.{earlier_task, later_task}
use Rattle.flow_run.proofs.Walking.{full_set, same_cell, task_settles, task_shows}
use Rattle.flow_run.proofs.deliver.begins.Goals as goal

pub enter-requires : goal.enter-requires
enter-requires c =
    subst (AreFull c.args.table.now.lists.items) (sym c.index_mut.ensures.value) (c.requires.sound.0 c.args.i c.index_mut.result.now c.requires.there)

pub settle-requires-clause-full : goal.settle-requires-clause-full
settle-requires-clause-full c =
    full_set c.args.table.now.lists.items c.args.cells.now.items c.args.i c.enter.new.cell c.requires.there c.requires.sound.0 c.in_ok-enter.ensures.full

pub settle-requires-clause-settles : goal.settle-requires-clause-settles
settle-requires-clause-settles c =
    let ls = c.args.table.now.lists.items in
    let cs = c.args.cells.now.items in
    let q = c.index_mut.result.now in
    let is = c.index_mut.ensures.value in
    let waits = c.requires.waits q is in
    task_settles ls cs c.args.i c.enter.new.cell c.requires.there c.in_ok-enter.ensures.task
    (earlier_task ls cs cs c.args.i q c.requires.there is (waits_task q.doing waits) c.requires.sound.1 refl refl (waits_open ls q waits))
    (later_task ls cs cs c.args.i q c.requires.there is c.requires.sound.1 refl)

pub returns-clause-shows : goal.returns-clause-shows
returns-clause-shows c = λ old same.
    let ls = c.args.table.now.lists.items in
    let cs = c.args.cells.now.items in
    let q = c.index_mut.result.now in
    let one : q ≡ old = same_cell cs c.args.i q old c.requires.there c.index_mut.ensures.value same in
    c.settle.ensures.shows
    ∙ task_shows ls cs c.args.i c.enter.new.cell c.requires.there c.in_ok-enter.ensures.task
    ∙ ap (λ (r : Rest). onto (take c.args.i (marks_of ls cs)) (r ∷ onto (drop (c.args.i + 1) (marks_of ls cs)) [])) c.in_ok-enter.ensures.rest
    ∙ ap (λ (x : Cell). onto (take c.args.i (marks_of ls cs)) (within (blocks_of ls x.places.items) (rest_of (block_at ls c.args.list)) ∷ onto (drop (c.args.i + 1) (marks_of ls cs)) [])) one
