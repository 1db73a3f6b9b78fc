use Rattle.std.proofs.Common.{◌≡◌, List, [], ap, ◌∙◌, rules}
use Rattle.flow_model.specs.Rest.{rest_of}
use Rattle.flow_nodes.specs.Links.{block_at}
use Rattle.flow_run.specs.Marks.{One, within}
use Rattle.flow_run.specs.Flat.{blocks_of}
use Rattle.flow_run.specs.declared.cell.Place.{Place}
use Rattle.flow_run.proofs.Walking.{task_mark}
use Rattle.flow_run.proofs.walk.branch.Goals as goal

pub returns-clause-mark : goal.returns-clause-mark
returns-clause-mark c =
    let ls = c.args.table.now.lists.items in
    let cell = c.enter.new.cell in
    let none : c.in_ok-places.places.items ≡ [] = search rules in
    task_mark ls (blocks_of ls cell.places.items) cell.doing c.in_ok-enter.ensures.task
    ∙ ap One c.in_ok-enter.ensures.rest
    ∙ ap (λ (ps : List Place). One (within (blocks_of ls ps) (rest_of (block_at ls c.args.list)))) none
