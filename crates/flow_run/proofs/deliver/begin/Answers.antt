use Rattle.std.proofs.Common.{◌≡◌, ◌∷◌, [], ap, rules}
use Rattle.flow_model.specs.Rest.{rest_of}
use Rattle.flow_nodes.specs.Links.{block_at}
use Rattle.flow_model.specs.Deliver.{Progress}
use Rattle.flow_run.specs.Whole.{is_unbegun}
use Rattle.flow_run.proofs.Copied.{whole_one}
use Rattle.flow_run.proofs.deliver.begin.Goals as goal

pub returns-clause-whole : goal.returns-clause-whole
returns-clause-whole c =
    let ls = c.args.table.now.lists.items in
    let one : c.start_from.result.cells.items ≡ c.in_ok-branch.field-0 ∷ [] = search rules in
    whole_one ls c.start_from.result.cells.items c.start_from.result.state c.in_ok-branch.field-0 (rest_of (block_at ls c.args.table.now.body)) one c.in_ok-branch.ensures.mark c.in_ok-branch.ensures.full (ap (λ (q : Progress). is_unbegun q.state) (c.start_from.ensures.shows ls))
