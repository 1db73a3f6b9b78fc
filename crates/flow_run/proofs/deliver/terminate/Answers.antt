use Rattle.std.proofs.Common.{◌≡◌, [], ap, rules}
use Rattle.flow_model.specs.Deliver.{Progress}
use Rattle.flow_run.specs.Whole.{is_unbegun}
use Rattle.flow_run.proofs.Copied.{whole_none}
use Rattle.flow_run.proofs.deliver.terminate.Goals as goal

pub returns-clause-whole : goal.returns-clause-whole
returns-clause-whole c =
    let ls = c.args.table.now.lists.items in
    let none : c.start_from.result.cells.items ≡ [] = search rules in
    whole_none ls c.start_from.result.cells.items c.start_from.result.state none (ap (λ (q : Progress). is_unbegun q.state) (c.start_from.ensures.shows ls))
