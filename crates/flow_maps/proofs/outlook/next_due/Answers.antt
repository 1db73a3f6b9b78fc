use Rattle.flow_maps.proofs.Names.{◌∙◌}
use Rattle.flow_maps.proofs.Sooner.{next_is}
use Rattle.flow_maps.proofs.outlook.next_due.Goals as goal

pub returns : goal.returns
returns c b h = c.with_next.ensures ∙ next_is c.args.ready.now b c.args.at h c.args.best c.in-Some.next c.in-Some.ensures
