use Rattle.flow_maps.proofs.outlook.listed.Goals as goal

pub returns : goal.returns
returns c b h = c.in-Some-listed_of.ensures b h c.first_of-first.result c.first_of-first.ensures.no_later c.in-Some.ensures
