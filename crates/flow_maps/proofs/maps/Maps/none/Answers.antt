use Rattle.flow_maps.proofs.maps.Maps.none.Goals as goal

pub returns-clause-serves : goal.returns-clause-serves
returns-clause-serves c b none = record { facts = c.none.ensures b none; texts = c.new.ensures b }
