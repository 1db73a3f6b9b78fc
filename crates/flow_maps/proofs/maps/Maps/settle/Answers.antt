use Rattle.flow_maps.proofs.maps.Maps.settle.Goals as goal

pub returns-clause-serves : goal.returns-clause-serves
returns-clause-serves c b h = record { facts = h.facts; texts = h.texts }
