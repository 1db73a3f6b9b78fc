use Rattle.flow_maps.proofs.maps.Maps.count_texts.Goals as goal

pub returns-clause-serves : goal.returns-clause-serves
returns-clause-serves c b is h = record { facts = h.facts; texts = c.count_all.ensures b is h.texts }
