use Rattle.flow_maps.proofs.maps.Maps.keep_text.Goals as goal

pub returns-clause-serves : goal.returns-clause-serves
returns-clause-serves c b at h = record { facts = h.facts; texts = (c.keep_copy.ensures b at h.texts.0, h.texts.1) }
