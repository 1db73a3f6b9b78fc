use Rattle.flow_maps.proofs.maps.Maps.unknown.Goals as goal

pub returns : goal.returns
returns c b = record { facts = tt; texts = c.new.ensures b }
