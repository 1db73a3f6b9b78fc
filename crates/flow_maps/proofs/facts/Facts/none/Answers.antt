use Rattle.flow_maps.proofs.facts.Facts.none.Goals as goal

pub returns : goal.returns
returns c b none = record { runs = c.new.ensures b none; signals = c.new-2.ensures b none }
