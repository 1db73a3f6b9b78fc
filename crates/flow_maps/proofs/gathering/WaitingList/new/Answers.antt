use Rattle.flow_maps.proofs.Gathered.{listing_begins}
use Rattle.flow_maps.proofs.gathering.WaitingList.new.Goals as goal

pub returns : goal.returns
returns c n rs = listing_begins c.args.since c.args.at c.new.result.items c.new-2.result.items c.new.ensures.items c.new-2.ensures.items n rs
