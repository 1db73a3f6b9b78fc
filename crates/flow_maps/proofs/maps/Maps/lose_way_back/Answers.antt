use Rattle.flow_maps.proofs.Undone.{lost_leads, lost_returns}
use Rattle.flow_maps.proofs.maps.Maps.lose_way_back.Goals as goal

pub returns-clause-returns : goal.returns-clause-returns
returns-clause-returns c b = lost_returns (record c.args.self.now { journal = c.lose.new.self }) c.lose.ensures b

pub returns-clause-goes_back : goal.returns-clause-goes_back
returns-clause-goes_back c b d = lost_leads c.lose.new.self c.lose.ensures b d

pub returns-clause-serves : goal.returns-clause-serves
returns-clause-serves c b h = record { facts = h.facts; texts = h.texts }
