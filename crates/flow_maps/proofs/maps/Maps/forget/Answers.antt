use Rattle.flow_maps.proofs.Undone.{lost_leads}
use Rattle.flow_maps.proofs.maps.Maps.forget.Goals as goal

pub returns-clause-serves : goal.returns-clause-serves
returns-clause-serves c b = record { facts = tt; texts = c.forget.ensures b }

pub returns-clause-goes_back : goal.returns-clause-goes_back
returns-clause-goes_back c b d = lost_leads c.lose.new.self c.lose.ensures b d
