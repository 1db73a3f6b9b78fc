use Rattle.flow_maps.proofs.Undone.{known_facts}
use Rattle.flow_maps.proofs.maps.take_back.Goals as goal

pub returns-then-take_back : goal.returns-then-take_back
returns-then-take_back c b d undo h = c.take_back.ensures c.if-take_back.true b d undo (known_facts c.args.facts.now c.in-Some.known d c.in-Some.is h)
