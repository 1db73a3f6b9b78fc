use Rattle.flow_maps.proofs.Staying.{text_less}
use Rattle.flow_maps.proofs.texts.TextBodies.take_back.Goals as goal

pub returns-in-Some : goal.returns-in-Some
returns-in-Some c b t h =
    text_less c.args.self.now (record c.args.self.now { known = c.take_last.new.known }) c.in-Some.last.0 c.in-Some.last.1 b t c.in-Some.ensures.there c.in-Some.ensures.last c.in-Some.ensures.others h
