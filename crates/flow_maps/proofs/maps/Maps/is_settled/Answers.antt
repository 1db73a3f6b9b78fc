use Rattle.flow_maps.proofs.Undone.{settled_serves}
use Rattle.flow_maps.proofs.maps.Maps.is_settled.Goals as goal

pub returns : goal.returns
returns c = λ blank b h. settled_serves c.args.self.now b c.args.self.now.journal.steps (c.is_blank.ensures blank) h
