use Rattle.flow_maps.proofs.Staying.{text_in}
use Rattle.flow_maps.proofs.texts.TextBodies.put.Goals as goal

pub returns-else-not-insert : goal.returns-else-not-insert
returns-else-not-insert c b at h = text_in c.args.self.now (record c.args.self.now { known = c.insert.new.known }) c.args.number c.args.body (c.insert.ensures c.if-not-insert.false) b at h
