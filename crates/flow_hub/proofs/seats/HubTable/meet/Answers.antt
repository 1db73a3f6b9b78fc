use Rattle.flow_hub.proofs.Moves.{apart_of}
use Rattle.flow_hub.proofs.seats.HubTable.meet.Goals as goal

pub returns-clause-apart : goal.returns-clause-apart
returns-clause-apart g c = apart_of c.args.mine.now c.args.other c.lend.new.mine c.look.new.me c.lend.ensures c.look.ensures.number.0 c.look.ensures.number.1 c.look.ensures.apart
