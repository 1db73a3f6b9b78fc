use Rattle.std.proofs.Common.{rules, ◌∙◌, sym}
use Rattle.flow_hub.proofs.Moves.{looks}
use Rattle.flow_hub.proofs.seats.HubTable.look.Goals as goal

pub load-requires : goal.load-requires
load-requires g c = (c.me.invariant.0 ∙ sym c.args.self.now.named, search rules, rw (c.args.self.now.no_slot, c.me.invariant.1) (looks c.me.inside.seat.id c.me.inside.seat.me.0))
