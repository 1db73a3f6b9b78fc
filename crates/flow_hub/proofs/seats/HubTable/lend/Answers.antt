use Rattle.std.proofs.Common.{rules, ◌∙◌, sym}
use Rattle.flow_hub.proofs.Moves.{lends}
use Rattle.flow_hub.proofs.seats.HubTable.lend.Goals as goal

pub join_seat-requires : goal.join_seat-requires
join_seat-requires g c =
    let table = sym c.args.self.now.named in
    (c.mine.invariant.0 ∙ table, c.other.invariant.0 ∙ table, c.other.invariant.1, search rules, lends c.mine.inside.seat.id c.mine.inside.seat.me.0 c.other.inside.seat.id c.other.inside.seat.me.0)
