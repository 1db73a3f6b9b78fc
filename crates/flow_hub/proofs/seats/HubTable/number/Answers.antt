use Rattle.std.proofs.Common.{rules, ◌∙◌, sym}
use Rattle.flow_hub.proofs.Moves.{admits}
use Rattle.flow_hub.proofs.seats.HubTable.number.Goals as goal

pub compare_exchange_with-requires : goal.compare_exchange_with-requires
compare_exchange_with-requires g c =
    let v = c.keeper.inside.seat.me.0 in
    let is = c.keeper.view_is in
    let step = admits c.keeper.inside.seat.id c.args.places v c.args.all.now (rw is c.requires.keeps) (rw is c.requires.one_more) c.requires.length in
    (c.keeper.invariant.0 ∙ sym c.args.self.now.named, search rules, rw (c.args.self.now.no_slot, c.keeper.invariant.1) step)
