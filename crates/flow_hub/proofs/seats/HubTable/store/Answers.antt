use Rattle.std.proofs.Common.{rules, ◌∙◌, sym}
use Rattle.flow_hub.proofs.Moves.{adds}
use Rattle.flow_hub.proofs.seats.HubTable.store.Goals as goal

pub compare_exchange_with-requires : goal.compare_exchange_with-requires
compare_exchange_with-requires g c =
    let v = c.keeper.inside.seat.me.0 in
    let is = c.keeper.view_is in
    let step = adds c.keeper.inside.seat.id c.args.old c.args.new v c.args.all.now (rw is c.requires.keeps) (rw is c.requires.may) (rw is c.requires.may_give) (rw is c.requires.grows) (rw is c.requires.lengths.0) c.requires.lengths.1 (rw is c.requires.owing) in
    (c.keeper.invariant.0 ∙ sym c.args.self.now.named, search rules, rw (c.args.self.now.no_slot, c.keeper.invariant.1) step)
