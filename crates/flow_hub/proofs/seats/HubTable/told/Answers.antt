use Rattle.std.proofs.Common.{◌≡◌, arith}
use Rattle.flow_hub.specs.Seating.{lent}
use Rattle.flow_hub.proofs.Moves.{hands_back}
use Rattle.flow_hub.proofs.seats.HubTable.told.Goals as goal

pub store-requires-clause-owing : goal.store-requires-clause-owing
store-requires-clause-owing g c =
    let none = c.requires.keeps.1 in
    let here : (lent c.args.keeper.now c.args.me).owed ≡ c.args.me.owed = omega (arith, none) in
    rw (c.lend.ensures, here) c.requires.owing

pub returns-clause-told : goal.returns-clause-told
returns-clause-told g c = hands_back c.args.keeper.now c.args.me c.lend.new.mine c.store.new.keeper c.back.result c.args.all.now c.requires.keeps.1 c.lend.ensures c.store.ensures.added c.back.ensures.1
