use Rattle.flow_hub.proofs.Moves.{parts}
use Rattle.flow_hub.proofs.seats.HubTable.hands.Goals as goal

pub split-requires : goal.split-requires
split-requires g c = record { may = λ by. parts by c.args.keeper.now }
