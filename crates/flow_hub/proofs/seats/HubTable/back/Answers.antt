use Rattle.flow_hub.proofs.Moves.{backs}
use Rattle.flow_hub.proofs.seats.HubTable.back.Goals as goal

pub split-requires : goal.split-requires
split-requires g c = record { may = λ by. backs by c.args.keeper.now }
