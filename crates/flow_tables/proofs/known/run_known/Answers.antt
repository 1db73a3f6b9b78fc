use Rattle.flow_tables.proofs.Wholes.{seat_so}
use Rattle.flow_tables.proofs.known.run_known.Goals as goal

pub returns-in-Some : goal.returns-in-Some
returns-in-Some c b t serves tells = let it = c.in-Some.ensures b serves in rw c.seat_known.ensures (seat_so t b c.args.number c.in-Some.seat.now it.0 tells it.1 it.2)
