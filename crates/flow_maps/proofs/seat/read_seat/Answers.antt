use Rattle.flow_maps.proofs.Names.{sym}
use Rattle.flow_maps.proofs.seat.read_seat.Goals as goal

pub returns-in-Ok : goal.returns-in-Ok
returns-in-Ok c = record { head = sym c.in-Ok.ensures; timers = sym c.in-Some.ensures; calls = c.in-Some-calls_of.ensures }
