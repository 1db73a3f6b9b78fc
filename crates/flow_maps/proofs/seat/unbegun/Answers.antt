use Rattle.flow_maps.proofs.Names.{[], sym}
use Rattle.flow_maps.proofs.Calling.{no_calls}
use Rattle.flow_maps.proofs.seat.unbegun.Goals as goal

pub returns-in-Ok : goal.returns-in-Ok
returns-in-Ok c = record { head = sym c.in-Ok.ensures; timers = sym c.new.ensures; calls = no_calls c.new-in-Ok.result.items c.new-in-Ok.ensures.items [] }
