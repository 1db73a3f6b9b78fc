use Rattle.flow_maps.proofs.Names.{ap, Head}
use Rattle.flow_maps.proofs.seat.under_text.Goals as goal

pub returns : goal.returns
returns c r h = (record { head = ap (λ (k : Head). record k { text = c.args.text }) h.0.head; timers = h.0.timers; calls = h.0.calls }, h.1)
