use Rattle.flow_maps.proofs.Names.{map, sym, ap, ◌∙◌, at_attempt, Head}
use Rattle.flow_maps.proofs.seat.at_attempt.Goals as goal

pub returns-in-Some : goal.returns-in-Some
returns-in-Some c r h = (
  record {
    head = ap (λ (k : Head). record k { tasks = map (at_attempt c.args.event c.args.attempt c.args.ready) k.tasks }) h.0.head ∙ sym c.in-Some.ensures;
    timers = h.0.timers;
    calls = h.0.calls;
  },
  h.1,
)
