use Rattle.flow_maps.proofs.Names.{sym, ◌∙◌, subst, Vec, Event, AreCalls}
use Rattle.flow_maps.proofs.seat.taken_on.Goals as goal

pub returns : goal.returns
returns c r h = (
  record {
    head = h.head ∙ sym c.in-Some.ensures;
    timers = h.timers ∙ sym (c.in-Some-copied_timers.ensures ∙ c.as_slice.ensures);
    calls = subst (λ v. AreCalls v.items r.history) (sym c.taken_calls-calls.ensures.taken) h.calls;
  },
  record { head = h.head; timers = h.timers; calls = c.taken_calls-calls.ensures.none r.history },
)
