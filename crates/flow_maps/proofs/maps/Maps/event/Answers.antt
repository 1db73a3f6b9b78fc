use Rattle.std.specs.Prelude.{◌≡◌}
use Rattle.flow_maps.proofs.Names.{List, Some, sym, ap, subst, ◌∙◌, Event, Book, event_at, event_if, event_of, AreCalls, Serves}
use Rattle.flow_maps.proofs.Serving.{some_weaker}
use Rattle.flow_maps.proofs.maps.Maps.event.Goals as goal

pub returns-in-Some : goal.returns-in-Some
returns-in-Some c =
    some_weaker c.find_call.result (λ e. (h : List Event) → AreCalls c.as_slice.result.now h → event_of h c.args.event ≡ Some e) (λ e. (b : Book) → Serves c.args.self.now b → Some e ≡ event_at b.runs c.args.run c.args.event)
    (λ e is b known. let it = c.in-Some.ensures b known in sym (ap (λ o. event_if o c.args.event) it.1 ∙ is it.0.history (subst (λ xs. AreCalls xs it.0.history) (sym c.as_slice.ensures.value) it.2.calls))) c.find_call.ensures
