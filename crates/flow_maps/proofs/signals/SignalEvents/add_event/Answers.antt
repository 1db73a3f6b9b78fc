use Rattle.std.specs.Prelude.{◌≡◌}
use Rattle.flow_maps.proofs.Names.{None, Some, rules, at_request, signal_of}
use Rattle.flow_maps.proofs.Signalled.{with_event, without_event}
use Rattle.flow_maps.proofs.signals.SignalEvents.add_event.Goals as goal

pub returns-in-Some : goal.returns-in-Some
returns-in-Some c = λ done.
    let asks : signal_of c.args.event.now ≡ Some c.in-Some.request.now = search rules in
    with_event c.args.flow.now c.args.run c.args.event.now (at_request c.args.self.now) (at_request c.add.new.self) c.in-Some.request.now asks (c.add.ensures done)

pub returns-in-None : goal.returns-in-None
returns-in-None c = λ done.
    let none : signal_of c.args.event.now ≡ None = search rules in
    without_event c.args.flow.now c.args.run c.args.event.now (at_request c.args.self.now) none
