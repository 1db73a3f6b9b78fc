use Rattle.std.specs.Prelude.{◌≡◌}
use Rattle.flow_maps.proofs.Names.{rules, true, at_request}
use Rattle.flow_maps.proofs.Signalled.{history_behind, history_begins}
use Rattle.flow_maps.proofs.signals.SignalEvents.add_history.Goals as goal

pub loop-event-init : goal.loop-event-init
loop-event-init c = λ f q. history_begins c.args.flow.now c.args.run (at_request c.args.self.now) f q

pub loop-event-preserved : goal.loop-event-preserved
loop-event-preserved c =
    let added : c.add_event.result ≡ true = search rules in
    history_behind c.args.flow.now c.args.run c.args.history.now c.loop-event.event-index c.event-item.result (at_request c.args.self.now) (at_request c.loop-event.self) (at_request c.add_event.new.self)
    c.loop-event-test.true c.event-item.is c.loop-event.invariant (c.add_event.ensures added)
