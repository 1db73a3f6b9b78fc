use Rattle.std.specs.Prelude.{◌≡◌}
use Rattle.flow_maps.proofs.Names.{rules, None, Some, ◌∙◌, at_request}
use Rattle.flow_maps.proofs.signals.SignalEvents.find.Goals as goal

pub returns-in_default-get : goal.returns-in_default-get
returns-in_default-get c = λ b h.
    let none : None ≡ at_request c.args.self.now c.args.flow.now c.args.request.now = search rules in
    none ∙ h c.args.flow.now c.args.request.now

pub returns : goal.returns
returns c = λ b h.
    let found : Some c.in-Some-event_of.event ≡ at_request c.args.self.now c.args.flow.now c.args.request.now = search rules in
    found ∙ h c.args.flow.now c.args.request.now
