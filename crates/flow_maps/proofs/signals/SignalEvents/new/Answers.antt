use Rattle.std.specs.Prelude.{◌≡◌}
use Rattle.flow_maps.proofs.Names.{None, rules, Bytes, at_request}
use Rattle.flow_maps.proofs.Signalled.{none_recorded}
use Rattle.flow_maps.proofs.signals.SignalEvents.new.Goals as goal

pub returns : goal.returns
returns c b none = none_recorded (record { alloc = c.args.alloc; map = c.new.result }) b (let empty : (f q : Bytes) → at_request (record { alloc = c.args.alloc; map = c.new.result }) f q ≡ None = search rules in empty) none
