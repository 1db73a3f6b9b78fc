use Rattle.flow_maps.proofs.Names.{None, both}
use Rattle.flow_maps.proofs.Naming.{map_updates_name}
use Rattle.flow_maps.proofs.Signalled.{removed}
use Rattle.flow_maps.proofs.signals.SignalEvents.remove.Goals as goal

pub returns : goal.returns
returns c = λ _ f q.
    removed c.args.self.now.map c.remove.new.self c.in-Some.name (both c.args.flow.now c.args.request.now) c.in-Some.ensures (map_updates_name c.args.self.now.map c.remove.new.self c.in-Some.name None c.remove.ensures.updates) (both f q)
