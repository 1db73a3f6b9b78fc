use Rattle.flow_maps.proofs.Signalled.{append_known}
use Rattle.flow_maps.proofs.signals.SignalEvents.add_run.Goals as goal

pub returns : goal.returns
returns c is b r number own same h =
    append_known c.args.self.now c.add_history.new.self b r c.args.flow.now c.args.run c.args.history.now number own same (c.add_history.ensures is) h
