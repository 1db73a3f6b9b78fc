use Rattle.flow_maps.proofs.Names.{subst, IsUntaken}
use Rattle.flow_maps.proofs.Signalled.{stays_known, untaken_known}
use Rattle.flow_maps.proofs.signals.SignalEvents.put_back.Goals as goal

pub returns-in-Some : goal.returns-in-Some
returns-in-Some c is b d untaken h =
    untaken_known c.args.self.now c.remove.new.self b d c.args.flow.now c.in-Some.request (c.remove.ensures is) (subst (λ o. IsUntaken o c.args.flow.now b d) c.in-Some.is untaken) h

pub returns-in-None : goal.returns-in-None
returns-in-None c is b d untaken h = stays_known c.args.self.now d b (subst (λ o. IsUntaken o c.args.flow.now b d) c.in-None.is untaken) h
