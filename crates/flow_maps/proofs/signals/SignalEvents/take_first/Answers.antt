use Rattle.flow_maps.proofs.Names.{Some, ap, sym, subst, ◌∙◌, IsUntaken}
use Rattle.flow_maps.proofs.Signalled.{first_untaken, taken_known}
use Rattle.flow_maps.proofs.signals.SignalEvents.take_first.Goals as goal

pub returns-in-Ok : goal.returns-in-Ok
returns-in-Ok c b d taken h =
    let flow = c.args.flow.now in
    let request = c.args.request.now in
    let done = c.take.ensures c.if-not-take.false in (
      taken_known c.args.self.now c.take.new.self b d flow request c.args.run c.args.count taken done.0 done.1 h,
      subst (λ o. IsUntaken o flow b d) (ap Some (sym c.in-Ok.ensures)) (first_untaken b d flow request c.args.run c.args.count taken (sym (h flow request) ∙ done.0)),
    )
