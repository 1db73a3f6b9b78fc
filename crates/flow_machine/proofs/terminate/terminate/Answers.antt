use Rattle.std.proofs.Common.{sym, subst}
use Rattle.flow_model.specs.Apply.{Outcome}
use Rattle.flow_machine.specs.Deciding.{FindsAlways}
use Rattle.flow_machine.proofs.ByHeads.{terminate_is}
use Rattle.flow_machine.proofs.terminate.terminate.Goals as goal

pub returns : goal.returns
returns g c =
    let is = terminate_is (g.V.View.book c.args.view.now) c.args.number c.args.reason.now c.args.at in
    subst (λ (o : Outcome). FindsAlways g.V.View c.args.view.now c.end_run.new.view c.end_run.result o) (sym is) c.end_run.ensures
