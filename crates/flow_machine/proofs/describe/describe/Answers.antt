use Rattle.std.proofs.Common.{sym, subst}
use Rattle.flow_model.specs.Apply.{Outcome}
use Rattle.flow_machine.specs.Deciding.{FindsAlways}
use Rattle.flow_machine.proofs.ByHeads.{describe_is}
use Rattle.flow_machine.proofs.describe.describe.Goals as goal

pub returns : goal.returns
returns g c =
    let is = describe_is (g.V.View.book c.args.view.now) c.args.number in
    subst (λ (o : Outcome). FindsAlways g.V.View c.args.view.now c.tell_run.new.view c.tell_run.result o) (sym is) c.tell_run.ensures
