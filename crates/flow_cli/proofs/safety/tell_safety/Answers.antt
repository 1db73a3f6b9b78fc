use Rattle.std.proofs.Common.{◌∙◌, ap, subst}
use Rattle.std.proofs.lemmas.Result.{IfOk-weaker}
use Rattle.flow_cli.specs.Safety.{safety_status}
use Rattle.flow_cli.specs.Telling.{safety_told, Tells}
use Rattle.flow_cli.proofs.Safeties.{means_wrap}
use Rattle.flow_cli.proofs.Tellings.{same_told}
use Rattle.flow_cli.proofs.safety.tell_safety.Goals as goal

pub returns-clause-tells : goal.returns-clause-tells
returns-clause-tells g c =
    subst (λ t. Tells g.O.Output g.P.Output t c.args.output.now c.tell.new.output c.args.errors.now c.tell.new.errors c.tell.result)
    (same_told _ _ _ _ _ _ c.in_ok-lines.ensures (c.as_slice.ensures.value ∙ c.in_ok-marks.ensures) c.status.ensures
    ∙ ap (safety_told c.args.old.now c.args.new.now) c.in_ok-safety.ensures.safety) c.tell.ensures

pub returns-clause-safe : goal.returns-clause-safe
returns-clause-safe g c =
    let m = g.T.Texts.meaning c.args.old.now in
    let m' = g.T.Texts.meaning c.args.new.now in
    IfOk-weaker c.tell.result _ _ (λ n is. means_wrap m m' n (is ∙ (c.status.ensures ∙ ap safety_status c.in_ok-safety.ensures.safety))) c.tell.ensures.status
