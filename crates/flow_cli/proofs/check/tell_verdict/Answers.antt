use Rattle.std.proofs.Common.{◌∙◌, ap, subst}
use Rattle.flow_cli.specs.Telling.{verdict_told, Tells}
use Rattle.flow_cli.proofs.Tellings.{same_told}
use Rattle.flow_cli.proofs.check.tell_verdict.Goals as goal

pub returns : goal.returns
returns g c =
    subst (λ t. Tells g.O.Output g.P.Output t c.args.output.now c.tell.new.output c.args.errors.now c.tell.new.errors c.tell.result)
    (same_told _ _ _ _ _ _ c.in_ok-line.ensures (c.as_slice.ensures.value ∙ c.in_ok-marks.ensures) c.status.ensures
    ∙ ap (verdict_told c.args.text.now) c.in_ok-verdict.ensures.verdict) c.tell.ensures
