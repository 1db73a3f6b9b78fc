use Rattle.std.proofs.Common.{◌∙◌, sym, ap, is_some}
use Rattle.flow_model.specs.Configuration.{is_open}
use Rattle.flow_plain.specs.Shown.{plain_configuration}
use Rattle.flow_model.proofs.Awaits.{takes_value, takes_failure}
use Rattle.flow_plain.proofs.deliver.takes.Goals as goal

pub returns-in-Some : goal.returns-in-Some
returns-in-Some c =
    rw c.in-ActivityCompleted.is (c.has_kind.ensures ∙ sym (takes_value (plain_configuration c.args.run.now) c.in-ActivityCompleted.n c.in-ActivityCompleted.v c.in-Some.kind (ap is_open c.in-Open.is) (sym c.awaited.ensures ∙ c.in-Some.is)))

pub returns-in-Open-state : goal.returns-in-Open-state
returns-in-Open-state c =
    rw c.in-ActivityFailed.is (c.is_some.ensures ∙ ap is_some c.awaited-in-Open-state.ensures ∙ sym (takes_failure (plain_configuration c.args.run.now) c.in-ActivityFailed.n c.in-ActivityFailed.field-1 (ap is_open c.in-Open-state.is)))
