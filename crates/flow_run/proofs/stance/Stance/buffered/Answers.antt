use Rattle.std.proofs.Common.{◌∙◌, Option, ap, sym}
use Rattle.flow_run.specs.Position.{config_of, shown_begun}
use Rattle.flow_run.specs.declared.standing.Standing.{Standing}
use Rattle.flow_run.proofs.stance.Stance.buffered.Goals as goal

pub returns-in-Some : goal.returns-in-Some
unfolding config_of
returns-in-Some c =
    ap (λ (o : Option Standing). (shown_begun o).buffer) c.in-Some.is ∙ sym (ap (λ (r : Standing). r.buffer) c.get.ensures.same) ∙ sym c.entries.ensures
