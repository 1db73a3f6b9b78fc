use Rattle.std.proofs.Common.{◌∙◌, ap, sym}
use Rattle.flow_run.specs.Position.{config_of, shown_begun}
use Rattle.flow_run.proofs.stance.Stance.copy.Goals as goal

pub returns-in_ok-copy-in-Some : goal.returns-in_ok-copy-in-Some
unfolding config_of
returns-in_ok-copy-in-Some c = λ p. c.in_ok-copy-in-Some.ensures ∙ ap shown_begun (sym c.in-Some.is)

pub returns-in-None : goal.returns-in-None
unfolding config_of
returns-in-None c = λ p. ap shown_begun (sym c.in-None.is)
