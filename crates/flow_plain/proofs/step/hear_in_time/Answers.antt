use Rattle.flow_base.specs.declared.event.Cmd.TheVariants.{CancelTimer}
use Rattle.flow_model.specs.Step.{Stays}
use Rattle.flow_plain.proofs.step.hear_in_time.Goals as goal

pub returns-then-is_there-clause-step : goal.returns-then-is_there-clause-step
returns-then-is_there-clause-step c = rw c.if-is_there.true at (c.in_ok-is_there.ensures.in_time (CancelTimer c.args.timer) Stays)

pub returns-else-is_there-clause-step : goal.returns-else-is_there-clause-step
returns-else-is_there-clause-step c = rw c.if-is_there.false at (c.in_ok-is_there.ensures.in_time (CancelTimer c.args.timer) Stays)
