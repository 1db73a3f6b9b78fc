use Rattle.flow_hub.specs.Waking.{AreQuiet}
use Rattle.flow_hub.proofs.waits.Waits.wake_answered.Given as goal

abbrev pub invariant-loop-place : goal.invariant-loop-place
invariant-loop-place l = AreQuiet l.wake.told l.place
