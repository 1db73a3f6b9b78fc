use Rattle.flow_machine.proofs.Waiting.{activities_complete, activities_fail, timers_fire, closed_waits_on_nothing}
use Rattle.flow_machine.proofs.laws.open_waits_end.Goals as goal

pub returns-clause-completes : goal.returns-clause-completes
returns-clause-completes c = activities_complete

pub returns-clause-fails : goal.returns-clause-fails
returns-clause-fails c = activities_fail

pub returns-clause-fires : goal.returns-clause-fires
returns-clause-fires c = timers_fire

pub returns-clause-closed : goal.returns-clause-closed
returns-clause-closed c = closed_waits_on_nothing
