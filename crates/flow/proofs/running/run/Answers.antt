use Rattle.std.proofs.Common.{inr}
use Rattle.flow.proofs.Runs.{unrun}
use Rattle.flow.proofs.running.run.Goals as goal

pub returns-in-Err : goal.returns-in-Err
returns-in-Err g c = unrun c.args.activities _ _ _ _ _ c.in-Err.fault (inr c.in-Err.ensures.refused)
