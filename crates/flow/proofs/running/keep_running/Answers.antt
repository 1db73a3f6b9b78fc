use Rattle.std.proofs.Common.{inl, inr, refl}
use Rattle.flow.proofs.running.keep_running.Goals as goal

pub returns-in-Ok : goal.returns-in-Ok
returns-in-Ok g c = inl (c.in-Ok.settings, (c.in-Ok.ensures.set, c.run_over.ensures))

pub returns-in-Err : goal.returns-in-Err
returns-in-Err g c = inr (c.in-Err.early, (c.in-Err.ensures.unset, refl))
