-- It is that with the positions, which are let go of.
use Rattle.flow_engine.proofs.engine.Engine.open_watched.Goals as goal

pub returns-in-Ok : goal.returns-in-Ok
returns-in-Ok g c = c.in-Ok.ensures.says

pub returns-in-Err : goal.returns-in-Err
returns-in-Err g c = c.in-Err.ensures.says
