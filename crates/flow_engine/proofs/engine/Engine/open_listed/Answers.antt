-- It is that with all positions.
use Rattle.std.proofs.Common.{List, subst, sym}
use Rattle.flow_commit.specs.Keeping.{IsFit}
use Rattle.flow_recover.specs.declared.positions.Position.{Position}
use Rattle.flow_engine.specs.Opening.{HasFound}
use Rattle.flow_engine.proofs.engine.Engine.open_listed.Goals as goal

pub returns-in-Ok-clause-says : goal.returns-in-Ok-clause-says
returns-in-Ok-clause-says g c = c.in-Ok.ensures.says

pub returns-in-Ok-clause-positions : goal.returns-in-Ok-clause-positions
returns-in-Ok-clause-positions g c =
    subst (λ (qs : List Position). IsFit g.S.Store c.in-Ok.engine → HasFound g.S.Store c.in-Ok.engine qs) (sym c.all_of.ensures) c.in-Ok.ensures.positions

pub returns-in-Err-clause-says : goal.returns-in-Err-clause-says
returns-in-Err-clause-says g c = c.in-Err.ensures.says
