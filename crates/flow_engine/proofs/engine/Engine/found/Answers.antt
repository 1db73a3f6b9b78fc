use Rattle.std.proofs.Common.{subst, sym}
use Rattle.flow_check.specs.Language.{meaning_of}
use Rattle.flow_recover.specs.Positions.{ArePositions}
use Rattle.flow_engine.specs.Opening.{HasFound}
use Rattle.flow_engine.proofs.Found.{found_of}
use Rattle.flow_engine.proofs.engine.Engine.found.Goals as goal

pub returns-clause-found : goal.returns-clause-found
returns-clause-found g c = rw (← c.self.view_is) (λ fit. subst (HasFound g.S.Store c.self.inside.keeper) (sym c.again.ensures) (c.self.invariant fit))

pub returns-clause-book : goal.returns-clause-book
returns-clause-book g c =
    rw (← c.self.view_is)
    (λ fit b is. subst (ArePositions meaning_of b) (sym c.again.ensures) (found_of g.S.Store c.self.inside.keeper c.self.inside.found b (c.self.invariant fit) is))
