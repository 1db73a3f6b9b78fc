use Rattle.std.proofs.Common.{subst}
use Rattle.flow_commit.specs.Calls.{VerifySays}
use Rattle.flow_commit.specs.Keeping.{Keeping}
use Rattle.flow_engine.proofs.Found.{found_on}
use Rattle.flow_engine.proofs.engine.Engine.verify.Goals as goal

-- the positions that were found are of the opening, which no call changes
pub invariant_of-self : goal.invariant_of-self
invariant_of-self g c = found_on g.S.Store c.self.inside.keeper c.verify.new.self c.self.inside.found c.verify.ensures.stayed.follows.0 c.verify.ensures.stayed.fit c.self.invariant

-- the keeper says it
pub returns : goal.returns
returns g c = subst (λ (k : Keeping g.row.S.Denot). VerifySays g.S.Store k c.verify.new.self c.verify.result) c.self.view_is c.verify.ensures
