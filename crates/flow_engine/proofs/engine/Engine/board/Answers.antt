use Rattle.std.proofs.Common.{subst}
use Rattle.flow_commit.specs.Calls.{BoardSays}
use Rattle.flow_commit.specs.Keeping.{Keeping}
use Rattle.flow_engine.proofs.Found.{found_on}
use Rattle.flow_engine.proofs.engine.Engine.board.Goals as goal

-- the positions that were found are of the opening, which no call changes
pub invariant_of-self : goal.invariant_of-self
invariant_of-self g c = found_on g.S.Store c.self.inside.keeper c.board.new.self c.self.inside.found c.board.ensures.stayed.follows.0 c.board.ensures.stayed.fit c.self.invariant

-- the keeper says it
pub returns : goal.returns
returns g c = subst (λ (k : Keeping g.row.S.Denot). BoardSays g.S.Store c.args.posted.now.keys c.args.at k c.board.new.self c.board.result) c.self.view_is c.board.ensures
