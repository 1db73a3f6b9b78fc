use Rattle.std.proofs.Common.{◌≡◌, false, sym, subst}
use Rattle.flow_commit.specs.Calls.{BoardSays}
use Rattle.flow_commit.specs.Keeping.{Keeping}
use Rattle.flow_commit.specs.Shutting.{AreKnown}
use Rattle.flow_engine.proofs.Found.{found_on}
use Rattle.flow_engine.proofs.engine.Engine.next_board.Goals as goal

-- the positions that were found are of the opening, which no call changes
pub invariant_of-self : goal.invariant_of-self
invariant_of-self g c = found_on g.S.Store c.self.inside.keeper c.next_board.new.self c.self.inside.found c.next_board.ensures.stayed.follows.0 c.next_board.ensures.stayed.fit c.self.invariant

pub next_board-requires : goal.next_board-requires
next_board-requires g c = record { still = subst (λ (k : Keeping g.row.S.Denot). k.halted ≡ false → AreKnown g.S.Store k c.args.posted.now.keys) (sym c.self.view_is) c.requires.still }

-- the keeper says it
pub returns : goal.returns
returns g c = subst (λ (k : Keeping g.row.S.Denot). BoardSays g.S.Store c.args.posted.now.keys c.args.at k c.next_board.new.self c.next_board.result) c.self.view_is c.next_board.ensures
