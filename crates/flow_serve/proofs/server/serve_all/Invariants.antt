use Rattle.std.proofs.Common.{◌≡◌, ◌≤◌, true, []}
use Rattle.std.specs.Vec.{vec_capacity}
use Rattle.flow_commit.specs.Keeping.{account_of}
use Rattle.flow_commit.specs.Shutting.{AreOver}
use Rattle.flow_hub.specs.Knowing.{IsBefore}
use Rattle.flow_hub.specs.Publishing.{TakesAll, Together}
use Rattle.flow_engine.specs.Answering.{Follows}
use Rattle.flow_serve.specs.Posting.{IsKnown, Posts}
use Rattle.flow_serve.specs.Serving.{GivesUp}
use Rattle.flow_serve.proofs.Served.{Turned}
use Rattle.flow_serve.proofs.server.serve_all.Given as goal

-- An engine that had halted has done nothing.
abbrev pub invariant-loop : goal.invariant-loop
invariant-loop g l =
    record {
      together : Together (account_of g.S.Store l.engine) l.publisher;
      known : IsKnown g.S.Store l.engine l.publisher.posted l.publisher.gone;
      over : AreOver g.S.Store l.fn.engine l.fn.publisher.gone → AreOver g.S.Store l.engine l.publisher.gone;
      halted : l.engine.halted ≡ l.fn.engine.halted;
      still : l.engine.halted ≡ true → (l.engine ≡ l.fn.engine) × (l.publisher.refused ≡ l.fn.publisher.refused);
      gives : GivesUp l.fn.publisher.refused l.publisher.refused;
      turned : Turned g.S.Store (AreOver g.S.Store l.fn.engine l.fn.publisher.gone) (g.C.Clock.tells l.fn.clock) l.fn.engine l.engine l.fn.publisher.refused l.publisher.refused
          l.fn.publisher.posted l.publisher.posted l.fn.publisher.skipped l.publisher.skipped;
      whole : TakesAll l.fn.most l.fn.publisher l.publisher;
      posts : AreOver g.S.Store l.fn.engine l.fn.publisher.gone → Posts g.S.Store (g.C.Clock.tells l.fn.clock) l.engine l.fn.publisher.posted l.publisher.posted;
      found : l.engine.found ≡ l.fn.engine.found;
      follows : Follows g.S.Store l.fn.engine l.engine;
      grows : IsBefore l.fn.publisher l.publisher;
      boarded : l.publisher.boarded ≡ true;
      ended : l.publisher.ended ≡ l.fn.publisher.ended;
      empty : l.taken.items ≡ [];
      room : l.fn.most ≤ vec_capacity l.taken;
      next : (goal.iterator-loop g).can_next l.iterator';
      ends : (goal.iterator-loop g).is_finite l.iterator';
    }
