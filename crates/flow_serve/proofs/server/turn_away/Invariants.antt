use Rattle.std.proofs.Common.{◌≡◌, true, List, []}
use Rattle.flow_base.specs.declared.submission.Taken.{Taken}
use Rattle.flow_hub.specs.Knowing.{IsBefore}
use Rattle.flow_hub.specs.Publishing.{TakesAll}
use Rattle.flow_serve.specs.Posting.{SkipsFor}
use Rattle.flow_serve.specs.Serving.{TurnsAway}
use Rattle.flow_serve.proofs.server.turn_away.Given as goal

abbrev pub invariant-loop : goal.invariant-loop
invariant-loop g l =
    record {
      ended : l.publisher.ended ≡ true;
      none : l.publisher.held ≡ [];
      history : l.publisher.history ≡ l.fn.publisher.history;
      last : l.publisher.last ≡ l.fn.publisher.last;
      gone : l.publisher.gone ≡ l.fn.publisher.gone;
      posted : l.publisher.posted ≡ l.fn.publisher.posted;
      skipped : SkipsFor l.fn.fault l.fn.publisher.skipped l.publisher.skipped;
      whole : TakesAll l.fn.most l.fn.publisher l.publisher;
      turned : (waiting : List Taken) × TurnsAway l.fn.publisher.refused l.publisher.refused waiting;
      grows : IsBefore l.fn.publisher l.publisher;
      next : (goal.iterator-loop g).can_next l.iterator';
      ends : (goal.iterator-loop g).is_finite l.iterator';
    }
