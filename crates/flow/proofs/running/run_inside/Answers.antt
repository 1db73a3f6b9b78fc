use Rattle.std.proofs.Common.{inl, inr, refl}
use Rattle.flow_work.specs.Endings.{EndsServing, HasServedAll}
use Rattle.flow.proofs.Runs.{either, ended_by, ended_well, status_made}
use Rattle.flow.proofs.running.run_inside.Goals as goal

pub returns-in-Ok-clause-runs : goal.returns-in-Ok-clause-runs
returns-in-Ok-clause-runs g c =
    let ended = c.in-Ok.ended in
    let old = c.args.engine.now in
    let new = c.work_shown.new.engine in
    record {
      served = ended_well ended.served ended.status c.outcome.result (HasServedAll g.S.Store old new) c.in-Ok.ensures.ran.served c.outcome.ensures.fault c.outcome.ensures.done;
      ends = either c.outcome.result (EndsServing g.S.Store old new) _ (λ f h. inl h) (ended_by ended.served ended.status c.outcome.result (EndsServing g.S.Store old new) c.in-Ok.ensures.ran.ends c.outcome.ensures.served c.outcome.ensures.fault);
      found = c.work_shown.ensures.ran.found;
      follows = c.work_shown.ensures.ran.follows;
    }

pub returns-in-Err-clause-runs : goal.returns-in-Err-clause-runs
returns-in-Err-clause-runs g c =
    let ran = c.in-Err.ensures.ran in
    record { served = tt; ends = inr (inl ran.unserved.0, ran.unserved.1); found = ran.found; follows = ran.follows }

pub returns-in-Ok-clause-replies : goal.returns-in-Ok-clause-replies
returns-in-Ok-clause-replies g c = inl (record {
  writer = c.replies-output.result;
  printed = c.replies-output.ensures;
  ended = c.in-Ok.ended;
  replies = c.in-Ok.ensures.printed;
  status = status_made c.in-Ok.ended.status c.outcome.result c.outcome.ensures.done;
})

pub returns-in-Err-clause-replies : goal.returns-in-Err-clause-replies
returns-in-Err-clause-replies g c = inr (c.in-Err.fault, (refl, (inl c.in-Err.ensures.ran.unserved.0, c.in-Err.ensures.ran.unserved.1)))
