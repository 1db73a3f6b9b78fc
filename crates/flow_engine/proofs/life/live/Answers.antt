use Rattle.std.proofs.Common.{inl, inr, sym, subst}
use Rattle.sqlite.specs.Held.{Held, state}
use Rattle.sqlite.specs.State.{HasCleanDisk}
use Rattle.flow_engine.proofs.Joining.{runs_none}
use Rattle.flow_engine.proofs.life.live.Goals as goal

pub returns-in-Ok-driven-clause-lived : goal.returns-in-Ok-driven-clause-lived
returns-in-Ok-driven-clause-lived g c clean = record {
  first = c.in-Ok.engine;
  positions = c.found-found.result;
  is = (clean, c.in-Ok.ensures.opens, c.found-found.ensures.found, c.in-Ok-driven.ensures.runs);
}

-- Memory was wanting before the first batch: nothing was driven.
pub returns-in-Err-driven-clause-early : goal.returns-in-Err-driven-clause-early
returns-in-Err-driven-clause-early g c clean =
    let first = c.in-Ok.engine in
    let early = c.in-Err-driven.ensures.early in
    let was : HasCleanDisk (state g.S.Store first.stored.held) = subst (λ (h : Held g.row.S.Denot). HasCleanDisk (state g.S.Store h)) early.1 clean in
    inr (
      early.0,
      (
        first,
        sym early.1,
        record {
          first = first;
          positions = c.found-found.result;
          is = (was, c.in-Ok.ensures.opens, c.found-found.ensures.found, runs_none g.S.Store first);
        },
      ),
    )

pub returns-in-Err-clause-early : goal.returns-in-Err-clause-early
returns-in-Err-clause-early g c clean = inl (clean, c.in-Err.ensures.refused)
