use Rattle.flow_serve.proofs.life.live.Goals as goal

pub served-requires-clause-fresh : goal.served-requires-clause-fresh
served-requires-clause-fresh g c = c.in-Ok.ensures.begins.1

pub returns-in-Ok-clause-lived : goal.returns-in-Ok-clause-lived
returns-in-Ok-clause-lived g c clean = record {
  first = c.in-Ok.engine;
  positions = c.found-found.result;
  hub = c.served.ensures.serves;
  is = (clean, c.in-Ok.ensures.opens, c.found-found.ensures.found, c.served.ensures.serves.runs);
}

pub returns-in-Err-clause-early : goal.returns-in-Err-clause-early
returns-in-Err-clause-early g c clean = (clean, c.in-Err.ensures.refused)
