use Rattle.std.proofs.Common.{inl}
use Rattle.flow.proofs.running.run_in_memory.Goals as goal

pub returns : goal.returns
returns g c = inl (record {
  conn = c.in_ok-engine.ensures.opened.0;
  empty = c.in_ok-engine.ensures.opened.1.0;
  first = _;
  over = c.in_ok-engine.ensures.opened.1.1;
  last = _;
  told = c.run.result;
  did = c.run.ensures;
  is = c.early.ensures;
})
