use Rattle.std.proofs.Common.{inl}
use Rattle.flow.proofs.over.work_over_memory.Goals as goal

pub returns : goal.returns
returns g c = inl (record {
  conn = c.in_ok-engine.ensures.opened.0;
  empty = c.in_ok-engine.ensures.opened.1.0;
  first = _;
  over = c.in_ok-engine.ensures.opened.1.1;
  last = _;
  told = c.performed.result;
  did = c.performed.ensures;
  is = c.early.ensures;
})
