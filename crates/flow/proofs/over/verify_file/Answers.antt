use Rattle.std.proofs.Common.{inl, refl, subst}
use Rattle.flow.proofs.over.verify_file.Goals as goal

pub returns : goal.returns
returns g c = inl (record {
  conn = c.in_ok-engine.ensures.opened.0;
  opened = c.in_ok-engine.ensures.opened.1.0;
  first = _;
  over = c.in_ok-engine.ensures.opened.1.1;
  last = _;
  told = c.verified-outcome.result;
  did = c.verified-outcome.ensures;
  closed = subst (g.H.System.closes c.args.system.now) c.close.ensures (c.close-2.ensures _ refl);
  is = c.early.ensures;
})
