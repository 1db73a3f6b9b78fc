use Rattle.std.proofs.Common.{Err, ap, inl, inr, refl, subst}
use Rattle.flow.proofs.over.ask_file.Goals as goal

pub returns-then-is_not_there : goal.returns-then-is_not_there
returns-then-is_not_there g c = inl (subst (g.H.System.misses c.args.system.now c.args.file.now) c.if-is_not_there.true c.is_not_there.ensures, (ap Err c.from.ensures, refl))

pub returns : goal.returns
returns g c = inr (subst (g.H.System.misses c.args.system.now c.args.file.now) c.if-is_not_there.false c.is_not_there.ensures, c.work_in_file.ensures)
