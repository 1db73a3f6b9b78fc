use Rattle.std.proofs.Common.{sym, subst, length, ◌<◌}
use Rattle.flow_pool.proofs.Telling.{may_set, named_set}
use Rattle.flow_pool.proofs.attempts.attempted.Goals as goal

pub returns-in-Some-clause-keeps : goal.returns-in-Some-clause-keeps
returns-in-Some-clause-keeps g c =
    may_set g.A.Activity.named g.A.Activity.gives c.args.activities.now.items c.in-Some.i c.index_mut.result.now c.run.new.self (subst (λ xs. c.in-Some.i < length xs) c.as_slice.ensures.value c.in-Some.ensures.some.0) (sym c.index_mut.ensures.value) c.run.ensures.named c.run.ensures.keeps

pub returns-in-Some-clause-named : goal.returns-in-Some-clause-named
returns-in-Some-clause-named g c =
    named_set g.A.Activity.named c.args.activities.now.items c.in-Some.i c.index_mut.result.now c.run.new.self (subst (λ xs. c.in-Some.i < length xs) c.as_slice.ensures.value c.in-Some.ensures.some.0) (sym c.index_mut.ensures.value) c.run.ensures.named
