use Rattle.std.proofs.Common.{rules}
use Rattle.flow_run.proofs.Turning.{steps_same}
use Rattle.flow_run.proofs.turn.stepped.Goals as goal

pub returns-clause-step : goal.returns-clause-step
returns-clause-step c = steps_same c.args.table.now.lists.items _ _ c.args.t.now c.step.new.t c.args.cells.now.items c.step.new.cells.items c.in_ok-m.m c.in_ok-m.ensures.step (search rules)
