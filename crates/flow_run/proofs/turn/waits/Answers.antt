use Rattle.flow_run.proofs.Copied.{waits_more}
use Rattle.flow_run.proofs.turn.waits.Goals as goal

pub loop-c-preserved : goal.loop-c-preserved
loop-c-preserved c =
    waits_more c.args.cells.now c.loop-c.c-index c.c-item.result c.in_ok-wait.wait c.loop-c.list.items c.add_wait.new.list.items c.loop-c-test.true c.c-item.is c.loop-c.invariant c.in_ok-wait.ensures c.in_ok-add_wait.ensures
