use Rattle.flow_run.proofs.Copied.{opens_more}
use Rattle.flow_run.proofs.turn.open_waits.Goals as goal

pub loop-c-preserved : goal.loop-c-preserved
loop-c-preserved c =
    opens_more c.args.cells.now c.loop-c.c-index c.c-item.result c.is_waiting.result c.loop-c.waits c.one_more-waits.result c.loop-c-test.true c.c-item.is c.loop-c.invariant c.is_waiting.ensures c.one_more-waits.ensures
