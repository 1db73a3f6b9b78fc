use Rattle.std.proofs.Common.{◌+◌, drop}
use Rattle.flow_machine.specs.Listed.{signals_in}
use Rattle.flow_machine.proofs.OpenRuns.{cut_at, one_signal}
use Rattle.flow_machine.proofs.listing.signals.Goals as goal

pub loop-wait-preserved : goal.loop-wait-preserved
loop-wait-preserved c =
    let waits = c.args.waits.now in
    let i = c.loop-wait.wait-index in
    let wait = c.wait-item.result in
    one_signal (signals_in waits) (drop i waits) wait (drop (i + 1) waits) c.loop-wait.list.items c.list_signal.new.list.items (cut_at waits i wait c.loop-wait-test.true c.wait-item.is) c.loop-wait.invariant c.in_ok-list_signal.ensures
