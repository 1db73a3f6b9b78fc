use Rattle.std.proofs.Common.{◌≡◌, ◌<◌, length, rules, false}
use Rattle.flow_run.specs.Waiting.{on_activity}
use Rattle.flow_run.proofs.Delivering.{none_more}
use Rattle.flow_run.proofs.deliver.activity_at.Goals as goal

pub loop-i-preserved : goal.loop-i-preserved
loop-i-preserved c =
    let item = c.index-cells-i.result in
    let there : c.loop-i.i < length c.args.cells.now = search rules in
    let other : on_activity c.args.n item.doing ≡ false = search rules in
    none_more (on_activity c.args.n) c.args.cells.now c.loop-i.i item there c.index-cells-i.is c.loop-i.invariant other
