use Rattle.std.proofs.Common.{rules, ◌<◌, length}
use Rattle.flow_queues.proofs.Chosen.{drop_at, removed_next}
use Rattle.flow_queues.proofs.posting.remove_marked.Goals as goal

pub loop-k-preserved : goal.loop-k-preserved
loop-k-preserved c q =
    let ts = c.args.tasks.now in
    let ms = c.args.marks.now.items in
    let k = c.loop-k.k in
    let small : k < length ms = search rules in
    let fits : k < length ts = search rules in
    let t = c.index-tasks-k.result in
    let m = c.index.result.now in
    removed_next c.loop-k.keys c.remove_if.new.keys ts ms k t m q _ (drop_at ts k t fits (search rules)) (drop_at ms k m small (search rules)) (c.remove_if.ensures q) (c.loop-k.invariant q)
