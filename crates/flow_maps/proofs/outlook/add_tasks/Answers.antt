use Rattle.std.specs.Prelude.{◌≡◌, ◌+◌, ◌++◌, ◌∷◌}
use Rattle.flow_maps.proofs.Names.{drop, filter, suc, sym, ap, ◌∙◌, drop-cons, arith, is_within, waiting_in}
use Rattle.flow_maps.proofs.Listing.{one_more}
use Rattle.flow_maps.proofs.outlook.add_tasks.Goals as goal

pub loop-task-preserved : goal.loop-task-preserved
loop-task-preserved c =
    let ts = c.args.tasks.now in
    let i = c.loop-task.task-index in
    let t = c.task-item.result in
    let more : suc i ≡ i + 1 = omega arith in
    let cut : drop i ts ≡ t ∷ drop (i + 1) ts = drop-cons ts i t c.loop-task-test.true ∙ ap (λ x. x ∷ drop (suc i) ts) (sym c.task-item.is) ∙ ap (λ n. t ∷ drop n ts) more in
    one_more (is_within c.args.since c.args.at) c.args.run c.loop-task.list.items c.add_task.new.list.items t (drop i ts) (drop (i + 1) ts) (c.args.list.now.items ++ filter (is_within c.args.since c.args.at) (waiting_in c.args.run ts)) cut c.in_ok-add_task.ensures c.loop-task.invariant
