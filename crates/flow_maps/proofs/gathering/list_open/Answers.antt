use Rattle.std.specs.Prelude.{◌≡◌, ◌+◌}
use Rattle.flow_maps.proofs.Names.{rules, ◌∙◌, ap, length, filter, true, false, is_open_run}
use Rattle.flow_maps.proofs.Gathered.{open_more, closed_more}
use Rattle.flow_maps.proofs.gathering.list_open.Goals as goal

pub returns-then-not-is_open : goal.returns-then-not-is_open
returns-then-not-is_open c rs = let closed : is_open_run c.args.run.now ≡ false = search rules in closed_more (length c.args.list.now.items) c.args.run.now rs closed

pub returns : goal.returns
returns c rs =
    let opened : is_open_run c.args.run.now ≡ true = search rules in
    ap (λ xs. length xs + length (filter is_open_run rs)) c.in_ok-push.ensures.items ∙ open_more c.args.number c.args.list.now.items c.args.run.now rs opened
