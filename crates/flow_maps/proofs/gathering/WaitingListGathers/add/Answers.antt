use Rattle.std.specs.Prelude.{◌≡◌, ◌+◌, ◌++◌, ◌∷◌}
use Rattle.flow_maps.proofs.Names.{rules, List, filter, length, refl, Run, least_of, timers_left, is_open_run, is_within, soonest, waiting_in}
use Rattle.flow_maps.proofs.Gathered.{listing_goes_on}
use Rattle.flow_maps.proofs.gathering.WaitingListGathers.add.Goals as goal

pub returns : goal.returns
returns c rs =
    let old = c.args.self.now in
    let run = c.args.run.now in
    let ready : c.add_tasks.new.list.items ≡ old.ready.items ++ filter (is_within old.since old.at) (waiting_in c.args.number run.tasks) = search rules in
    let next : c.soonest-next.result ≡ soonest old.at old.next (waiting_in c.args.number run.tasks) = search rules in
    let first : c.least_of-first.result ≡ least_of 1000000000000000 c.args.number old.first (timers_left run.history) = search rules in
    let opened : (rs : List Run) → length c.list_open.new.list.items + length (filter is_open_run rs) ≡ length old.opened.items + length (filter is_open_run (run ∷ rs)) = search rules in
    listing_goes_on old (record old { ready = c.add_tasks.new.list; next = c.soonest-next.result; first = c.least_of-first.result; opened = c.list_open.new.list }) c.args.number run refl refl ready next first opened rs
