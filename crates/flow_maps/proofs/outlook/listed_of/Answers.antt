use Rattle.flow_maps.proofs.Names.{◌∙◌, ℕ, List, get, nat_cmp, OpenActivity, nth, is_within, seat_tasks}
use Rattle.flow_maps.proofs.Listing.{listed_by, end_of}
use Rattle.flow_maps.proofs.Seating.{tasks_by_seat}
use Rattle.flow_maps.proofs.outlook.listed_of.Goals as goal

pub returns : goal.returns
returns c b h first low runs =
    let seats = c.args.seats.now in
    let g : ℕ → List OpenActivity = λ n. seat_tasks (get nat_cmp seats.by_run n) in
    c.from_vec.ensures ∙ end_of (is_within c.args.since c.args.at) g c.loop-number.list.items c.loop-number.number-iterator _ c.in-None.ensures.steps.0 c.loop-number.invariant
    ∙ listed_by seats.ready b first c.args.since c.args.at g c.args.runs.now.keys low h.ready (tasks_by_seat seats (λ n. nth b.runs n) h) (c.into_iter-number-iterator.ensures.into_iter_gives.4) runs
