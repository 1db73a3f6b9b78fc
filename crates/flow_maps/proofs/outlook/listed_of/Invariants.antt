use Rattle.std.specs.Prelude.{◌≡◌, ◌++◌}
use Rattle.flow_maps.proofs.Names.{ℕ, get, nat_cmp, is_within, ready_of, seat_tasks}
use Rattle.flow_maps.proofs.outlook.listed_of.Given as goal

abbrev pub invariant-loop-number : goal.invariant-loop-number
invariant-loop-number l =
    l.list.items ++ ready_of (is_within l.fn.since l.fn.at) (λ (n : ℕ). seat_tasks (get nat_cmp l.fn.seats.by_run n)) l.number-iterator ≡ ready_of (is_within l.fn.since l.fn.at) (λ (n : ℕ). seat_tasks (get nat_cmp l.fn.seats.by_run n)) l.fn.runs.keys
