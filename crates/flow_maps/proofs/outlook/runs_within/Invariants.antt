use Rattle.std.specs.Prelude.{◌≡◌, ◌||◌}
use Rattle.flow_maps.proofs.Names.{ℕ, contains, list_any, nat_cmp, Slot, part_within, is_run}
use Rattle.flow_maps.proofs.outlook.runs_within.Given as goal

abbrev pub invariant-loop-slot : goal.invariant-loop-slot
invariant-loop-slot l = (n : ℕ) → (contains nat_cmp l.runs n || list_any (λ (q : Slot). is_run q.1 n) l.slot-iterator) ≡ list_any (λ (q : Slot). is_run q.1 n) (part_within l.fn.first l.fn.at l.fn.ready.keys)
