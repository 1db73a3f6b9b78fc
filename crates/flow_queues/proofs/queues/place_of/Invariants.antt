use Rattle.std.proofs.Common.{◌≢◌, All, ℕ, take}
use Rattle.flow_queues.proofs.queues.place_of.Given as goal

abbrev pub invariant-loop-k : goal.invariant-loop-k
invariant-loop-k l = All (λ (n : ℕ). n ≢ l.number) (take l.k l.numbers)
