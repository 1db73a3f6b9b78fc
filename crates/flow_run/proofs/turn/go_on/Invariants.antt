use Rattle.std.proofs.Common.{◌≡◌, ℕ, Some}
use Rattle.flow_model.specs.Turn.{steps}
use Rattle.flow_model.specs.Deliver.{Progress}
use Rattle.flow_model.specs.Weights.{weight_of}
use Rattle.flow_run.specs.Position.{IsWholeTurning, shown_frame, shown_progress}
use Rattle.flow_run.proofs.turn.go_on.Given as goal

-- where the steps from here lead, the steps from the start lead too
abbrev pub invariant-loop-steps : goal.invariant-loop-steps
invariant-loop-steps l = record {
  leads : (m : ℕ) (q : Progress) → steps m (shown_frame l.f) (shown_progress l.table.lists.items l.p) ≡ Some q → (n : ℕ) × (steps n (shown_frame l.f) (shown_progress l.table.lists.items l.initial.p) ≡ Some q);
  whole : IsWholeTurning l.table.lists.items l.p;
}

abbrev pub decreases-loop-steps : goal.decreases-loop-steps
decreases-loop-steps l = weight_of (shown_progress l.table.lists.items l.p)
