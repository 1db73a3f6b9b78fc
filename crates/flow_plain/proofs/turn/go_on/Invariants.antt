use Rattle.std.proofs.Common.{◌≡◌, ℕ, Some}
use Rattle.flow_model.specs.Turn.{steps}
use Rattle.flow_model.specs.Deliver.{Progress}
use Rattle.flow_plain.specs.Shown.{shown_frame, shown_progress}
use Rattle.flow_model.specs.Weights.{weight_of}
use Rattle.flow_plain.proofs.turn.go_on.Given as goal

-- where the steps from here lead, the steps from the start lead too
abbrev pub invariant-loop-q : goal.invariant-loop-q
invariant-loop-q l = (m : ℕ) (q : Progress) → steps m (shown_frame l.f) (shown_progress l.p) ≡ Some q → (n : ℕ) × (steps n (shown_frame l.f) (shown_progress l.initial.p) ≡ Some q)

abbrev pub decreases-loop-q : goal.decreases-loop-q
decreases-loop-q l = weight_of (shown_progress l.p)
