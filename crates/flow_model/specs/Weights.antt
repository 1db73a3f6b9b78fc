-- What a run may still do in a turn, as a number that falls with each step. A loop weighs as much as all the turns that
-- its tests still allow.
use Rattle.std.specs.Prelude.{ℕ, ◌+◌, ◌-◌, ◌*◌}
use Rattle.flow_base.specs.Syntax.{Statement, Let, Assign, Call, WaitSignal, WaitSignalFor, Sleep, If, While, Parallel, Patch, Deprecate, Return, FailWith, Continue, Block, End, Next, Branches, NoBranch, Branch}
use Rattle.flow_base.specs.declared.event.State.{State}
use Rattle.flow_base.specs.declared.event.State.TheVariants.{Open}
use Rattle.flow_model.specs.Rest.{Rest, Done, OnActivity, OnTimer, OnSignal, OnSignalFor, Raised, Then, Beside}
use Rattle.flow_model.specs.Step.{Store, test_limit}
use Rattle.flow_model.specs.Deliver.{Progress}

-- where n tests of `while` conditions are left
abbrev mutual
  pub weight : ℕ → Statement → ℕ
  weight n (Let at name_at x e) = 1
  weight n (Assign at x e) = 1
  weight n (Call at x activity_at a es r o) = 2
  weight n (WaitSignal at x signal_at s) = 2
  weight n (WaitSignalFor at x signal_at s e b end) = 2
  weight n (Sleep at e) = 2
  weight n (If at e a a_end b b_end) = weight_block n a + weight_block n b + 1
  weight n (While at e b end) = n * (weight_block n b + 1) + 1
  weight n (Parallel at bs end) = weight_branches n bs + 1
  weight n (Patch at id_at id a a_end b b_end) = weight_block n a + weight_block n b + 1
  weight n (Deprecate at id_at id) = 1
  weight n (Return at e) = 1
  weight n (FailWith at e) = 1
  weight n (Continue at es) = 1

  pub weight_block : ℕ → Block → ℕ
  weight_block n End = 0
  weight_block n (Next s b) = weight n s + weight_block n b

  pub weight_branches : ℕ → Branches → ℕ
  weight_branches n NoBranch = 0
  weight_branches n (Branch at b end bs) = weight_block n b + weight_branches n bs

abbrev pub weight_rest : ℕ → Rest → ℕ
weight_rest n Done = 0
weight_rest n (OnActivity e x k o) = 1
weight_rest n (OnTimer e) = 1
weight_rest n (OnSignal x s) = 1
weight_rest n (OnSignalFor x s e b) = 1
weight_rest n (Raised c t) = 0
weight_rest n (Then r b) = weight_rest n r + weight_block n b
weight_rest n (Beside a b) = weight_rest n a + weight_rest n b

-- the tests that a turn has left
abbrev pub left : Store → ℕ
left t = test_limit - t.tests

-- nothing where the run is closed
abbrev pub weight_open : State → ℕ → ℕ
weight_open Open w = w + 1
weight_open s w = 0

-- the weight of a run within a turn
abbrev pub weight_of : Progress → ℕ
weight_of p = weight_open p.state (weight_rest (left p.store) p.rest)
