-- What a call over a view says, whatever else it is for. `g` is the view's kind, `V.View` in a clause.
use Rattle.std.specs.Prelude.{◌⊎◌, Result, OnOk}
use Rattle.flow_view.specs.declared.fault.ViewFault.{ViewFault}
use Rattle.flow_view.specs.declared.view.View.{Ghosts}
use Rattle.flow_view.specs.Reading.{Caused}

-- What a call keeps, whatever it answers; behind an answer the view also is as sure as it was, where no disk lied.
pub record Kept {V A : Type 0} (g : Ghosts V) (old new : V) (result : Result A ViewFault) : Type 0 where
  pub goes_on : OnOk result (g.is_true new → g.is_sure old → g.is_sure new)
  pub sure : g.is_sure new → g.is_sure old
  pub was_true : g.is_true new → g.is_true old
  pub follows : (a : V) → g.follows a old → g.follows a new

-- The same, and why it answers E80: the view's store has refused something, or the call is stuck for this reason.
pub record Called {V A : Type 0} (g : Ghosts V) (old new : V) (result : Result A ViewFault) (stuck : Type 0) : Type 0 where
  pub cause : (a : V) → g.follows a old → g.is_true new → g.is_sure old → Caused result (g.refuses a new ⊎ stuck)
  pub goes_on : OnOk result (g.is_true new → g.is_sure old → g.is_sure new)
  pub sure : g.is_sure new → g.is_sure old
  pub was_true : g.is_true new → g.is_true old
  pub follows : (a : V) → g.follows a old → g.follows a new
