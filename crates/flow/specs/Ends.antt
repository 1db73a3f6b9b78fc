-- How a call ends whose fault tells by itself why.
use Rattle.std.specs.Prelude.{◌≡◌, ℕ, Result, Ok, Err}
use Rattle.flow_base.specs.declared.fault.Fault.{Fault}
use Rattle.flow_cli.specs.Reasons.{early_of}
use Rattle.flow_cli.specs.declared.reason.Early.{Early}

abbrev pub told_early : Result ℕ Fault → Result ℕ Early
told_early (Ok status) = Ok status
told_early (Err fault) = Err (early_of fault)

-- The call ended with what its last step told.
pub record Ends (does : Result ℕ Fault → Type 0) (r : Result ℕ Early) : Type 0 where
  pub told : Result ℕ Fault
  pub did : does told
  pub is : r ≡ told_early told
