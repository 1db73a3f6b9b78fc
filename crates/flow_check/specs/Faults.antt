-- What a checking fault is called, and where it stands.
use Rattle.std.specs.Prelude.{◌≡◌, ℕ, Option, Some, None}
use Rattle.flow_base.specs.Syntax.{Program}
use Rattle.flow_model.specs.WellFormed.{IsFirstFault, first_fault}
use Rattle.flow_base.specs.declared.code.Code.{Code}
use Rattle.flow_base.specs.declared.code.Code.TheVariants as code
use Rattle.flow_check.specs.declared.fault.CheckFault.{CheckFault}
use Rattle.flow_check.specs.declared.fault.CheckFault.TheVariants as fault

abbrev pub check_fault_code : CheckFault → Code
check_fault_code (fault.NoMemory _) = code.NoMemory
check_fault_code (fault.Rule f) = f.code

abbrev pub check_fault_place : CheckFault → Option ℕ
check_fault_place (fault.NoMemory _) = None
check_fault_place (fault.Rule f) = Some f.at

-- what `check` answers for a program that it refuses
abbrev pub IsCheckFault : Program → CheckFault → Type 0
IsCheckFault p (fault.NoMemory _) = Unit {0}
IsCheckFault p (fault.Rule f) = IsFirstFault p f × (first_fault p ≡ Some f)
