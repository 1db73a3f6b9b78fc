-- The numbers of the refusals of a view.
use Rattle.flow_base.specs.declared.code.Code.{Code}
use Rattle.flow_base.specs.declared.code.Code.TheVariants as code
use Rattle.flow_view.specs.declared.fault.ViewFault.{ViewFault}
use Rattle.flow_view.specs.declared.fault.ViewFault.TheVariants as fault

abbrev pub view_fault_code : ViewFault → Code
view_fault_code (fault.NoMemory _) = code.NoMemory
view_fault_code fault.StoreRefused = code.StoreRefused
