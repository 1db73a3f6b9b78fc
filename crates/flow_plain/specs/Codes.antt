-- The refusals of a turn, and their numbers.
use Rattle.flow_base.specs.declared.code.Code.{Code}
use Rattle.flow_base.specs.declared.code.Code.TheVariants as code
use Rattle.flow_plain.specs.declared.plain.TurnFault.{TurnFault}
use Rattle.flow_plain.specs.declared.plain.TurnFault.TheVariants as fault

abbrev pub turn_fault_code : TurnFault → Code
turn_fault_code (fault.NoMemory _) = code.NoMemory
turn_fault_code fault.NotAwaited = code.NotAwaited
turn_fault_code fault.Closed = code.Closed
