-- The refusals of a run, and their numbers.
use Rattle.flow_base.specs.declared.code.Code.{Code}
use Rattle.flow_base.specs.declared.code.Code.TheVariants as code
use Rattle.flow_run.specs.declared.fault.RunFault.{RunFault}
use Rattle.flow_run.specs.declared.fault.RunFault.TheVariants as fault

abbrev pub run_fault_code : RunFault → Code
run_fault_code (fault.NoMemory _) = code.NoMemory
run_fault_code fault.NotAwaited = code.NotAwaited
run_fault_code fault.Closed = code.Closed
