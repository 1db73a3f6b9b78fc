-- The type of a value, and the numbers of the refusals of values.
use Rattle.flow_base.specs.declared.value.Kind.{Kind}
use Rattle.flow_base.specs.declared.value.Kind.TheVariants as kind
use Rattle.flow_base.specs.declared.value.Value.{Value}
use Rattle.flow_base.specs.declared.value.Value.TheVariants as value
use Rattle.flow_base.specs.declared.value.ValueFault.{ValueFault}
use Rattle.flow_base.specs.declared.value.ValueFault.TheVariants as fault
use Rattle.flow_base.specs.declared.code.Code.{Code}
use Rattle.flow_base.specs.declared.code.Code.TheVariants as code

abbrev pub kind_of_value : Value → Kind
kind_of_value (value.Int z) = kind.Int
kind_of_value (value.Text t) = kind.Text

abbrev pub value_fault_code : ValueFault → Code
value_fault_code (fault.NoMemory _) = code.NoMemory
value_fault_code fault.NotAValue = code.NotAValue
value_fault_code fault.TooLong = code.TooLong
