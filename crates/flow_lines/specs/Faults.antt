-- Faults of the programs: their codes, their lines, and the status that follows.
use Rattle.std.specs.Prelude.{◌≡◌, ℕ, ℤ, List, [], ◌++◌, codes, decimal, Option, Some, None, Result, Ok, Err}
use Rattle.std.specs.Fmt.{signed_decimal}
use Rattle.flow_base.specs.Codes.{code_text, fault_code, table_name, wrong_code}
use Rattle.flow_base.specs.declared.code.Code.{Code}
use Rattle.flow_base.specs.declared.code.Code.TheVariants as code
use Rattle.flow_base.specs.declared.command.Command.{Command}
use Rattle.flow_base.specs.declared.fields.FieldFault.{FieldFault}
use Rattle.flow_base.specs.declared.fields.FieldFault.TheVariants as refused
use Rattle.flow_base.specs.declared.fault.Fault.{Fault}
use Rattle.flow_base.specs.declared.fault.Fault.TheVariants as fault
use Rattle.flow_base.specs.declared.fault.Table.{Table}
use Rattle.flow_model.specs.declared.answer.Stop.{Stop}
use Rattle.flow_model.specs.declared.answer.Stop.TheVariants as stop
use Rattle.flow_lines.specs.declared.command.LineFault.{LineFault}
use Rattle.flow_lines.specs.declared.command.LineFault.TheVariants as line_fault

abbrev pub fault_of_stop : Stop → Fault
fault_of_stop stop.Unknown = fault.Unknown
fault_of_stop stop.Halted = fault.Halted

-- a table, a run, a place in it, and the code of an event that doesn't read
abbrev pub damage_details : Table → ℤ → ℤ → Option Code → List ℕ
damage_details table run place None = codes " " ++ (table_name table ++ (codes " " ++ (signed_decimal run ++ (codes " " ++ signed_decimal place))))
damage_details table run place (Some cause) =
    codes " " ++ (table_name table ++ (codes " " ++ (signed_decimal run ++ (codes " " ++ (signed_decimal place ++ (codes " " ++ code_text cause))))))

-- what stands behind a fault's code, parted by spaces
abbrev pub fault_details : Fault → List ℕ
fault_details (fault.Mismatch run place name) = codes " " ++ (decimal run ++ (codes " " ++ (decimal place ++ (codes " " ++ code_text (wrong_code name)))))
fault_details (fault.Damaged d) = damage_details d.table d.run d.place d.cause
fault_details f = []

-- the line on standard error
abbrev pub fault_text : Fault → List ℕ
fault_text f = codes "flow: " ++ (code_text (fault_code f) ++ fault_details f)

-- the number alone, for which no memory is needed
abbrev pub short_text : Fault → List ℕ
short_text f = codes "flow: " ++ code_text (fault_code f)

-- 1 where a run is refused, 2 where the words or a file are at fault, 3 where memory or the store is
abbrev pub fault_status : Fault → ℕ
fault_status (fault.Mismatch run place name) = 1
fault_status fault.NoRun = 1
fault_status fault.NoFile = 2
fault_status fault.BadSettings = 2
fault_status fault.BadUsage = 2
fault_status f = 3

-- ---- lines

abbrev pub line_fault_code : LineFault → Code
line_fault_code (line_fault.NoMemory _) = code.NoMemory
line_fault_code line_fault.NotACommand = code.NotAValue

abbrev pub line_fault_of : FieldFault → LineFault
line_fault_of (refused.Memory _) = line_fault.NoMemory _
line_fault_of refused.Unfit = line_fault.NotACommand

-- no command is given, or memory ran out
abbrev pub GivesNoLine : LineFault → Option Command → Type 0
GivesNoLine (line_fault.NoMemory _) given = Unit {0}
GivesNoLine line_fault.NotACommand given = given ≡ None

-- Ok exactly where a command is given, and that one
abbrev pub GivesLine : Result Command LineFault → Option Command → Type 0
GivesLine (Ok c) given = given ≡ Some c
GivesLine (Err f) given = GivesNoLine f given

-- the reader gave this command, or memory ran out
abbrev pub GivesCommand : Result Command LineFault → Command → Type 0
GivesCommand (Ok c) given = c ≡ given
GivesCommand (Err f) given = f ≡ line_fault.NoMemory _
