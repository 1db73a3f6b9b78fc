-- Whether an input and an output have failed, and which fault says it. Nothing else than a call that fails makes them so.
use Rattle.std.specs.Prelude.{◌≡◌, ◌≤◌, ◌⊎◌, ◌+◌, ◌^◌, ℕ, Bool, true, Result, Ok, Err}
use Rattle.flow_base.specs.declared.fault.Fault.{Fault}
use Rattle.flow_base.specs.declared.fault.Fault.TheVariants as fault
use Rattle.flow_lines.specs.declared.input.Unread.{Unread}
use Rattle.flow_lines.specs.declared.input.Unread.TheVariants as unread
use Rattle.flow_lines.specs.declared.output.Unwritten.{Unwritten}
use Rattle.flow_lines.specs.declared.output.Unwritten.TheVariants as unwritten

-- ---- by the answer of an input and an output

abbrev pub read_failed : {A : Type 0} → Result A Unread → Bool → Bool
read_failed (Ok a) before = before
read_failed (Err (unread.NoMemory _)) before = before
read_failed (Err unread.Failed) before = true

abbrev pub unwritten_failed : Unwritten → Bool → Bool
unwritten_failed (unwritten.NoMemory _) before = before
unwritten_failed unwritten.Failed before = true

abbrev pub write_failed : {A : Type 0} → Result A Unwritten → Bool → Bool
write_failed (Ok a) before = before
write_failed (Err e) before = unwritten_failed e before

-- memory was refused for what was to be written
abbrev pub unwritten_ran_out : Unwritten → Bool → Bool
unwritten_ran_out (unwritten.NoMemory _) before = true
unwritten_ran_out unwritten.Failed before = before

abbrev pub write_ran_out : {A : Type 0} → Result A Unwritten → Bool → Bool
write_ran_out (Ok a) before = before
write_ran_out (Err e) before = unwritten_ran_out e before

-- So many lines at least were given, and not more than are counted.
abbrev pub Gives : ℕ → ℕ → ℕ → Type 0
Gives n old new = (n + old ≤ new) × ((new ≡ old) ⊎ (new + 2 ≤ 2 ^ 64))

-- ---- by the fault that is told

abbrev pub fault_of_unread : Unread → Fault
fault_of_unread (unread.NoMemory _) = fault.NoMemory _
fault_of_unread unread.Failed = fault.InputFailed

abbrev pub fault_of_unwritten : Unwritten → Fault
fault_of_unwritten (unwritten.NoMemory _) = fault.NoMemory _
fault_of_unwritten unwritten.Failed = fault.OutputFailed

abbrev pub is_input : Fault → Bool → Bool
is_input fault.InputFailed before = true
is_input f before = before

abbrev pub is_output : Fault → Bool → Bool
is_output fault.OutputFailed before = true
is_output f before = before

-- whether an input has failed: E94, and else as before
abbrev pub input_failed : {A : Type 0} → Result A Fault → Bool → Bool
input_failed (Ok a) before = before
input_failed (Err f) before = is_input f before

-- whether an output has failed: E95, and else as before
abbrev pub output_failed : {A : Type 0} → Result A Fault → Bool → Bool
output_failed (Ok a) before = before
output_failed (Err f) before = is_output f before
