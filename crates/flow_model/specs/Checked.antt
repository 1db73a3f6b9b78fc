-- What a checked program shows of itself, and which texts are programs.
use Rattle.std.specs.Prelude.{Bool, Result, is_ok}
use Rattle.flow_base.specs.Syntax as tree
use Rattle.flow_base.specs.Syntax.{Bytes}
use Rattle.flow_base.specs.Shown.{shown_program}
use Rattle.flow_base.specs.declared.command.TextFault.{TextFault}
use Rattle.flow_model.specs.declared.checked.Checked.{Checked}

abbrev pub shown_checked : Checked → tree.Program
shown_checked c = shown_program c.tabled.program

-- whether a text is a program, by what texts mean
abbrev pub is_program_by : (Bytes → Result tree.Program TextFault) → Bytes → Bool
is_program_by meaning text = is_ok (meaning text)
