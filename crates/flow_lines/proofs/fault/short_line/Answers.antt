use Rattle.std.proofs.Common.{ap, ◌∙◌}
use Rattle.flow_base.specs.Codes.{code_number}
use Rattle.flow_lines.proofs.Faults.{short_spelled}
use Rattle.flow_lines.proofs.fault.short_line.Goals as goal

pub returns : goal.returns
returns c = short_spelled c.args.fault.now c.number-number.result (c.number-number.ensures ∙ ap code_number c.code.ensures)
