use Rattle.std.proofs.Common.{◌≡◌, ◌+◌, drop}
use Rattle.flow_model.specs.Checked.{is_program_by}
use Rattle.flow_rows.specs.Damages.{first_of, damages_of_texts}
use Rattle.flow_rows.proofs.texts.text_damage.Given as goal

abbrev pub invariant-loop-i : goal.invariant-loop-i
invariant-loop-i g l = first_of (damages_of_texts (is_program_by g.T.Texts.meaning) 1 l.rows) ≡ first_of (damages_of_texts (is_program_by g.T.Texts.meaning) (l.i + 1) (drop l.i l.rows))
