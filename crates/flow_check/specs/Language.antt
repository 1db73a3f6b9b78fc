-- What texts mean, as a function.
use Rattle.std.specs.Prelude.{Bool, Result}
use Rattle.flow_base.specs.Syntax.{Bytes, Program}
use Rattle.flow_base.specs.declared.command.TextFault.{TextFault}
use Rattle.flow_model.specs.Checked.{is_program_by}
use Rattle.flow_syntax.proofs.Meaning.{meant}

-- What the text means: the one m for which `Means text m` holds. The proof that there is one constructs it, and this is what
-- it constructs.
unfoldable pub meaning_of : Bytes → Result Program TextFault
meaning_of text = (meant text).0

-- whether it is a program that keeps the checking rules
abbrev pub is_program : Bytes → Bool
is_program = is_program_by meaning_of
