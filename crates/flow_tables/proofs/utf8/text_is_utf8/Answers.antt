use Rattle.std.specs.Prelude.{IsUtf8}
use Rattle.flow_tables.proofs.Names.{subst, ◌∙◌}
use Rattle.flow_tables.proofs.utf8.text_is_utf8.Goals as goal

pub returns : goal.returns
returns c = subst IsUtf8 (c.as_bytes-bytes.ensures.value ∙ c.as_str.ensures) c.as_bytes-bytes.ensures.utf8
