-- The classes of bytes of which runs are made.
use Rattle.std.specs.Prelude.{ℕ, Bool}
use Rattle.flow_model.specs.Tokens.{is_blank, is_inside_comment, is_name_byte, is_digit, is_plain}
use Rattle.flow_tokens.specs.declared.run.Class.{Class}
use Rattle.flow_tokens.specs.declared.run.Class.TheVariants.{Blank, Comment, Word, Digit, Plain}

abbrev pub has : Class → ℕ → Bool
has Blank b = is_blank b
has Comment b = is_inside_comment b
has Word b = is_name_byte b
has Digit b = is_digit b
has Plain b = is_plain b
