-- A token as the grammar sees it: the byte at which it begins, and its word.
use Rattle.std.specs.Prelude.{ℕ, List, map}
use Rattle.flow_base.specs.declared.token.Token.{Token}
use Rattle.flow_base.specs.declared.token.Word.{Word}

pub record Lexeme : Type 0 where
  pub at : ℕ
  pub word : Word

abbrev pub lexeme : Token → Lexeme
lexeme t = record { at = t.from; word = t.word }

abbrev pub lexemes : List Token → List Lexeme
lexemes ts = map lexeme ts
