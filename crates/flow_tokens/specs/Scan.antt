-- The tokens of a text, as a function: what the relation `TokensOf` has for each text.
use Rattle.std.specs.Prelude.{ℕ, zero, suc, ◌-◌, Option, Some, None, List, [], ◌∷◌, length}
use Rattle.flow_base.specs.Syntax.{Bytes}
use Rattle.flow_base.specs.declared.token.Token.{Token}
use Rattle.flow_base.specs.declared.token.Word.{Word}
use Rattle.flow_model.specs.Tokens.{front, past_gap}

-- tokens, and the place of the first fault
abbrev pub Scanned : Type 0
Scanned = List Token × Option ℕ

abbrev pub with_token : Token → Scanned → Scanned
with_token t later = (t ∷ later.0, later.1)

-- the token at the front, before the tokens of what is left behind it; or the fault where there is none
abbrev pub before : (whole : ℕ) → Bytes → Option (Word × Bytes) → (Bytes → Scanned) → Scanned
before whole rest None later = ([], Some (whole - length rest))
before whole rest (Some found) later =
    with_token (record { word = found.0; from = whole - length rest; to = whole - length found.1 }) (later (past_gap found.1))

-- the tokens of what is left of a text that has `whole` bytes; each token takes a byte, so as many steps as it has are enough
abbrev pub scan_from : (steps whole : ℕ) → Bytes → Scanned
scan_from zero whole rest = ([], None)
scan_from (suc steps) whole [] = ([], None)
scan_from (suc steps) whole (b ∷ bs) = before whole (b ∷ bs) (front (b ∷ bs)) (scan_from steps whole)

-- the tokens of the text and the place of its first fault
unfoldable pub scan : Bytes → Scanned
scan text = scan_from (length text) (length text) (past_gap text)
