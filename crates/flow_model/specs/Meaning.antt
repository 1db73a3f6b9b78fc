-- What a text means: the program that it is, or its first fault.
use Rattle.std.specs.Prelude.{◌≡◌, ◌⊎◌, ◌<◌, ◌≤◌, ℕ, List, length, Option, Some, None, Result, Ok, Err}
use Rattle.flow_base.specs.Syntax.{Bytes, Program}
use Rattle.flow_base.specs.declared.code.Code.TheVariants as code
use Rattle.flow_base.specs.declared.command.TextFault.{TextFault}
use Rattle.flow_base.specs.declared.token.Token.{Token}
use Rattle.flow_model.specs.Tokens.{TokensOf}
use Rattle.flow_model.specs.Lexeme.{Lexeme, lexemes}
use Rattle.flow_model.specs.Grammar.{Reads, Begins}
use Rattle.flow_model.specs.Limits.{Within}
use Rattle.flow_model.specs.Parse.{IsFirstUnfit, EndsEarly, IsFirstDeep}
use Rattle.flow_model.specs.WellFormed.{WellFormed, IsFirstFault}

-- The text is this program: its tokens are in the grammar, which reads them so, and within the limits.
abbrev pub IsProgramOf : Bytes → Program → Type 0
IsProgramOf text p = (length text ≤ 65536) × (ts : List Token) × TokensOf text ts None × Reads (lexemes ts) p × Within (lexemes ts)

-- The first fault of tokens that are no program, of a text with this end. No token begins at `bad`, behind the tokens, if
-- there is such a place.
pub data IsFaultOf (ts : List Lexeme) (bad : Option ℕ) (end : ℕ) (f : TextFault) : Type 0 where
  -- E11: the first token with which no program goes on
  unfit : f.code ≡ code.Unexpected → IsFirstUnfit ts f.at → IsFaultOf ts bad end f
  -- E11: the text ends before a program does
  ends_early : f.code ≡ code.Unexpected → bad ≡ None → EndsEarly ts → f.at ≡ end → IsFaultOf ts bad end f
  -- E13: the first token that passes a limit
  too_deep : f.code ≡ code.TooDeep → IsFirstDeep ts f.at → IsFaultOf ts bad end f
  -- E10: a program begins with all the tokens, and then comes what is none
  bad_token : f.code ≡ code.BadToken → bad ≡ Some f.at → Within ts → Begins ts → IsFaultOf ts bad end f

-- The first fault in the text of a program: E12 where it is too long, else that of its tokens.
abbrev pub IsTextFault : Bytes → TextFault → Type 0
IsTextFault text f =
    ((65536 < length text) × (f ≡ record { code = code.TextTooLong; at = 65536 }))
    ⊎ ((length text ≤ 65536) × (ts : List Token) × (bad : Option ℕ) × TokensOf text ts bad × IsFaultOf (lexemes ts) bad (length text) f)

-- A text means the program that it is, if that keeps every checking rule. Else it means its fault: the first one in the text,
-- or, where it is a program, the first rule that this breaks.
abbrev pub Means : Bytes → Result Program TextFault → Type 0
Means text (Ok p) = IsProgramOf text p × WellFormed p
Means text (Err f) = IsTextFault text f ⊎ ((p : Program) × IsProgramOf text p × IsFirstFault p f)
