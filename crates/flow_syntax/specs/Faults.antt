-- What the parser's faults mean.
use Rattle.std.specs.Prelude.{◌≡◌, ◌⊎◌, ℕ, List, [], ◌∷◌, ◌++◌, length, Option, Some, None}
use Rattle.flow_base.specs.declared.code.Code.{Code}
use Rattle.flow_base.specs.declared.code.Code.TheVariants as code
use Rattle.flow_base.specs.Syntax as tree
use Rattle.flow_base.specs.Syntax.{Bytes}
use Rattle.flow_syntax.specs.declared.fault.ParseFault.{ParseFault}
use Rattle.flow_syntax.specs.declared.fault.ParseFault.TheVariants.{NoMemory, BadToken, Unexpected, TextTooLong, TooDeep}
use Rattle.flow_model.specs.Lexeme.{Lexeme}
use Rattle.flow_model.specs.Grammar.{Reads, Begins}
use Rattle.flow_model.specs.Limits.{Within, WithinFrom}
use Rattle.flow_model.specs.Parse.{IsFirstUnfit, EndsEarly, IsFirstDeep}
use Rattle.flow_model.specs.Meaning.{IsTextFault}

abbrev pub fault_code : ParseFault → Code
fault_code (NoMemory _) = code.NoMemory
fault_code (BadToken at) = code.BadToken
fault_code (Unexpected at) = code.Unexpected
fault_code TextTooLong = code.TextTooLong
fault_code (TooDeep at) = code.TooDeep

abbrev pub fault_place : ParseFault → Option ℕ
fault_place (NoMemory _) = None
fault_place (BadToken at) = Some at
fault_place (Unexpected at) = Some at
fault_place TextTooLong = Some 65536
fault_place (TooDeep at) = Some at

-- A fault that has a place, which the want of memory has not, is the first one in the text.
abbrev pub IsParseFault : Bytes → ParseFault → Type 0
IsParseFault text fault = (at : ℕ) → fault_place fault ≡ Some at → IsTextFault text (record { code = fault_code fault; at = at })

-- the first fault of the tokens of a text that ends at this place
abbrev pub IsFault : List Lexeme → ℕ → ParseFault → Type 0
IsFault ts end (NoMemory _) = Unit {0}
IsFault ts end (Unexpected at) = IsFirstUnfit ts at ⊎ (EndsEarly ts × (at ≡ end))
IsFault ts end (TooDeep at) = IsFirstDeep ts at
IsFault ts end (BadToken at) = ⊥
IsFault ts end TextTooLong = ⊥

-- the first fault of the tokens before this place, at which no token begins
abbrev pub IsFaultBefore : List Lexeme → ℕ → ParseFault → Type 0
IsFaultBefore ts bad (NoMemory _) = Unit {0}
IsFaultBefore ts bad (Unexpected at) = IsFirstUnfit ts at
IsFaultBefore ts bad (TooDeep at) = IsFirstDeep ts at
IsFaultBefore ts bad (BadToken at) = Within ts × Begins ts × (at ≡ bad)
IsFaultBefore ts bad TextTooLong = ⊥

-- a token that does not fit, limits aside
abbrev pub IsUnfit : List Lexeme → ℕ → Type 0
IsUnfit ts at = (before : List Lexeme) × (t : Lexeme) × (after : List Lexeme) × (ts ≡ before ++ (t ∷ after)) × Begins before × (Begins (before ++ (t ∷ [])) → ⊥) × (at ≡ t.at)

-- what the tokens answer where they are no program, and this stands behind them
abbrev pub IsFaultOf : List Lexeme → ParseFault → ParseFault → Type 0
IsFaultOf ts behind fault = (fault ≡ NoMemory _) ⊎ (((at : ℕ) × (fault ≡ Unexpected at) × IsUnfit ts at) ⊎ ((fault ≡ behind) × Begins ts × ((p : tree.Program) → Reads ts p → ⊥)))

-- the same where a fault stands behind them, whether or not they are a program
abbrev pub IsFirstOf : List Lexeme → ParseFault → ParseFault → Type 0
IsFirstOf ts behind fault = (fault ≡ NoMemory _) ⊎ (((at : ℕ) × (fault ≡ Unexpected at) × IsUnfit ts at) ⊎ ((fault ≡ behind) × Begins ts))

-- the first token that passes a limit has this place, and so many are behind it
abbrev pub IsCut : List Lexeme → ℕ → ℕ → Type 0
IsCut ts at left = (before : List Lexeme) × (t : Lexeme) × (after : List Lexeme) × (ts ≡ before ++ (t ∷ after)) × (length after ≡ left) × (at ≡ t.at) × Within before × (Within (before ++ (t ∷ [])) → ⊥)

-- the tokens so far, with their counts, and what is left
abbrev pub WithinSoFar : List Lexeme → ℕ → ℕ → List Lexeme → Type 0
WithinSoFar ts b o rest = (before : List Lexeme) × (ts ≡ before ++ rest) × ((x : List Lexeme) → (WithinFrom b o x → Within (before ++ x)) × (Within (before ++ x) → WithinFrom b o x))

-- the first fault of tokens of which one passes a limit
abbrev pub IsDeepFault : List Lexeme → ParseFault → Type 0
IsDeepFault ts (NoMemory _) = Unit {0}
IsDeepFault ts (Unexpected at) = IsFirstUnfit ts at
IsDeepFault ts (TooDeep at) = IsFirstDeep ts at
IsDeepFault ts _ = ⊥
