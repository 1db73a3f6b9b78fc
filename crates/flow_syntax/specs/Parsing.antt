-- What the parser's private functions say.
use Rattle.std.specs.Prelude.{◌≡◌, ℕ, ℤ, bytes_eq, ◌&&◌, Bool, true, false, List, [], ◌∷◌, ◌++◌, IsTrue, Some, None}
use Rattle.flow_base.specs.declared.token.Word.{Word}
use Rattle.flow_base.specs.declared.token.Word.TheVariants as word
use Rattle.flow_base.specs.declared.token.Mark.{Mark}
use Rattle.flow_base.specs.declared.token.Mark.TheVariants as mark
use Rattle.flow_base.specs.declared.syntax.Binary.{Binary}
use Rattle.flow_base.specs.declared.syntax.Parameter.{Parameter}
use Rattle.flow_base.specs.declared.syntax.Retry.{Retry}
use Rattle.flow_base.specs.Syntax as tree
use Rattle.flow_base.specs.Syntax.{Bytes}
use Rattle.flow_syntax.specs.declared.fault.Stop.{Stop}
use Rattle.flow_syntax.specs.declared.fault.Stop.TheVariants.{NoMemory, Unexpected}
use Rattle.flow_model.specs.Lexeme.{Lexeme}
use Rattle.flow_model.specs.Grammar.{marked, named, numbered, worded, whole, is_patch_id, deprecate_name, declaration_tokens, declaration_of, TermSign, SumSign, CompareSign, term_mark, term_operator, sum_mark, sum_operator, compare_mark, compare_operator, ParametersReading, parameters_of, parameters_end, else_tail_tokens, otherwise_of, CallTail, call_tail_tokens, retry_of, failing_of, side_tokens, side_of, StatementsReading, statements_tokens, statements_of, statements_end, AfterChoice, choice_tokens, second_of, second_end, behind_choice, choice_end, BranchesReading, branches_of, branches_end, BodyReading, declarations_of, body_statements}
use Rattle.flow_syntax.specs.Machine as m
use Rattle.flow_syntax.specs.Machine.{Symbol, takes, fault}

-- The tokens begin with a reading r of the symbol, which stands for x; what follows is rest, and the machine goes there.
abbrev pub Parsed : {R X : Type 0} → Symbol → (R → List Lexeme) → (R → X) → List Lexeme → X → List Lexeme → Type 0
Parsed {R} s tokens of ts x rest = (r : R) × (tokens r ++ rest ≡ ts) × (of r ≡ x) × ((owed : List Symbol) → fault (s ∷ owed) ts ≡ fault owed rest)

-- Whatever ends the rest ends the whole, and then stands for what `with` makes of it.
abbrev pub SoFar : {R M X : Type 0} → (R → List Lexeme) → (M → List Lexeme) → (R → X) → (M → X) → List Lexeme → List Lexeme → Type 0
SoFar {R} {M} tokens more_tokens of with ts rest = (more : M) (end : List Lexeme) → more_tokens more ++ end ≡ rest → (r : R) × (tokens r ++ end ≡ ts) × (of r ≡ with more)

-- where this is owed first, the machine stops with so many tokens left
abbrev pub StopsOwing : List Symbol → List Lexeme → Stop → Type 0
StopsOwing now ts (NoMemory _) = Unit {0}
StopsOwing now ts (Unexpected left) = (owed : List Symbol) → fault (now ++ owed) ts ≡ Some left

-- the machine stops with so many tokens left
abbrev pub StopsAt : Symbol → List Lexeme → Stop → Type 0
StopsAt s ts (NoMemory _) = Unit {0}
StopsAt s ts (Unexpected left) = (owed : List Symbol) → fault (s ∷ owed) ts ≡ Some left

-- the tokens begin with none that the symbol takes
abbrev pub Past : Symbol → List Lexeme → Type 0
Past s [] = Unit {0}
Past s (t ∷ ts) = takes s t.word ≡ None

abbrev pub IsNoMark : Word → Type 0
IsNoMark (word.Mark m) = ⊥
IsNoMark _ = Unit {0}

-- the tokens do not begin with a mark
abbrev pub LacksMark : List Lexeme → Type 0
LacksMark [] = Unit {0}
LacksMark (t ∷ ts) = IsNoMark t.word

-- the tokens do not begin with this mark
abbrev pub Lacks : Mark → List Lexeme → Type 0
Lacks m [] = Unit {0}
Lacks m (t ∷ ts) = t.word ≡ word.Mark m → ⊥

-- a number as a count, its place, and what follows it
abbrev pub IsNumber : List Lexeme → ℕ → ℕ → List Lexeme → Type 0
IsNumber ts at count rest = (n : ℤ) × (ts ≡ numbered at n ∷ rest) × (whole n ≡ count)

-- a patch's id, its place, and what follows it
abbrev pub IsPatchId : List Lexeme → ℕ → Bytes → List Lexeme → Type 0
IsPatchId ts at id rest = IsTrue (is_patch_id id) × (ts ≡ worded at id ∷ rest)

-- an operator of the level, and what follows it
abbrev pub IsFactor : List Lexeme → ℕ → Binary → List Lexeme → Type 0
IsFactor ts at op rest = (s : TermSign) × (ts ≡ marked at (term_mark s) ∷ rest) × (term_operator s ≡ op)

abbrev pub IsAdded : List Lexeme → ℕ → Binary → List Lexeme → Type 0
IsAdded ts at op rest = (s : SumSign) × (ts ≡ marked at (sum_mark s) ∷ rest) × (sum_operator s ≡ op)

abbrev pub IsCompared : List Lexeme → ℕ → Binary → List Lexeme → Type 0
IsCompared ts at op rest = (s : CompareSign) × (ts ≡ marked at (compare_mark s) ∷ rest) × (compare_operator s ≡ op)

-- the place of the first token, or the end
abbrev pub place_of : ℕ → List Lexeme → ℕ
place_of end [] = end
place_of end (t ∷ ts) = t.at

abbrev pub StopsProgram : List Lexeme → Stop → Type 0
StopsProgram ts (NoMemory _) = Unit {0}
StopsProgram ts (Unexpected left) = fault (m.program ∷ []) ts ≡ Some left

-- The tokens of a body begin with a declaration that stands for d; what follows is rest, and the machine of a body goes to
-- the machine of a declaration.
abbrev pub Declares : List Lexeme → tree.Declared → List Lexeme → Type 0
Declares ts d rest = Parsed m.declaration declaration_tokens declaration_of ts d rest × ((owed : List Symbol) → fault (m.body ∷ owed) ts ≡ fault (m.declaration ∷ m.body ∷ owed) ts)

-- parameters with the place of their `)`, statements, branches and a body with that of their brace
abbrev pub both_of : ParametersReading → List Parameter × ℕ
both_of r = (parameters_of r, parameters_end r)

abbrev pub end_of : StatementsReading → tree.Block × ℕ
end_of r = (statements_of r, statements_end r)

abbrev pub shut_of : BranchesReading → tree.Branches × ℕ
shut_of r = (branches_of r, branches_end r)

abbrev pub whole_body_of : BodyReading → List tree.Declared × (tree.Block × ℕ)
whole_body_of r = (declarations_of r, end_of (body_statements r))

-- A list in braces, the place of its first brace, and what follows it; it is read where a brace and a list are owed.
abbrev pub in_braces : List Symbol
in_braces = m.sign mark.BraceOpen ∷ m.statements ∷ []

abbrev pub IsBlock : List Lexeme → ℕ → tree.Block × ℕ → List Lexeme → Type 0
IsBlock ts at x rest = (r : StatementsReading) × (marked at mark.BraceOpen ∷ (statements_tokens r ++ rest) ≡ ts) × (end_of r ≡ x) × ((owed : List Symbol) → fault (in_braces ++ owed) ts ≡ fault owed rest)

-- Behind the arguments of a call: how often it is tried. What ends a call ends the rest.
abbrev pub tail_of : CallTail → Retry × tree.Otherwise
tail_of r = (retry_of r, failing_of r)

abbrev pub IsTried : List Lexeme → Retry → List Lexeme → Type 0
IsTried ts z rest = SoFar call_tail_tokens else_tail_tokens tail_of (λ more. (z, otherwise_of more)) ts rest × ((owed : List Symbol) → fault (m.call_tail ∷ owed) ts ≡ fault (m.else_tail ∷ owed) rest)

-- A call into this variable up to its `else`.
abbrev pub IsCalled : ℕ → Bytes → List Lexeme → ℕ → Bytes → List tree.Expression → Retry → List Lexeme → Type 0
IsCalled at x ts name_at a es z rest = SoFar side_tokens else_tail_tokens (side_of at x) (λ more. tree.Call at x name_at a es z (otherwise_of more)) ts rest × ((owed : List Symbol) → fault (m.side ∷ owed) ts ≡ fault (m.else_tail ∷ owed) rest)

-- the name that a statement begins with, and the sign behind it
abbrev pub IsTarget : List Lexeme → ℕ → Bytes → List Lexeme → Type 0
IsTarget ts at x rest = (eq : ℕ) × (ts ≡ named at x ∷ marked eq mark.Assign ∷ rest)

-- the name that a `deprecate` begins with
abbrev pub is_deprecate : Word → Bool
is_deprecate (word.Name x) = bytes_eq x deprecate_name
is_deprecate _ = false

abbrev pub is_text : Word → Bool
is_text (word.Text t) = true
is_text _ = false

-- that name, and a text behind it
abbrev pub begins_deprecate : List Lexeme → Bool
begins_deprecate (t ∷ (u ∷ ts)) = is_deprecate t.word && is_text u.word
begins_deprecate _ = false

abbrev pub IsText : Word → Type 0
IsText (word.Text t) = Unit {0}
IsText _ = ⊥

-- the tokens begin with a text, if there are any
abbrev pub BeginsText : List Lexeme → Type 0
BeginsText [] = Unit {0}
BeginsText (t ∷ ts) = IsText t.word

-- the place of the name that a `deprecate` begins with, and what follows it
abbrev pub IsDeprecate : List Lexeme → ℕ → List Lexeme → Type 0
IsDeprecate ts at rest = BeginsText rest × (ts ≡ named at deprecate_name ∷ rest)

-- One or two lists in braces, which stand for these two, among statements: what ends the rest ends the whole.
abbrev pub IsChoice : List Lexeme → tree.Block × ℕ → tree.Block × ℕ → List Lexeme → Type 0
IsChoice ts a b rest = ((more : StatementsReading) (end : List Lexeme) → statements_tokens more ++ end ≡ rest →
    (brace : ℕ) × (r : StatementsReading) × (after : AfterChoice) × (marked brace mark.BraceOpen ∷ (statements_tokens r ++ (choice_tokens after ++ end)) ≡ ts) × (end_of r ≡ a) × ((second_of after, second_end (statements_end r) after) ≡ b) × ((behind_choice after, choice_end after) ≡ end_of more))
    × ((owed : List Symbol) → fault (m.sign mark.BraceOpen ∷ m.statements ∷ m.after_choice ∷ owed) ts ≡ fault (m.statements ∷ owed) rest)

-- A statement of a list: what ends the rest ends the list, with the statement before it.
abbrev pub IsMember : List Lexeme → tree.Statement → List Lexeme → Type 0
IsMember ts s rest = SoFar statements_tokens statements_tokens end_of (λ more. (tree.Next s (statements_of more), statements_end more)) ts rest × ((owed : List Symbol) → fault (m.statements ∷ owed) ts ≡ fault (m.statements ∷ owed) rest)
