-- The text that a program prints as: the words of its tokens, joined by one space. An expression stands in parentheses
-- only where the grammar needs them, and what stands for itself where it is missing is left out. This is for the whole
-- language.
use Rattle.std.specs.Prelude.{◌≡◌, ◌≤◌, ◌⊎◌, ℕ, nat_lt, ◌==◌, ◌&&◌, Bool, true, false, IsTrue, pos, negsuc, None, length, if◌then◌else◌, List, [], ◌∷◌, ◌++◌, map}
use Rattle.std.specs.Fmt.{signed_decimal}
use Rattle.flow_base.specs.declared.token.Word.{Word}
use Rattle.flow_base.specs.declared.token.Word.TheVariants.{Name, Int, Text, Mark}
use Rattle.flow_base.specs.declared.token.Mark as declared
use Rattle.flow_base.specs.declared.token.Mark.TheVariants as mark
use Rattle.flow_base.specs.declared.value.Kind.{Kind}
use Rattle.flow_base.specs.declared.value.Kind.TheVariants as kind
use Rattle.flow_base.specs.declared.syntax.Unary.{Unary}
use Rattle.flow_base.specs.declared.syntax.Unary.TheVariants as unary
use Rattle.flow_base.specs.declared.syntax.Binary.{Binary}
use Rattle.flow_base.specs.declared.syntax.Binary.TheVariants as binary
use Rattle.flow_base.specs.declared.syntax.Parameter.{Parameter}
use Rattle.flow_base.specs.declared.syntax.TypeAt.{TypeAt}
use Rattle.flow_base.specs.Syntax as tree
use Rattle.flow_base.specs.Syntax.{Bytes, Expression, Statement, Block, End, Next, Otherwise, NoElse, Else, Branches, NoBranch, Branch, Declared, Program}
use Rattle.flow_base.specs.declared.syntax.Retry.{Retry}
use Rattle.flow_base.specs.Bare.{bare}
use Rattle.flow_model.specs.Lexeme.{Lexeme, lexemes}
use Rattle.flow_model.specs.Grammar.{is_patch_id, deprecate_name, Reads}
use Rattle.flow_model.specs.Meaning.{IsProgramOf}
use Rattle.flow_model.specs.Tokens.{spelled, is_letters, TokensOf}
use Rattle.flow_base.specs.declared.token.Token.{Token}

---- Expressions

-- The productions of expressions by number: 0 expr, 1 conj, 2 neg, 3 cmp, 4 sum, 5 term, 6 unary, 7 prim. Each of them
-- reads all that a later one reads.

-- the production that makes the operator
abbrev pub binary_level : Binary → ℕ
binary_level binary.Or = 0
binary_level binary.And = 1
binary_level binary.Equal = 3
binary_level binary.Differ = 3
binary_level binary.Less = 3
binary_level binary.AtMost = 3
binary_level binary.Greater = 3
binary_level binary.AtLeast = 3
binary_level binary.Add = 4
binary_level binary.Subtract = 4
binary_level binary.Join = 4
binary_level binary.Multiply = 5
binary_level binary.Divide = 5
binary_level binary.Remain = 5

abbrev pub unary_level : Unary → ℕ
unary_level unary.Not = 2
unary_level unary.Negate = 6
unary_level unary.TextOf = 7
unary_level unary.Length = 7

abbrev pub level : Expression → ℕ
level (tree.Apply at op a) = unary_level op
level (tree.Combine op a b) = binary_level op
level _ = 7

-- What reads the left operand: the operator's own production, since operators group to the left. A comparison has a sum
-- on both sides.
abbrev pub left_level : Binary → ℕ
left_level binary.Or = 0
left_level binary.And = 1
left_level binary.Add = 4
left_level binary.Subtract = 4
left_level binary.Join = 4
left_level binary.Multiply = 5
left_level binary.Divide = 5
left_level binary.Remain = 5
left_level _ = 4

-- what reads the right operand: the production behind the operator's own
abbrev pub right_level : Binary → ℕ
right_level binary.Or = 1
right_level binary.And = 2
right_level binary.Add = 5
right_level binary.Subtract = 5
right_level binary.Join = 5
right_level binary.Multiply = 6
right_level binary.Divide = 6
right_level binary.Remain = 6
right_level _ = 4

abbrev pub binary_mark : Binary → declared.Mark
binary_mark binary.Or = mark.Or
binary_mark binary.And = mark.And
binary_mark binary.Equal = mark.Equal
binary_mark binary.Differ = mark.Differ
binary_mark binary.Less = mark.Less
binary_mark binary.AtMost = mark.AtMost
binary_mark binary.Greater = mark.Greater
binary_mark binary.AtLeast = mark.AtLeast
binary_mark binary.Add = mark.Plus
binary_mark binary.Subtract = mark.Minus
binary_mark binary.Join = mark.Join
binary_mark binary.Multiply = mark.Times
binary_mark binary.Divide = mark.Over
binary_mark binary.Remain = mark.Percent

abbrev pub in_parentheses : List Word → List Word
in_parentheses ws = Mark mark.Open ∷ (ws ++ (Mark mark.Close ∷ []))

-- an expression of one level where a production of another stands
abbrev pub fitted : (own wanted : ℕ) → List Word → List Word
fitted own wanted ws = if nat_lt own wanted then in_parentheses ws else ws

-- the operand of `text(..)` and `len(..)` stands in parentheses always
abbrev pub unary_words : Unary → (own : ℕ) → List Word → List Word
unary_words unary.Not own ws = Mark mark.Not ∷ fitted own 2 ws
unary_words unary.Negate own ws = Mark mark.Minus ∷ fitted own 6 ws
unary_words unary.TextOf own ws = Mark mark.Text ∷ in_parentheses ws
unary_words unary.Length own ws = Mark mark.Len ∷ in_parentheses ws

abbrev pub binary_words : Binary → (own_left : ℕ) → List Word → (own_right : ℕ) → List Word → List Word
binary_words op m left n right = fitted m (left_level op) left ++ (Mark (binary_mark op) ∷ fitted n (right_level op) right)

abbrev pub expression_words : Expression → List Word
expression_words (tree.Number at n) = Int n ∷ []
expression_words (tree.Literal at t) = Text t ∷ []
expression_words (tree.Variable at x) = Name x ∷ []
expression_words (tree.Now at) = Mark mark.Now ∷ []
expression_words (tree.Apply at op a) = unary_words op (level a) (expression_words a)
expression_words (tree.Combine op a b) = binary_words op (level a) (expression_words a) (level b) (expression_words b)

---- Lists

-- each behind a comma
abbrev pub behind_commas : List (List Word) → List Word
behind_commas [] = []
behind_commas (x ∷ xs) = Mark mark.Comma ∷ (x ++ behind_commas xs)

-- a comma between two, none behind the last
abbrev pub between_commas : List (List Word) → List Word
between_commas [] = []
between_commas (x ∷ xs) = x ++ behind_commas xs

abbrev pub listed : List (List Word) → List Word
listed xs = in_parentheses (between_commas xs)

abbrev pub arguments_words : List Expression → List Word
arguments_words es = listed (map expression_words es)

abbrev pub kind_mark : Kind → declared.Mark
kind_mark kind.Int = mark.Int
kind_mark kind.Text = mark.Text

abbrev pub type_words : TypeAt → List Word
type_words t = Mark (kind_mark t.kind) ∷ []

abbrev pub parameter_words : Parameter → List Word
parameter_words p = Name p.name ∷ Mark mark.Colon ∷ Mark (kind_mark p.kind) ∷ []

---- Statements

abbrev pub end : List Word
end = Mark mark.Semicolon ∷ []

abbrev pub in_braces : List Word → List Word
in_braces ws = Mark mark.BraceOpen ∷ (ws ++ (Mark mark.BraceClose ∷ []))

-- a call with no `retry` is tried once
abbrev pub retry_words : Retry → List Word
retry_words r =
    if (r.tries == 1) && (r.every == 0) then [] else Mark mark.Retry ∷ Int (pos r.tries) ∷ Mark mark.Every ∷ Int (pos r.every) ∷ []

abbrev pub is_end : Block → Bool
is_end End = true
is_end (Next s b) = false

abbrev mutual
  pub statement_words : Statement → List Word
  statement_words (tree.Let at name_at x e) = Mark mark.Let ∷ Name x ∷ Mark mark.Assign ∷ (expression_words e ++ end)
  statement_words (tree.Assign at x e) = Name x ∷ Mark mark.Assign ∷ (expression_words e ++ end)
  statement_words (tree.Call at x activity_at a es r o) =
      Name x ∷ Mark mark.Assign ∷ Mark mark.Call ∷ Name a ∷ (arguments_words es ++ (retry_words r ++ (otherwise_words o ++ end)))
  statement_words (tree.WaitSignal at x signal_at s) = Name x ∷ Mark mark.Assign ∷ Mark mark.Wait ∷ Mark mark.Signal ∷ Name s ∷ end
  statement_words (tree.WaitSignalFor at x signal_at s e b b_end) =
      Name x ∷ Mark mark.Assign ∷ Mark mark.Wait ∷ Mark mark.Signal ∷ Name s ∷ Mark mark.For ∷ (expression_words e ++ (Mark mark.Else ∷ (in_braces (block_words b) ++ end)))
  statement_words (tree.Sleep at e) = Mark mark.Sleep ∷ (expression_words e ++ end)
  statement_words (tree.If at e a a_end b b_end) = Mark mark.If ∷ (expression_words e ++ (in_braces (block_words a) ++ else_words b))
  statement_words (tree.While at e b b_end) = Mark mark.While ∷ (expression_words e ++ in_braces (block_words b))
  statement_words (tree.Parallel at bs _) = Mark mark.Parallel ∷ in_braces (branches_words bs)
  statement_words (tree.Patch at id_at id a a_end b b_end) = Mark mark.Patch ∷ Text id ∷ (in_braces (block_words a) ++ else_words b)
  statement_words (tree.Deprecate at id_at id) = Name deprecate_name ∷ Text id ∷ end
  statement_words (tree.Return at e) = Mark mark.Return ∷ (expression_words e ++ end)
  statement_words (tree.FailWith at e) = Mark mark.Fail ∷ (expression_words e ++ end)
  statement_words (tree.Continue at es) = Mark mark.Continue ∷ Mark mark.As ∷ Mark mark.New ∷ (arguments_words es ++ end)

  pub block_words : Block → List Word
  block_words End = []
  block_words (Next s b) = statement_words s ++ block_words b

  -- a missing second list is an empty one
  pub else_words : Block → List Word
  else_words End = []
  else_words (Next s b) = Mark mark.Else ∷ in_braces (statement_words s ++ block_words b)

  -- a call's missing list isn't an empty one
  pub otherwise_words : Otherwise → List Word
  otherwise_words NoElse = []
  otherwise_words (Else b b_end) = Mark mark.Else ∷ in_braces (block_words b)

  pub branches_words : Branches → List Word
  branches_words NoBranch = []
  branches_words (Branch at b b_end bs) = in_braces (block_words b) ++ branches_words bs

---- Programs

abbrev pub declared_words : Declared → List Word
declared_words (tree.Activity at name_at a takes gives) =
    Mark mark.Activity ∷ Name a ∷ (listed (map type_words takes) ++ (Mark mark.Arrow ∷ Mark (kind_mark gives) ∷ end))
declared_words (tree.Signal at name_at s carries) = Mark mark.Signal ∷ Name s ∷ Mark mark.Colon ∷ Mark (kind_mark carries) ∷ end

abbrev pub declarations_words : List Declared → List Word
declarations_words [] = []
declarations_words (d ∷ ds) = declared_words d ++ declarations_words ds

abbrev pub words_behind_keyword : Program → List Word
words_behind_keyword p = Name p.name ∷ (listed (map parameter_words p.parameters) ++ in_braces (declarations_words p.declarations ++ block_words p.body))

abbrev pub program_words : Program → List Word
program_words p = Mark mark.Workflow ∷ words_behind_keyword p

---- Bytes

-- how a text between quotes writes a byte
abbrev pub written : ℕ → Bytes
written b = if b == 34 then 92 ∷ 34 ∷ [] else (if b == 92 then 92 ∷ 92 ∷ [] else (if b == 10 then 92 ∷ 110 ∷ [] else b ∷ []))

abbrev pub all_written : Bytes → Bytes
all_written [] = []
all_written (b ∷ bs) = written b ++ all_written bs

abbrev pub spelled_word : Word → Bytes
spelled_word (Name x) = x
spelled_word (Int z) = signed_decimal z
spelled_word (Text t) = 34 ∷ (all_written t ++ (34 ∷ []))
spelled_word (Mark m) = spelled m

-- each word behind a space
unfoldable pub spaced : List Word → Bytes
spaced [] = []
spaced (w ∷ ws) = 32 ∷ (spelled_word w ++ spaced ws)

-- a space between two words
abbrev pub joined : List Word → Bytes
joined [] = []
joined (w ∷ ws) = spelled_word w ++ spaced ws

---- What is printed, read again

abbrev pub words_of : List Lexeme → List Word
words_of ts = map (λ (t : Lexeme). t.word) ts

-- tokens of these words, wherever they stand, are read as the program, up to places
abbrev pub AreReadAs : List Word → Program → Type 0
AreReadAs ws p = (ts : List Lexeme) → words_of ts ≡ ws → (q : Program) × (Reads ts q) × (bare q ≡ bare p)

abbrev pub HasBranch : Branches → Type 0
HasBranch NoBranch = ⊥
HasBranch (Branch at b b_end bs) = Unit {0}

-- What the grammar asks of lists of statements, and words alone don't tell: each `parallel` has a branch, each patch and
-- `deprecate` an id of 1 to 64 bytes.
abbrev mutual
  pub IsReadable : Statement → Type 0
  IsReadable (tree.Let at name_at x e) = Unit {0}
  IsReadable (tree.Assign at x e) = Unit {0}
  IsReadable (tree.Call at x activity_at a es r o) = IsReadableElse o
  IsReadable (tree.WaitSignal at x signal_at s) = Unit {0}
  IsReadable (tree.WaitSignalFor at x signal_at s e b b_end) = AreReadable b
  IsReadable (tree.Sleep at e) = Unit {0}
  IsReadable (tree.If at e a a_end b b_end) = AreReadable a × AreReadable b
  IsReadable (tree.While at e b b_end) = AreReadable b
  IsReadable (tree.Parallel at bs _) = HasBranch bs × AreReadableBranches bs
  IsReadable (tree.Patch at id_at id a a_end b b_end) = IsTrue (is_patch_id id) × (AreReadable a × AreReadable b)
  IsReadable (tree.Deprecate at id_at id) = IsTrue (is_patch_id id)
  IsReadable (tree.Return at e) = Unit {0}
  IsReadable (tree.FailWith at e) = Unit {0}
  IsReadable (tree.Continue at es) = Unit {0}

  pub AreReadable : Block → Type 0
  AreReadable End = Unit {0}
  AreReadable (Next s b) = IsReadable s × AreReadable b

  pub IsReadableElse : Otherwise → Type 0
  IsReadableElse NoElse = Unit {0}
  IsReadableElse (Else b b_end) = AreReadable b

  pub AreReadableBranches : Branches → Type 0
  AreReadableBranches NoBranch = Unit {0}
  AreReadableBranches (Branch at b b_end bs) = AreReadable b × AreReadableBranches bs

-- what a text of a program has: line feeds, and bytes from 32 on
abbrev pub IsWritable : ℕ → Type 0
IsWritable b = (b ≡ 10) ⊎ (32 ≤ b)

abbrev pub AllWritable : Bytes → Type 0
AllWritable [] = Unit {0}
AllWritable (b ∷ bs) = IsWritable b × AllWritable bs

-- a word that the tokens of a text may have
abbrev pub IsPrintable : Word → Type 0
IsPrintable (Name x) = (is_letters x ≡ true) × ((length x ≤ 64) × ((m : declared.Mark) → x ≡ spelled m → ⊥))
IsPrintable (Int (pos n)) = n ≤ 9223372036854775807
IsPrintable (Int (negsuc n)) = ⊥
IsPrintable (Text t) = AllWritable t × (length t ≤ 4096)
IsPrintable (Mark m) = Unit {0}

abbrev pub ArePrintable : List Word → Type 0
ArePrintable [] = Unit {0}
ArePrintable (w ∷ ws) = IsPrintable w × ArePrintable ws

-- the text has tokens, to its end, and these are their words
abbrev pub HasTokens : Bytes → List Word → Type 0
HasTokens text ws = (ts : List Token) × (TokensOf text ts None) × (words_of (lexemes ts) ≡ ws)

-- the grammar reads the tokens of the text as the program, up to places
abbrev pub IsTextOf : Bytes → Program → Type 0
IsTextOf text p = (ts : List Token) × (TokensOf text ts None) × (q : Program) × (Reads (lexemes ts) q) × (bare q ≡ bare p)

-- the text is this program, up to places
abbrev pub IsProgramAgain : Bytes → Program → Type 0
IsProgramAgain text p = (q : Program) × IsProgramOf text q × (bare q ≡ bare p)

-- No tokens that the grammar reads as the program, up to places, are fewer than its words. So no pair of parentheses can be
-- left out.
abbrev pub HasLeastWords : Program → Type 0
HasLeastWords p = (ts : List Lexeme) (q : Program) → Reads ts q → bare q ≡ bare p → length (program_words p) ≤ length ts
