-- The grammar. A reading says which productions make a text, one constructor for each production, with the place of
-- each token. `.._tokens` are its tokens in order: this is the grammar, read aloud. `.._of` is the tree that it stands
-- for: parentheses leave no trace, repeated operators group to the left.
use Rattle.std.specs.Prelude.{◌≡◌, ℕ, ℤ, pos, negsuc, Bool, nat_lt, ◌&&◌, IsTrue, List, [], ◌∷◌, ◌++◌, length, codes}
use Rattle.flow_base.specs.declared.token.Word.TheVariants as word
use Rattle.flow_base.specs.declared.token.Mark.{Mark}
use Rattle.flow_base.specs.declared.token.Mark.TheVariants as mark
use Rattle.flow_base.specs.declared.value.Kind.{Kind}
use Rattle.flow_base.specs.declared.value.Kind.TheVariants as kind
use Rattle.flow_base.specs.declared.syntax.Unary.TheVariants as unary
use Rattle.flow_base.specs.declared.syntax.Binary.{Binary}
use Rattle.flow_base.specs.declared.syntax.Binary.TheVariants as binary
use Rattle.flow_base.specs.declared.syntax.Retry.{Retry}
use Rattle.flow_base.specs.declared.syntax.Parameter.{Parameter}
use Rattle.flow_base.specs.declared.syntax.TypeAt.{TypeAt}
use Rattle.flow_base.specs.Syntax as tree
use Rattle.flow_base.specs.Syntax.{Bytes, once}
use Rattle.flow_model.specs.Lexeme.{Lexeme}

-- "*" | "/" | "%"
pub data TermSign : Type 0 where
  times : TermSign
  over : TermSign
  percent : TermSign

-- "+" | "-" | "++"
pub data SumSign : Type 0 where
  plus : SumSign
  minus : SumSign
  join : SumSign

-- "==" | "!=" | "<" | "<=" | ">" | ">="
pub data CompareSign : Type 0 where
  equal : CompareSign
  differ : CompareSign
  less : CompareSign
  at_most : CompareSign
  greater : CompareSign
  at_least : CompareSign

mutual
  -- "(" expr ")"
  pub data ParensReading : Type 0 where
    parens : ℕ → ExprReading → ℕ → ParensReading

  -- prim = INT | TEXT | NAME | "now" | "text" "(" expr ")" | "len" "(" expr ")" | "(" expr ")"
  pub data PrimReading : Type 0 where
    int : ℕ → ℤ → PrimReading
    text : ℕ → Bytes → PrimReading
    name : ℕ → Bytes → PrimReading
    now : ℕ → PrimReading
    text_of : ℕ → ParensReading → PrimReading
    len_of : ℕ → ParensReading → PrimReading
    inner : ParensReading → PrimReading

  -- unary = "-" unary | prim
  pub data UnaryReading : Type 0 where
    negate : ℕ → UnaryReading → UnaryReading
    prim : PrimReading → UnaryReading

  -- term = unary {("*" | "/" | "%") unary}
  pub data TermReading : Type 0 where
    term : UnaryReading → TermTail → TermReading

  pub data TermTail : Type 0 where
    no_factor : TermTail
    factor : TermSign → ℕ → UnaryReading → TermTail → TermTail

  -- sum = term {("+" | "-" | "++") term}
  pub data SumReading : Type 0 where
    sum : TermReading → SumTail → SumReading

  pub data SumTail : Type 0 where
    no_term : SumTail
    added : SumSign → ℕ → TermReading → SumTail → SumTail

  -- cmp = sum [("==" | "!=" | "<" | "<=" | ">" | ">=") sum]
  pub data CompareReading : Type 0 where
    compare : SumReading → CompareTail → CompareReading

  pub data CompareTail : Type 0 where
    no_side : CompareTail
    compared : CompareSign → ℕ → SumReading → CompareTail

  -- neg = "not" neg | cmp
  pub data NegReading : Type 0 where
    not : ℕ → NegReading → NegReading
    plain : CompareReading → NegReading

  -- conj = neg {"and" neg}
  pub data ConjReading : Type 0 where
    conj : NegReading → ConjTail → ConjReading

  pub data ConjTail : Type 0 where
    no_and : ConjTail
    and : ℕ → NegReading → ConjTail → ConjTail

  -- expr = conj {"or" conj}
  pub data ExprReading : Type 0 where
    expr : ConjReading → ExprTail → ExprReading

  pub data ExprTail : Type 0 where
    no_or : ExprTail
    or : ℕ → ConjReading → ExprTail → ExprTail

-- behind "(": [expr {"," expr}] ")"
mutual
  pub data ArgumentsReading : Type 0 where
    no_argument : ℕ → ArgumentsReading
    argument : ExprReading → ArgumentTail → ArgumentsReading

  pub data ArgumentTail : Type 0 where
    last_argument : ℕ → ArgumentTail
    next_argument : ℕ → ExprReading → ArgumentTail → ArgumentTail

-- the name that says with the text behind it that a patch's second list has been taken out; it is no keyword
abbrev pub deprecate_name : Bytes
deprecate_name = codes "deprecate"

-- the text behind "patch" and "deprecate" has 1 to 64 bytes
abbrev pub is_patch_id : Bytes → Bool
is_patch_id id = nat_lt 0 (length id) && nat_lt (length id) 65

-- type = "int" | "text"
pub data TypeReading : Type 0 where
  typed : ℕ → Kind → TypeReading

-- behind "(": [type {"," type}] ")"
mutual
  pub data TypesReading : Type 0 where
    no_type : ℕ → TypesReading
    type_ : TypeReading → TypeTail → TypesReading

  pub data TypeTail : Type 0 where
    last_type : ℕ → TypeTail
    next_type : ℕ → TypeReading → TypeTail → TypeTail

-- param = NAME ":" type
pub data ParameterReading : Type 0 where
  parameter : ℕ → Bytes → ℕ → TypeReading → ParameterReading

-- behind "(": [param {"," param}] ")"
mutual
  pub data ParametersReading : Type 0 where
    no_parameter : ℕ → ParametersReading
    parameter_ : ParameterReading → ParameterTail → ParametersReading

  pub data ParameterTail : Type 0 where
    last_parameter : ℕ → ParameterTail
    next_parameter : ℕ → ParameterReading → ParameterTail → ParameterTail

-- decl = "activity" NAME "(" [type {"," type}] ")" "->" type ";" | "signal" NAME ":" type ";"
pub data DeclarationReading : Type 0 where
  activity : ℕ → ℕ → Bytes → ℕ → TypesReading → ℕ → TypeReading → ℕ → DeclarationReading
  signal : ℕ → ℕ → Bytes → ℕ → TypeReading → ℕ → DeclarationReading

mutual
  -- behind a call and how often it is tried: ["else" block] ";"
  pub data ElseTail : Type 0 where
    no_else : ℕ → ElseTail
    else_ : ℕ → ℕ → StatementsReading → ℕ → ElseTail

  -- behind the arguments of a call: ["retry" INT "every" INT] ["else" block] ";"
  pub data CallTail : Type 0 where
    no_retry : ElseTail → CallTail
    retry : ℕ → ℕ → ℤ → ℕ → ℕ → ℤ → ElseTail → CallTail

  -- behind the signal of a wait: ["for" expr "else" block] ";"
  pub data WaitTail : Type 0 where
    for_ever : ℕ → WaitTail
    for_ : ℕ → ExprReading → ℕ → ℕ → StatementsReading → ℕ → WaitTail

  -- behind NAME "=": expr ";" | "call" NAME "(" [expr {"," expr}] ")" .. | "wait" "signal" NAME ..
  pub data SideReading : Type 0 where
    value : ExprReading → ℕ → SideReading
    call : ℕ → ℕ → Bytes → ℕ → ArgumentsReading → CallTail → SideReading
    wait : ℕ → ℕ → ℕ → Bytes → WaitTail → SideReading

  -- behind the first branch: {block} "}"
  pub data BranchesReading : Type 0 where
    no_branch : ℕ → BranchesReading
    branch : ℕ → StatementsReading → BranchesReading → BranchesReading

  -- stmt = "let" NAME "=" expr ";" | NAME "=" .. | "sleep" expr ";" | "while" expr block | "parallel" "{" block {block} "}"
  --      | "return" expr ";" | "fail" expr ";" | "continue" "as" "new" "(" [expr {"," expr}] ")" ";" | "deprecate" TEXT ";"
  -- and "if" and "patch", which stand with what follows them, since they may have no second list
  pub data StatementReading : Type 0 where
    let_ : ℕ → ℕ → Bytes → ℕ → ExprReading → ℕ → StatementReading
    assign : ℕ → Bytes → ℕ → SideReading → StatementReading
    sleep : ℕ → ExprReading → ℕ → StatementReading
    while_ : ℕ → ExprReading → ℕ → StatementsReading → StatementReading
    parallel : ℕ → ℕ → ℕ → StatementsReading → BranchesReading → StatementReading
    return_ : ℕ → ExprReading → ℕ → StatementReading
    fail : ℕ → ExprReading → ℕ → StatementReading
    continue_ : ℕ → ℕ → ℕ → ℕ → ArgumentsReading → ℕ → StatementReading
    deprecate : ℕ → ℕ → (id : Bytes) → IsTrue (is_patch_id id) → ℕ → StatementReading

  -- {stmt} "}", where stmt is also "if" expr block ["else" block] | "patch" TEXT block ["else" block]
  pub data StatementsReading : Type 0 where
    no_statement : ℕ → StatementsReading
    statement : StatementReading → StatementsReading → StatementsReading
    if_ : ℕ → ExprReading → ℕ → StatementsReading → AfterChoice → StatementsReading
    patch : ℕ → ℕ → (id : Bytes) → IsTrue (is_patch_id id) → ℕ → StatementsReading → AfterChoice → StatementsReading

  -- behind the first list of "if" and "patch": ["else" block] {stmt} "}"
  pub data AfterChoice : Type 0 where
    otherwise : ℕ → ℕ → StatementsReading → StatementsReading → AfterChoice
    without : StatementsReading → AfterChoice

-- {decl} {stmt} "}"
pub data BodyReading : Type 0 where
  statements : StatementsReading → BodyReading
  declaration : DeclarationReading → BodyReading → BodyReading

-- program = "workflow" NAME "(" [param {"," param}] ")" "{" {decl} {stmt} "}"
pub data ProgramReading : Type 0 where
  workflow : ℕ → ℕ → Bytes → ℕ → ParametersReading → ℕ → BodyReading → ProgramReading

-- tokens

abbrev pub marked : ℕ → Mark → Lexeme
marked at m = record { at = at; word = word.Mark m }

abbrev pub named : ℕ → Bytes → Lexeme
named at x = record { at = at; word = word.Name x }

abbrev pub numbered : ℕ → ℤ → Lexeme
numbered at n = record { at = at; word = word.Int n }

abbrev pub worded : ℕ → Bytes → Lexeme
worded at t = record { at = at; word = word.Text t }

abbrev pub term_mark : TermSign → Mark
term_mark times = mark.Times
term_mark over = mark.Over
term_mark percent = mark.Percent

abbrev pub sum_mark : SumSign → Mark
sum_mark plus = mark.Plus
sum_mark minus = mark.Minus
sum_mark join = mark.Join

abbrev pub compare_mark : CompareSign → Mark
compare_mark equal = mark.Equal
compare_mark differ = mark.Differ
compare_mark less = mark.Less
compare_mark at_most = mark.AtMost
compare_mark greater = mark.Greater
compare_mark at_least = mark.AtLeast

abbrev pub kind_mark : Kind → Mark
kind_mark kind.Int = mark.Int
kind_mark kind.Text = mark.Text

abbrev mutual
  pub parens_tokens : ParensReading → List Lexeme
  parens_tokens (parens at e to) = marked at mark.Open ∷ (expr_tokens e ++ (marked to mark.Close ∷ []))

  pub prim_tokens : PrimReading → List Lexeme
  prim_tokens (int at n) = numbered at n ∷ []
  prim_tokens (text at t) = worded at t ∷ []
  prim_tokens (name at x) = named at x ∷ []
  prim_tokens (now at) = marked at mark.Now ∷ []
  prim_tokens (text_of at p) = marked at mark.Text ∷ parens_tokens p
  prim_tokens (len_of at p) = marked at mark.Len ∷ parens_tokens p
  prim_tokens (inner p) = parens_tokens p

  pub unary_tokens : UnaryReading → List Lexeme
  unary_tokens (negate at u) = marked at mark.Minus ∷ unary_tokens u
  unary_tokens (prim p) = prim_tokens p

  pub term_tokens : TermReading → List Lexeme
  term_tokens (term u more) = unary_tokens u ++ term_tail_tokens more

  pub term_tail_tokens : TermTail → List Lexeme
  term_tail_tokens no_factor = []
  term_tail_tokens (factor s at u more) = marked at (term_mark s) ∷ (unary_tokens u ++ term_tail_tokens more)

  pub sum_tokens : SumReading → List Lexeme
  sum_tokens (sum t more) = term_tokens t ++ sum_tail_tokens more

  pub sum_tail_tokens : SumTail → List Lexeme
  sum_tail_tokens no_term = []
  sum_tail_tokens (added s at t more) = marked at (sum_mark s) ∷ (term_tokens t ++ sum_tail_tokens more)

  pub compare_tokens : CompareReading → List Lexeme
  compare_tokens (compare a more) = sum_tokens a ++ compare_tail_tokens more

  pub compare_tail_tokens : CompareTail → List Lexeme
  compare_tail_tokens no_side = []
  compare_tail_tokens (compared s at b) = marked at (compare_mark s) ∷ sum_tokens b

  pub neg_tokens : NegReading → List Lexeme
  neg_tokens (not at n) = marked at mark.Not ∷ neg_tokens n
  neg_tokens (plain c) = compare_tokens c

  pub conj_tokens : ConjReading → List Lexeme
  conj_tokens (conj n more) = neg_tokens n ++ conj_tail_tokens more

  pub conj_tail_tokens : ConjTail → List Lexeme
  conj_tail_tokens no_and = []
  conj_tail_tokens (and at n more) = marked at mark.And ∷ (neg_tokens n ++ conj_tail_tokens more)

  pub expr_tokens : ExprReading → List Lexeme
  expr_tokens (expr c more) = conj_tokens c ++ expr_tail_tokens more

  pub expr_tail_tokens : ExprTail → List Lexeme
  expr_tail_tokens no_or = []
  expr_tail_tokens (or at c more) = marked at mark.Or ∷ (conj_tokens c ++ expr_tail_tokens more)

abbrev pub argument_tail_tokens : ArgumentTail → List Lexeme
argument_tail_tokens (last_argument to) = marked to mark.Close ∷ []
argument_tail_tokens (next_argument at e more) = marked at mark.Comma ∷ (expr_tokens e ++ argument_tail_tokens more)

abbrev pub arguments_tokens : ArgumentsReading → List Lexeme
arguments_tokens (no_argument to) = marked to mark.Close ∷ []
arguments_tokens (argument e more) = expr_tokens e ++ argument_tail_tokens more

abbrev pub type_tokens : TypeReading → List Lexeme
type_tokens (typed at k) = marked at (kind_mark k) ∷ []

abbrev pub type_tail_tokens : TypeTail → List Lexeme
type_tail_tokens (last_type to) = marked to mark.Close ∷ []
type_tail_tokens (next_type at t more) = marked at mark.Comma ∷ (type_tokens t ++ type_tail_tokens more)

abbrev pub types_tokens : TypesReading → List Lexeme
types_tokens (no_type to) = marked to mark.Close ∷ []
types_tokens (type_ t more) = type_tokens t ++ type_tail_tokens more

abbrev pub parameter_tokens : ParameterReading → List Lexeme
parameter_tokens (parameter at x colon t) = named at x ∷ marked colon mark.Colon ∷ type_tokens t

abbrev pub parameter_tail_tokens : ParameterTail → List Lexeme
parameter_tail_tokens (last_parameter to) = marked to mark.Close ∷ []
parameter_tail_tokens (next_parameter at p more) = marked at mark.Comma ∷ (parameter_tokens p ++ parameter_tail_tokens more)

abbrev pub parameters_tokens : ParametersReading → List Lexeme
parameters_tokens (no_parameter to) = marked to mark.Close ∷ []
parameters_tokens (parameter_ p more) = parameter_tokens p ++ parameter_tail_tokens more

abbrev pub declaration_tokens : DeclarationReading → List Lexeme
declaration_tokens (activity at name_at x paren ts arrow t end) =
    marked at mark.Activity ∷ named name_at x ∷ marked paren mark.Open ∷ (types_tokens ts ++ (marked arrow mark.Arrow ∷ (type_tokens t ++ (marked end mark.Semicolon ∷ []))))
declaration_tokens (signal at name_at x colon t end) =
    marked at mark.Signal ∷ named name_at x ∷ marked colon mark.Colon ∷ (type_tokens t ++ (marked end mark.Semicolon ∷ []))

abbrev mutual
  pub else_tail_tokens : ElseTail → List Lexeme
  else_tail_tokens (no_else end) = marked end mark.Semicolon ∷ []
  else_tail_tokens (else_ at brace ss end) = marked at mark.Else ∷ marked brace mark.BraceOpen ∷ (statements_tokens ss ++ (marked end mark.Semicolon ∷ []))

  pub call_tail_tokens : CallTail → List Lexeme
  call_tail_tokens (no_retry more) = else_tail_tokens more
  call_tail_tokens (retry at tries_at tries every every_at pause more) =
      marked at mark.Retry ∷ numbered tries_at tries ∷ marked every mark.Every ∷ numbered every_at pause ∷ else_tail_tokens more

  pub wait_tail_tokens : WaitTail → List Lexeme
  wait_tail_tokens (for_ever end) = marked end mark.Semicolon ∷ []
  wait_tail_tokens (for_ at e else_at brace ss end) =
      marked at mark.For ∷ (expr_tokens e ++ (marked else_at mark.Else ∷ marked brace mark.BraceOpen ∷ (statements_tokens ss ++ (marked end mark.Semicolon ∷ []))))

  pub side_tokens : SideReading → List Lexeme
  side_tokens (value e end) = expr_tokens e ++ (marked end mark.Semicolon ∷ [])
  side_tokens (call at name_at a paren es more) = marked at mark.Call ∷ named name_at a ∷ marked paren mark.Open ∷ (arguments_tokens es ++ call_tail_tokens more)
  side_tokens (wait at signal_at name_at n more) = marked at mark.Wait ∷ marked signal_at mark.Signal ∷ named name_at n ∷ wait_tail_tokens more

  pub branches_tokens : BranchesReading → List Lexeme
  branches_tokens (no_branch to) = marked to mark.BraceClose ∷ []
  branches_tokens (branch at ss more) = marked at mark.BraceOpen ∷ (statements_tokens ss ++ branches_tokens more)

  pub statement_tokens : StatementReading → List Lexeme
  statement_tokens (let_ at name_at x eq e end) = marked at mark.Let ∷ named name_at x ∷ marked eq mark.Assign ∷ (expr_tokens e ++ (marked end mark.Semicolon ∷ []))
  statement_tokens (assign at x eq s) = named at x ∷ marked eq mark.Assign ∷ side_tokens s
  statement_tokens (sleep at e end) = marked at mark.Sleep ∷ (expr_tokens e ++ (marked end mark.Semicolon ∷ []))
  statement_tokens (while_ at e brace ss) = marked at mark.While ∷ (expr_tokens e ++ (marked brace mark.BraceOpen ∷ statements_tokens ss))
  statement_tokens (parallel at brace first ss more) =
      marked at mark.Parallel ∷ marked brace mark.BraceOpen ∷ marked first mark.BraceOpen ∷ (statements_tokens ss ++ branches_tokens more)
  statement_tokens (return_ at e end) = marked at mark.Return ∷ (expr_tokens e ++ (marked end mark.Semicolon ∷ []))
  statement_tokens (fail at e end) = marked at mark.Fail ∷ (expr_tokens e ++ (marked end mark.Semicolon ∷ []))
  statement_tokens (continue_ at as_at new_at paren es end) =
      marked at mark.Continue ∷ marked as_at mark.As ∷ marked new_at mark.New ∷ marked paren mark.Open ∷ (arguments_tokens es ++ (marked end mark.Semicolon ∷ []))
  statement_tokens (deprecate at id_at id is end) = named at deprecate_name ∷ worded id_at id ∷ marked end mark.Semicolon ∷ []

  pub statements_tokens : StatementsReading → List Lexeme
  statements_tokens (no_statement to) = marked to mark.BraceClose ∷ []
  statements_tokens (statement s more) = statement_tokens s ++ statements_tokens more
  statements_tokens (if_ at e brace ss more) = marked at mark.If ∷ (expr_tokens e ++ (marked brace mark.BraceOpen ∷ (statements_tokens ss ++ choice_tokens more)))
  statements_tokens (patch at id_at id is brace ss more) =
      marked at mark.Patch ∷ worded id_at id ∷ marked brace mark.BraceOpen ∷ (statements_tokens ss ++ choice_tokens more)

  pub choice_tokens : AfterChoice → List Lexeme
  choice_tokens (otherwise at brace ss more) = marked at mark.Else ∷ marked brace mark.BraceOpen ∷ (statements_tokens ss ++ statements_tokens more)
  choice_tokens (without more) = statements_tokens more

abbrev pub body_tokens : BodyReading → List Lexeme
body_tokens (statements ss) = statements_tokens ss
body_tokens (declaration d more) = declaration_tokens d ++ body_tokens more

abbrev pub program_tokens : ProgramReading → List Lexeme
program_tokens (workflow at name_at x paren ps brace body) =
    marked at mark.Workflow ∷ named name_at x ∷ marked paren mark.Open ∷ (parameters_tokens ps ++ (marked brace mark.BraceOpen ∷ body_tokens body))

-- what they stand for

abbrev pub term_operator : TermSign → Binary
term_operator times = binary.Multiply
term_operator over = binary.Divide
term_operator percent = binary.Remain

abbrev pub sum_operator : SumSign → Binary
sum_operator plus = binary.Add
sum_operator minus = binary.Subtract
sum_operator join = binary.Join

abbrev pub compare_operator : CompareSign → Binary
compare_operator equal = binary.Equal
compare_operator differ = binary.Differ
compare_operator less = binary.Less
compare_operator at_most = binary.AtMost
compare_operator greater = binary.Greater
compare_operator at_least = binary.AtLeast

abbrev mutual
  pub parens_of : ParensReading → tree.Expression
  parens_of (parens at e to) = expr_of e

  pub prim_of : PrimReading → tree.Expression
  prim_of (int at n) = tree.Number at n
  prim_of (text at t) = tree.Literal at t
  prim_of (name at x) = tree.Variable at x
  prim_of (now at) = tree.Now at
  prim_of (text_of at p) = tree.Apply at unary.TextOf (parens_of p)
  prim_of (len_of at p) = tree.Apply at unary.Length (parens_of p)
  prim_of (inner p) = parens_of p

  pub unary_of : UnaryReading → tree.Expression
  unary_of (negate at u) = tree.Apply at unary.Negate (unary_of u)
  unary_of (prim p) = prim_of p

  pub term_of : TermReading → tree.Expression
  term_of (term u more) = factors_of (unary_of u) more

  pub factors_of : tree.Expression → TermTail → tree.Expression
  factors_of left no_factor = left
  factors_of left (factor s at u more) = factors_of (tree.Combine (term_operator s) left (unary_of u)) more

  pub sum_of : SumReading → tree.Expression
  sum_of (sum t more) = added_of (term_of t) more

  pub added_of : tree.Expression → SumTail → tree.Expression
  added_of left no_term = left
  added_of left (added s at t more) = added_of (tree.Combine (sum_operator s) left (term_of t)) more

  pub compare_of : CompareReading → tree.Expression
  compare_of (compare a more) = compared_of (sum_of a) more

  pub compared_of : tree.Expression → CompareTail → tree.Expression
  compared_of left no_side = left
  compared_of left (compared s at b) = tree.Combine (compare_operator s) left (sum_of b)

  pub neg_of : NegReading → tree.Expression
  neg_of (not at n) = tree.Apply at unary.Not (neg_of n)
  neg_of (plain c) = compare_of c

  pub conj_of : ConjReading → tree.Expression
  conj_of (conj n more) = and_of (neg_of n) more

  pub and_of : tree.Expression → ConjTail → tree.Expression
  and_of left no_and = left
  and_of left (and at n more) = and_of (tree.Combine binary.And left (neg_of n)) more

  pub expr_of : ExprReading → tree.Expression
  expr_of (expr c more) = or_of (conj_of c) more

  pub or_of : tree.Expression → ExprTail → tree.Expression
  or_of left no_or = left
  or_of left (or at c more) = or_of (tree.Combine binary.Or left (conj_of c)) more

abbrev pub argument_tail_of : ArgumentTail → List tree.Expression
argument_tail_of (last_argument to) = []
argument_tail_of (next_argument at e more) = expr_of e ∷ argument_tail_of more

abbrev pub arguments_of : ArgumentsReading → List tree.Expression
arguments_of (no_argument to) = []
arguments_of (argument e more) = expr_of e ∷ argument_tail_of more

abbrev pub type_of : TypeReading → TypeAt
type_of (typed at k) = record { at = at; kind = k }

abbrev pub kind_of : TypeReading → Kind
kind_of (typed at k) = k

abbrev pub type_tail_of : TypeTail → List TypeAt
type_tail_of (last_type to) = []
type_tail_of (next_type at t more) = type_of t ∷ type_tail_of more

abbrev pub types_of : TypesReading → List TypeAt
types_of (no_type to) = []
types_of (type_ t more) = type_of t ∷ type_tail_of more

abbrev pub parameter_of : ParameterReading → Parameter
parameter_of (parameter at x colon t) = record { at = at; name = x; kind = kind_of t }

abbrev pub parameter_tail_of : ParameterTail → List Parameter
parameter_tail_of (last_parameter to) = []
parameter_tail_of (next_parameter at p more) = parameter_of p ∷ parameter_tail_of more

abbrev pub parameters_of : ParametersReading → List Parameter
parameters_of (no_parameter to) = []
parameters_of (parameter_ p more) = parameter_of p ∷ parameter_tail_of more

-- the place of the ")" behind the parameters
abbrev pub parameter_tail_end : ParameterTail → ℕ
parameter_tail_end (last_parameter to) = to
parameter_tail_end (next_parameter at p more) = parameter_tail_end more

abbrev pub parameters_end : ParametersReading → ℕ
parameters_end (no_parameter to) = to
parameters_end (parameter_ p more) = parameter_tail_end more

abbrev pub declaration_of : DeclarationReading → tree.Declared
declaration_of (activity at name_at x paren ts arrow t end) = tree.Activity at name_at x (types_of ts) (kind_of t)
declaration_of (signal at name_at x colon t end) = tree.Signal at name_at x (kind_of t)

-- a number as a count; a token's is never negative
abbrev pub whole : ℤ → ℕ
whole (pos n) = n
whole (negsuc n) = 0

abbrev pub retry_of : CallTail → Retry
retry_of (no_retry more) = once
retry_of (retry at tries_at tries every every_at pause more) =
    record { tries_at = tries_at; tries = whole tries; every_at = every_at; every = whole pause }

-- the place of the brace that closes a list; of one with what follows it, that of the last
abbrev mutual
  pub statements_end : StatementsReading → ℕ
  statements_end (no_statement to) = to
  statements_end (statement s more) = statements_end more
  statements_end (if_ at e brace ss more) = choice_end more
  statements_end (patch at id_at id is brace ss more) = choice_end more

  pub choice_end : AfterChoice → ℕ
  choice_end (otherwise at brace ss more) = statements_end more
  choice_end (without more) = statements_end more

-- the place of the brace that closes a block of branches
abbrev pub branches_end : BranchesReading → ℕ
branches_end (no_branch to) = to
branches_end (branch at ss more) = branches_end more

-- the place of the brace that closes the second list; that of the first where there is none
abbrev pub second_end : ℕ → AfterChoice → ℕ
second_end first_end (otherwise at brace ss more) = statements_end ss
second_end first_end (without more) = first_end

abbrev mutual
  pub otherwise_of : ElseTail → tree.Otherwise
  otherwise_of (no_else end) = tree.NoElse
  otherwise_of (else_ at brace ss end) = tree.Else (statements_of ss) (statements_end ss)

  -- what a call does where its activity fails
  pub failing_of : CallTail → tree.Otherwise
  failing_of (no_retry more) = otherwise_of more
  failing_of (retry at tries_at tries every every_at pause more) = otherwise_of more

  -- the wait for this signal into this variable
  pub wait_of : ℕ → Bytes → ℕ → Bytes → WaitTail → tree.Statement
  wait_of at x name_at n (for_ever end) = tree.WaitSignal at x name_at n
  wait_of at x name_at n (for_ for_at e else_at brace ss end) = tree.WaitSignalFor at x name_at n (expr_of e) (statements_of ss) (statements_end ss)

  -- the statement that begins with this name
  pub side_of : ℕ → Bytes → SideReading → tree.Statement
  side_of at x (value e end) = tree.Assign at x (expr_of e)
  side_of at x (call call_at name_at a paren es more) = tree.Call at x name_at a (arguments_of es) (retry_of more) (failing_of more)
  side_of at x (wait wait_at signal_at name_at n more) = wait_of at x name_at n more

  pub branches_of : BranchesReading → tree.Branches
  branches_of (no_branch to) = tree.NoBranch
  branches_of (branch at ss more) = tree.Branch at (statements_of ss) (statements_end ss) (branches_of more)

  pub statement_of : StatementReading → tree.Statement
  statement_of (let_ at name_at x eq e end) = tree.Let at name_at x (expr_of e)
  statement_of (assign at x eq s) = side_of at x s
  statement_of (sleep at e end) = tree.Sleep at (expr_of e)
  statement_of (while_ at e brace ss) = tree.While at (expr_of e) (statements_of ss) (statements_end ss)
  statement_of (parallel at brace first ss more) = tree.Parallel at (tree.Branch first (statements_of ss) (statements_end ss) (branches_of more)) (branches_end more)
  statement_of (return_ at e end) = tree.Return at (expr_of e)
  statement_of (fail at e end) = tree.FailWith at (expr_of e)
  statement_of (continue_ at as_at new_at paren es end) = tree.Continue at (arguments_of es)
  statement_of (deprecate at id_at id is end) = tree.Deprecate at id_at id

  pub statements_of : StatementsReading → tree.Block
  statements_of (no_statement to) = tree.End
  statements_of (statement s more) = tree.Next (statement_of s) (statements_of more)
  statements_of (if_ at e brace ss more) = tree.Next (tree.If at (expr_of e) (statements_of ss) (statements_end ss) (second_of more) (second_end (statements_end ss) more)) (behind_choice more)
  statements_of (patch at id_at id is brace ss more) =
      tree.Next (tree.Patch at id_at id (statements_of ss) (statements_end ss) (second_of more) (second_end (statements_end ss) more)) (behind_choice more)

  -- the second list, and what follows
  pub second_of : AfterChoice → tree.Block
  second_of (otherwise at brace ss more) = statements_of ss
  second_of (without more) = tree.End

  pub behind_choice : AfterChoice → tree.Block
  behind_choice (otherwise at brace ss more) = statements_of more
  behind_choice (without more) = statements_of more

abbrev pub body_statements : BodyReading → StatementsReading
body_statements (statements ss) = ss
body_statements (declaration d more) = body_statements more

abbrev pub declarations_of : BodyReading → List tree.Declared
declarations_of (statements ss) = []
declarations_of (declaration d more) = declaration_of d ∷ declarations_of more

abbrev pub program_of : ProgramReading → tree.Program
program_of (workflow at name_at x paren ps brace body) =
    record {
      at = name_at;
      name = x;
      parameters = parameters_of ps;
      parameters_end = parameters_end ps;
      declarations = declarations_of body;
      body = statements_of (body_statements body);
      body_end = statements_end (body_statements body);
    }

-- The grammar reads these tokens as that program.
abbrev pub Reads : List Lexeme → tree.Program → Type 0
Reads ts p = (r : ProgramReading) × (program_tokens r ≡ ts) × (program_of r ≡ p)

-- The tokens of some program begin so.
abbrev pub Begins : List Lexeme → Type 0
Begins ts = (r : ProgramReading) × (more : List Lexeme) × (program_tokens r ≡ ts ++ more)

-- No program begins with the tokens before and the next one, or, at the end, is the tokens before.
abbrev pub Stops : List Lexeme → List Lexeme → ℕ → ℕ → Type 0
Stops before [] end at = ((p : tree.Program) → Reads before p → ⊥) × (at ≡ end)
Stops before (t ∷ after) end at = (Begins (before ++ (t ∷ [])) → ⊥) × (at ≡ t.at)
