-- A machine that reads tokens by a stack of what is still owed. It stands in no public clause: the parser's
-- private functions are stated by it, and proofs/ shows that it stops where the grammar does.
use Rattle.std.specs.Prelude.{ℕ, suc, nat_eq, bytes_eq, ◌&&◌, Bool, true, false, cond, List, [], ◌∷◌, ◌++◌, length, Option, Some, None}
use Rattle.flow_base.specs.declared.token.Word.{Word}
use Rattle.flow_base.specs.declared.token.Word.TheVariants as word
use Rattle.flow_base.specs.declared.token.Mark.{Mark}
use Rattle.flow_base.specs.declared.token.Mark.TheVariants as mark
use Rattle.flow_base.specs.Syntax.{Bytes}
use Rattle.flow_model.specs.Lexeme.{Lexeme}
use Rattle.flow_model.specs.Grammar.{is_patch_id, deprecate_name}

-- What may be owed. The tails of expressions may also be nothing.
pub data Symbol : Type 0 where
  name : Symbol
  number : Symbol
  sign : Mark → Symbol
  parens : Symbol
  prim : Symbol
  unary : Symbol
  term : Symbol
  sum : Symbol
  compare : Symbol
  neg : Symbol
  conj : Symbol
  expr : Symbol
  more_term : Symbol
  more_sum : Symbol
  more_compare : Symbol
  more_conj : Symbol
  more_expr : Symbol
  arguments : Symbol
  more_arguments : Symbol
  type_ : Symbol
  types : Symbol
  more_types : Symbol
  parameter : Symbol
  parameters : Symbol
  more_parameters : Symbol
  declaration : Symbol
  else_tail : Symbol
  call_tail : Symbol
  wait_tail : Symbol
  side : Symbol
  more_branches : Symbol
  statement : Symbol
  -- behind the name that a statement begins with
  after_name : Bytes → Symbol
  patch_id : Symbol
  statements : Symbol
  after_choice : Symbol
  body : Symbol
  program : Symbol

-- marks by number, so that they can be compared
abbrev pub mark_number : Mark → ℕ
mark_number mark.Workflow = 0
mark_number mark.Activity = 1
mark_number mark.Signal = 2
mark_number mark.Let = 3
mark_number mark.If = 4
mark_number mark.Else = 5
mark_number mark.While = 6
mark_number mark.Call = 7
mark_number mark.Retry = 8
mark_number mark.Every = 9
mark_number mark.Sleep = 10
mark_number mark.Wait = 11
mark_number mark.For = 12
mark_number mark.Parallel = 13
mark_number mark.Patch = 14
mark_number mark.Return = 15
mark_number mark.Fail = 16
mark_number mark.Continue = 17
mark_number mark.As = 18
mark_number mark.New = 19
mark_number mark.Int = 20
mark_number mark.Text = 21
mark_number mark.Len = 22
mark_number mark.Now = 23
mark_number mark.And = 24
mark_number mark.Or = 25
mark_number mark.Not = 26
mark_number mark.Open = 27
mark_number mark.Close = 28
mark_number mark.BraceOpen = 29
mark_number mark.BraceClose = 30
mark_number mark.Comma = 31
mark_number mark.Semicolon = 32
mark_number mark.Colon = 33
mark_number mark.Assign = 34
mark_number mark.Equal = 35
mark_number mark.Differ = 36
mark_number mark.Less = 37
mark_number mark.AtMost = 38
mark_number mark.Greater = 39
mark_number mark.AtLeast = 40
mark_number mark.Arrow = 41
mark_number mark.Plus = 42
mark_number mark.Join = 43
mark_number mark.Minus = 44
mark_number mark.Times = 45
mark_number mark.Over = 46
mark_number mark.Percent = 47

abbrev pub is_mark : Mark → Mark → Bool
is_mark m n = nat_eq (mark_number m) (mark_number n)

-- more is owed behind what is owed
abbrev pub then_more : Option (List Symbol) → List Symbol → Option (List Symbol)
then_more None more = None
then_more (Some now) more = Some (now ++ more)

abbrev pub prim_takes : Word → Option (List Symbol)
prim_takes (word.Int n) = Some []
prim_takes (word.Text t) = Some []
prim_takes (word.Name x) = Some []
prim_takes (word.Mark mark.Now) = Some []
prim_takes (word.Mark mark.Open) = Some (expr ∷ sign mark.Close ∷ [])
prim_takes (word.Mark mark.Text) = Some (parens ∷ [])
prim_takes (word.Mark mark.Len) = Some (parens ∷ [])
prim_takes _ = None

abbrev pub unary_takes : Word → Option (List Symbol)
unary_takes (word.Mark mark.Minus) = Some (unary ∷ [])
unary_takes k = prim_takes k

abbrev pub term_takes : Word → Option (List Symbol)
term_takes k = then_more (unary_takes k) (more_term ∷ [])

abbrev pub sum_takes : Word → Option (List Symbol)
sum_takes k = then_more (term_takes k) (more_sum ∷ [])

abbrev pub compare_takes : Word → Option (List Symbol)
compare_takes k = then_more (sum_takes k) (more_compare ∷ [])

abbrev pub neg_takes : Word → Option (List Symbol)
neg_takes (word.Mark mark.Not) = Some (neg ∷ [])
neg_takes k = compare_takes k

abbrev pub conj_takes : Word → Option (List Symbol)
conj_takes k = then_more (neg_takes k) (more_conj ∷ [])

abbrev pub expr_takes : Word → Option (List Symbol)
expr_takes k = then_more (conj_takes k) (more_expr ∷ [])

abbrev pub arguments_takes : Word → Option (List Symbol)
arguments_takes (word.Mark mark.Close) = Some []
arguments_takes k = then_more (expr_takes k) (more_arguments ∷ [])

abbrev pub type_takes : Word → Option (List Symbol)
type_takes (word.Mark mark.Int) = Some []
type_takes (word.Mark mark.Text) = Some []
type_takes _ = None

abbrev pub types_takes : Word → Option (List Symbol)
types_takes (word.Mark mark.Close) = Some []
types_takes k = then_more (type_takes k) (more_types ∷ [])

abbrev pub parameter_takes : Word → Option (List Symbol)
parameter_takes (word.Name x) = Some (sign mark.Colon ∷ type_ ∷ [])
parameter_takes _ = None

abbrev pub parameters_takes : Word → Option (List Symbol)
parameters_takes (word.Mark mark.Close) = Some []
parameters_takes k = then_more (parameter_takes k) (more_parameters ∷ [])

abbrev pub else_tail_takes : Word → Option (List Symbol)
else_tail_takes (word.Mark mark.Semicolon) = Some []
else_tail_takes (word.Mark mark.Else) = Some (sign mark.BraceOpen ∷ statements ∷ sign mark.Semicolon ∷ [])
else_tail_takes _ = None

abbrev pub call_tail_takes : Word → Option (List Symbol)
call_tail_takes (word.Mark mark.Retry) = Some (number ∷ sign mark.Every ∷ number ∷ else_tail ∷ [])
call_tail_takes k = else_tail_takes k

abbrev pub wait_tail_takes : Word → Option (List Symbol)
wait_tail_takes (word.Mark mark.Semicolon) = Some []
wait_tail_takes (word.Mark mark.For) = Some (expr ∷ sign mark.Else ∷ sign mark.BraceOpen ∷ statements ∷ sign mark.Semicolon ∷ [])
wait_tail_takes _ = None

abbrev pub side_takes : Word → Option (List Symbol)
side_takes (word.Mark mark.Call) = Some (name ∷ sign mark.Open ∷ arguments ∷ call_tail ∷ [])
side_takes (word.Mark mark.Wait) = Some (sign mark.Signal ∷ name ∷ wait_tail ∷ [])
side_takes k = then_more (expr_takes k) (sign mark.Semicolon ∷ [])

abbrev pub statement_takes : Word → Option (List Symbol)
statement_takes (word.Mark mark.Let) = Some (name ∷ sign mark.Assign ∷ expr ∷ sign mark.Semicolon ∷ [])
statement_takes (word.Mark mark.Sleep) = Some (expr ∷ sign mark.Semicolon ∷ [])
statement_takes (word.Mark mark.While) = Some (expr ∷ sign mark.BraceOpen ∷ statements ∷ [])
statement_takes (word.Mark mark.Parallel) = Some (sign mark.BraceOpen ∷ sign mark.BraceOpen ∷ statements ∷ more_branches ∷ [])
statement_takes (word.Mark mark.Return) = Some (expr ∷ sign mark.Semicolon ∷ [])
statement_takes (word.Mark mark.Fail) = Some (expr ∷ sign mark.Semicolon ∷ [])
statement_takes (word.Mark mark.Continue) = Some (sign mark.As ∷ sign mark.New ∷ sign mark.Open ∷ arguments ∷ sign mark.Semicolon ∷ [])
statement_takes (word.Name x) = Some (after_name x ∷ [])
statement_takes _ = None

abbrev pub after_name_takes : Bytes → Word → Option (List Symbol)
after_name_takes x (word.Mark mark.Assign) = Some (side ∷ [])
after_name_takes x (word.Text t) = cond (bytes_eq x deprecate_name && is_patch_id t) (Some (sign mark.Semicolon ∷ [])) None
after_name_takes x _ = None

abbrev pub statements_takes : Word → Option (List Symbol)
statements_takes (word.Mark mark.BraceClose) = Some []
statements_takes (word.Mark mark.If) = Some (expr ∷ sign mark.BraceOpen ∷ statements ∷ after_choice ∷ [])
statements_takes (word.Mark mark.Patch) = Some (patch_id ∷ sign mark.BraceOpen ∷ statements ∷ after_choice ∷ [])
statements_takes k = then_more (statement_takes k) (statements ∷ [])

abbrev pub after_choice_takes : Word → Option (List Symbol)
after_choice_takes (word.Mark mark.Else) = Some (sign mark.BraceOpen ∷ statements ∷ statements ∷ [])
after_choice_takes k = statements_takes k

abbrev pub declaration_takes : Word → Option (List Symbol)
declaration_takes (word.Mark mark.Activity) = Some (name ∷ sign mark.Open ∷ types ∷ sign mark.Arrow ∷ type_ ∷ sign mark.Semicolon ∷ [])
declaration_takes (word.Mark mark.Signal) = Some (name ∷ sign mark.Colon ∷ type_ ∷ sign mark.Semicolon ∷ [])
declaration_takes _ = None

abbrev pub body_takes : Word → Option (List Symbol)
body_takes (word.Mark mark.Activity) = then_more (declaration_takes (word.Mark mark.Activity)) (body ∷ [])
body_takes (word.Mark mark.Signal) = then_more (declaration_takes (word.Mark mark.Signal)) (body ∷ [])
body_takes k = statements_takes k

-- What is owed after a token instead of the symbol, if the symbol begins with it.
abbrev pub takes : Symbol → Word → Option (List Symbol)
takes name (word.Name x) = Some []
takes number (word.Int n) = Some []
takes (sign m) (word.Mark n) = cond (is_mark m n) (Some []) None
takes parens (word.Mark mark.Open) = Some (expr ∷ sign mark.Close ∷ [])
takes prim k = prim_takes k
takes unary k = unary_takes k
takes term k = term_takes k
takes sum k = sum_takes k
takes compare k = compare_takes k
takes neg k = neg_takes k
takes conj k = conj_takes k
takes expr k = expr_takes k
takes more_term (word.Mark mark.Times) = Some (unary ∷ more_term ∷ [])
takes more_term (word.Mark mark.Over) = Some (unary ∷ more_term ∷ [])
takes more_term (word.Mark mark.Percent) = Some (unary ∷ more_term ∷ [])
takes more_sum (word.Mark mark.Plus) = Some (term ∷ more_sum ∷ [])
takes more_sum (word.Mark mark.Minus) = Some (term ∷ more_sum ∷ [])
takes more_sum (word.Mark mark.Join) = Some (term ∷ more_sum ∷ [])
takes more_compare (word.Mark mark.Equal) = Some (sum ∷ [])
takes more_compare (word.Mark mark.Differ) = Some (sum ∷ [])
takes more_compare (word.Mark mark.Less) = Some (sum ∷ [])
takes more_compare (word.Mark mark.AtMost) = Some (sum ∷ [])
takes more_compare (word.Mark mark.Greater) = Some (sum ∷ [])
takes more_compare (word.Mark mark.AtLeast) = Some (sum ∷ [])
takes more_conj (word.Mark mark.And) = Some (neg ∷ more_conj ∷ [])
takes more_expr (word.Mark mark.Or) = Some (conj ∷ more_expr ∷ [])
takes arguments k = arguments_takes k
takes more_arguments (word.Mark mark.Close) = Some []
takes more_arguments (word.Mark mark.Comma) = Some (expr ∷ more_arguments ∷ [])
takes type_ k = type_takes k
takes types k = types_takes k
takes more_types (word.Mark mark.Close) = Some []
takes more_types (word.Mark mark.Comma) = Some (type_ ∷ more_types ∷ [])
takes parameter k = parameter_takes k
takes parameters k = parameters_takes k
takes more_parameters (word.Mark mark.Close) = Some []
takes more_parameters (word.Mark mark.Comma) = Some (parameter ∷ more_parameters ∷ [])
takes declaration k = declaration_takes k
takes else_tail k = else_tail_takes k
takes call_tail k = call_tail_takes k
takes wait_tail k = wait_tail_takes k
takes side k = side_takes k
takes more_branches (word.Mark mark.BraceClose) = Some []
takes more_branches (word.Mark mark.BraceOpen) = Some (statements ∷ more_branches ∷ [])
takes statement k = statement_takes k
takes (after_name x) k = after_name_takes x k
takes patch_id (word.Text t) = cond (is_patch_id t) (Some []) None
takes statements k = statements_takes k
takes after_choice k = after_choice_takes k
takes body k = body_takes k
takes program (word.Mark mark.Workflow) = Some (name ∷ sign mark.Open ∷ parameters ∷ sign mark.BraceOpen ∷ body ∷ [])
takes _ _ = None

abbrev pub may_be_nothing : Symbol → Bool
may_be_nothing more_term = true
may_be_nothing more_sum = true
may_be_nothing more_compare = true
may_be_nothing more_conj = true
may_be_nothing more_expr = true
may_be_nothing _ = false

abbrev pub step_by : Option (List Symbol) → Bool → List Symbol → Option (List Symbol) → Option (List Symbol)
step_by (Some now) b owed after = Some (now ++ owed)
step_by None true owed after = after
step_by None false owed after = None

-- what is owed after one token, if it fits
abbrev pub step : Word → List Symbol → Option (List Symbol)
step k [] = None
step k (s ∷ owed) = step_by (takes s k) (may_be_nothing s) owed (step k owed)

-- nothing more is owed
abbrev pub is_done : List Symbol → Bool
is_done [] = true
is_done (s ∷ owed) = cond (may_be_nothing s) (is_done owed) false

abbrev pub fault_by : ℕ → Option (List Symbol) → (List Symbol → Option ℕ) → Option ℕ
fault_by left None next = Some left
fault_by left (Some owed) next = next owed

-- How many tokens are left at the first one that does not fit; 0 where they end early; None where all fit.
abbrev pub fault : List Symbol → List Lexeme → Option ℕ
fault owed [] = cond (is_done owed) None (Some 0)
fault owed (t ∷ ts) = fault_by (suc (length ts)) (step t.word owed) (λ rest. fault rest ts)
