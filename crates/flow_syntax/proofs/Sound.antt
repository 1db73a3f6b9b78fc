-- What the machine still owes can be written, and then stands for a reading.
use Rattle.std.specs.Prelude.{◌⊎◌, ◌&&◌, bytes_eq}
use Rattle.std.specs.Cmp.Lexicographic.{bytes_decides}
use Rattle.std.proofs.Common.{◌≡◌, ◌∙◌, ℕ, ℤ, inl, inr, Bool, true, false, cond, List, [], ◌∷◌, ◌++◌, Option, Some, None, refl, ap, sym, append_assoc, get_or, eqb-true, IsTrue}
use Rattle.std.proofs.lemmas.List.{append-nil}
use Rattle.flow_base.specs.Syntax.{Bytes}
use Rattle.flow_base.specs.declared.token.Word.{Word}
use Rattle.flow_base.specs.declared.token.Word.TheVariants as word
use Rattle.flow_base.specs.declared.token.Mark.{Mark}
use Rattle.flow_base.specs.declared.token.Mark.TheVariants as mark
use Rattle.flow_base.specs.declared.value.Kind.TheVariants as kind
use Rattle.flow_model.specs.Lexeme.{Lexeme}
use Rattle.flow_model.specs.Grammar.{times, over, percent, plus, minus, join, equal, differ, less, at_most, greater, at_least, ParensReading, parens, PrimReading, int, text, name, text_of, len_of, inner, UnaryReading, negate, prim, TermReading, term, TermTail, factor, SumReading, sum, SumTail, added, CompareReading, compare, CompareTail, compared, NegReading, not, plain, ConjReading, conj, ConjTail, and, ExprReading, expr, ExprTail, or, ArgumentsReading, no_argument, argument, ArgumentTail, last_argument, next_argument, TypeReading, typed, TypesReading, no_type, type_, TypeTail, last_type, next_type, ParameterReading, parameter, ParametersReading, no_parameter, parameter_, ParameterTail, last_parameter, next_parameter, DeclarationReading, activity, signal, ElseTail, no_else, else_, CallTail, no_retry, retry, WaitTail, for_ever, for_, SideReading, value, call, wait, BranchesReading, no_branch, branch, StatementReading, let_, assign, sleep, while_, parallel, return_, fail, continue_, deprecate, StatementsReading, no_statement, statement, if_, patch, AfterChoice, otherwise, without, BodyReading, statements, declaration, ProgramReading, workflow}
use Rattle.flow_model.specs.Grammar as reading
use Rattle.flow_model.specs.Grammar.{marked, named, numbered, worded, is_patch_id, deprecate_name, parens_tokens, prim_tokens, unary_tokens, term_tokens, term_tail_tokens, sum_tokens, sum_tail_tokens, compare_tokens, compare_tail_tokens, neg_tokens, conj_tokens, conj_tail_tokens, expr_tokens, expr_tail_tokens, argument_tail_tokens, arguments_tokens, type_tokens, type_tail_tokens, types_tokens, parameter_tokens, parameter_tail_tokens, parameters_tokens, declaration_tokens, else_tail_tokens, call_tail_tokens, wait_tail_tokens, side_tokens, branches_tokens, statement_tokens, statements_tokens, choice_tokens, body_tokens, program_tokens}
use Rattle.flow_syntax.specs.Machine.{Symbol, takes, then_more, prim_takes, unary_takes, term_takes, sum_takes, compare_takes, neg_takes, conj_takes, expr_takes, arguments_takes, type_takes, types_takes, parameter_takes, parameters_takes, else_tail_takes, call_tail_takes, wait_tail_takes, side_takes, statement_takes, after_name_takes, statements_takes, after_choice_takes, declaration_takes, body_takes, mark_number, is_mark}
use Rattle.flow_syntax.specs.Machine as m

-- what may stand behind the name that a statement begins with
abbrev pub AfterName : Bytes → Type 0
AfterName x = (ℕ × SideReading) ⊎ (ℕ × (id : Bytes) × IsTrue (is_patch_id id) × (x ≡ deprecate_name) × ℕ)

abbrev pub after_name_tokens : (x : Bytes) → AfterName x → List Lexeme
after_name_tokens x (inl a) = marked a.0 mark.Assign ∷ side_tokens a.1
after_name_tokens x (inr d) = worded d.0 d.1 ∷ marked d.4 mark.Semicolon ∷ []

-- what may stand for a symbol
abbrev pub Reading : Symbol → Type 0
Reading m.name = ℕ × Bytes
Reading m.number = ℕ × ℤ
Reading (m.sign _) = ℕ
Reading m.parens = ParensReading
Reading m.prim = PrimReading
Reading m.unary = UnaryReading
Reading m.term = TermReading
Reading m.sum = SumReading
Reading m.compare = CompareReading
Reading m.neg = NegReading
Reading m.conj = ConjReading
Reading m.expr = ExprReading
Reading m.more_term = TermTail
Reading m.more_sum = SumTail
Reading m.more_compare = CompareTail
Reading m.more_conj = ConjTail
Reading m.more_expr = ExprTail
Reading m.arguments = ArgumentsReading
Reading m.more_arguments = ArgumentTail
Reading m.type_ = TypeReading
Reading m.types = TypesReading
Reading m.more_types = TypeTail
Reading m.parameter = ParameterReading
Reading m.parameters = ParametersReading
Reading m.more_parameters = ParameterTail
Reading m.declaration = DeclarationReading
Reading m.else_tail = ElseTail
Reading m.call_tail = CallTail
Reading m.wait_tail = WaitTail
Reading m.side = SideReading
Reading m.more_branches = BranchesReading
Reading m.statement = StatementReading
Reading (m.after_name x) = AfterName x
Reading m.patch_id = ℕ × (id : Bytes) × IsTrue (is_patch_id id)
Reading m.statements = StatementsReading
Reading m.after_choice = AfterChoice
Reading m.body = BodyReading
Reading m.program = ProgramReading

abbrev pub spelled : (s : Symbol) → Reading s → List Lexeme
spelled m.name x = named x.0 x.1 ∷ []
spelled m.number n = numbered n.0 n.1 ∷ []
spelled (m.sign k) at = marked at k ∷ []
spelled m.parens r = parens_tokens r
spelled m.prim r = prim_tokens r
spelled m.unary r = unary_tokens r
spelled m.term r = term_tokens r
spelled m.sum r = sum_tokens r
spelled m.compare r = compare_tokens r
spelled m.neg r = neg_tokens r
spelled m.conj r = conj_tokens r
spelled m.expr r = expr_tokens r
spelled m.more_term r = term_tail_tokens r
spelled m.more_sum r = sum_tail_tokens r
spelled m.more_compare r = compare_tail_tokens r
spelled m.more_conj r = conj_tail_tokens r
spelled m.more_expr r = expr_tail_tokens r
spelled m.arguments r = arguments_tokens r
spelled m.more_arguments r = argument_tail_tokens r
spelled m.type_ r = type_tokens r
spelled m.types r = types_tokens r
spelled m.more_types r = type_tail_tokens r
spelled m.parameter r = parameter_tokens r
spelled m.parameters r = parameters_tokens r
spelled m.more_parameters r = parameter_tail_tokens r
spelled m.declaration r = declaration_tokens r
spelled m.else_tail r = else_tail_tokens r
spelled m.call_tail r = call_tail_tokens r
spelled m.wait_tail r = wait_tail_tokens r
spelled m.side r = side_tokens r
spelled m.more_branches r = branches_tokens r
spelled m.statement r = statement_tokens r
spelled (m.after_name x) r = after_name_tokens x r
spelled m.patch_id x = worded x.0 x.1 ∷ []
spelled m.statements r = statements_tokens r
spelled m.after_choice r = choice_tokens r
spelled m.body r = body_tokens r
spelled m.program r = program_tokens r

-- a reading for each symbol owed
abbrev pub Readings : List Symbol → Type 0
Readings [] = Unit {0}
Readings (s ∷ owed) = Reading s × Readings owed

abbrev pub all_spelled : (owed : List Symbol) → Readings owed → List Lexeme
all_spelled [] r = []
all_spelled (s ∷ owed) r = spelled s r.0 ++ all_spelled owed r.1

-- what a symbol begins with, and then readings of what it owes, is a reading of it
abbrev pub Comes : Symbol → Lexeme → Option (List Symbol) → Type 0
Comes s t None = Unit {0}
Comes s t (Some now) = (rs : Readings now) → (r : Reading s) × (spelled s r ≡ t ∷ all_spelled now rs)

abbrev by_number : List Mark
by_number = mark.Workflow ∷ mark.Activity ∷ mark.Signal ∷ mark.Let ∷ mark.If ∷ mark.Else ∷ mark.While ∷ mark.Call ∷ mark.Retry ∷ mark.Every ∷ mark.Sleep ∷ mark.Wait ∷ mark.For ∷ mark.Parallel ∷ mark.Patch ∷ mark.Return ∷ mark.Fail ∷ mark.Continue ∷ mark.As ∷ mark.New ∷ mark.Int ∷ mark.Text ∷ mark.Len ∷ mark.Now ∷ mark.And ∷ mark.Or ∷ mark.Not ∷ mark.Open ∷ mark.Close ∷ mark.BraceOpen ∷ mark.BraceClose ∷ mark.Comma ∷ mark.Semicolon ∷ mark.Colon ∷ mark.Assign ∷ mark.Equal ∷ mark.Differ ∷ mark.Less ∷ mark.AtMost ∷ mark.Greater ∷ mark.AtLeast ∷ mark.Arrow ∷ mark.Plus ∷ mark.Join ∷ mark.Minus ∷ mark.Times ∷ mark.Over ∷ mark.Percent ∷ []

is_numbered : (m : Mark) → get_or by_number (mark_number m) mark.Workflow ≡ m
is_numbered mark.Workflow = refl
is_numbered mark.Activity = refl
is_numbered mark.Signal = refl
is_numbered mark.Let = refl
is_numbered mark.If = refl
is_numbered mark.Else = refl
is_numbered mark.While = refl
is_numbered mark.Call = refl
is_numbered mark.Retry = refl
is_numbered mark.Every = refl
is_numbered mark.Sleep = refl
is_numbered mark.Wait = refl
is_numbered mark.For = refl
is_numbered mark.Parallel = refl
is_numbered mark.Patch = refl
is_numbered mark.Return = refl
is_numbered mark.Fail = refl
is_numbered mark.Continue = refl
is_numbered mark.As = refl
is_numbered mark.New = refl
is_numbered mark.Int = refl
is_numbered mark.Text = refl
is_numbered mark.Len = refl
is_numbered mark.Now = refl
is_numbered mark.And = refl
is_numbered mark.Or = refl
is_numbered mark.Not = refl
is_numbered mark.Open = refl
is_numbered mark.Close = refl
is_numbered mark.BraceOpen = refl
is_numbered mark.BraceClose = refl
is_numbered mark.Comma = refl
is_numbered mark.Semicolon = refl
is_numbered mark.Colon = refl
is_numbered mark.Assign = refl
is_numbered mark.Equal = refl
is_numbered mark.Differ = refl
is_numbered mark.Less = refl
is_numbered mark.AtMost = refl
is_numbered mark.Greater = refl
is_numbered mark.AtLeast = refl
is_numbered mark.Arrow = refl
is_numbered mark.Plus = refl
is_numbered mark.Join = refl
is_numbered mark.Minus = refl
is_numbered mark.Times = refl
is_numbered mark.Over = refl
is_numbered mark.Percent = refl

pub same_mark : (m n : Mark) → is_mark m n ≡ true → m ≡ n
same_mark m n h = sym (is_numbered m) ∙ ap (λ k. get_or by_number k mark.Workflow) (eqb-true (mark_number m) (mark_number n) h) ∙ is_numbered n

signs : (k n : Mark) (at : ℕ) (b : Bool) → is_mark k n ≡ b → Comes (m.sign k) (record { at = at; word = word.Mark n }) (cond b (Some []) None)
signs k n at true h = λ rs. (at, ap (λ j. marked at j ∷ []) (same_mark k n h))
signs k n at false h = tt

ids : (at : ℕ) (t : Bytes) (b : Bool) → is_patch_id t ≡ b → Comes m.patch_id (record { at = at; word = word.Text t }) (cond b (Some []) None)
ids at t true h = λ rs. ((at, t, h), refl)
ids at t false h = tt

pub split : (now owed : List Symbol) (rs : Readings (now ++ owed)) → (a : Readings now) × (b : Readings owed) × (all_spelled now a ++ all_spelled owed b ≡ all_spelled (now ++ owed) rs)
split [] owed rs = (tt, rs, refl)
split (s ∷ now) owed (r, rs) = let e = split now owed rs in ((r, e.0), e.1, rw append_assoc (ap (λ x. spelled s r ++ x) e.2))

-- what begins a part begins the whole
comes_then : (s w : Symbol) (t : Lexeme) (o : Option (List Symbol)) (more : List Symbol) → ((r : Reading s) (q : Readings more) → (v : Reading w) × (spelled w v ≡ spelled s r ++ all_spelled more q)) → Comes s t o → Comes w t (then_more o more)
comes_then s w t None more f h = tt
comes_then s w t (Some now) more f h = λ rs.
    let p = split now more rs in
    let r = h p.0 in
    let v = f r.0 p.1 in
    (v.0, v.1 ∙ ap (λ x. x ++ all_spelled more p.1) r.1 ∙ ap (λ x. t ∷ x) p.2)

comes_as : (s w : Symbol) (t : Lexeme) (o : Option (List Symbol)) → ((r : Reading s) → (v : Reading w) × (spelled w v ≡ spelled s r)) → Comes s t o → Comes w t o
comes_as s w t None f h = tt
comes_as s w t (Some now) f h = λ rs.
    let r = h rs in
    let v = f r.0 in
    (v.0, v.1 ∙ r.1)

prim_comes : (at : ℕ) (k : Word) → Comes m.prim (record { at = at; word = k }) (prim_takes k)
prim_comes at (word.Int n) = λ rs. (int at n, refl)
prim_comes at (word.Text t) = λ rs. (text at t, refl)
prim_comes at (word.Name x) = λ rs. (name at x, refl)
prim_comes at (word.Mark mark.Now) = λ rs. (reading.now at, refl)
prim_comes at (word.Mark mark.Open) = λ (e, (to, u)). (inner (parens at e to), refl)
prim_comes at (word.Mark mark.Text) = λ (p, u). (text_of at p, simp append-nil)
prim_comes at (word.Mark mark.Len) = λ (p, u). (len_of at p, simp append-nil)
prim_comes at _ = tt

unary_comes : (at : ℕ) (k : Word) → Comes m.unary (record { at = at; word = k }) (unary_takes k)
unary_comes at (word.Mark mark.Minus) = λ (u, v). (negate at u, simp append-nil)
unary_comes at k = comes_as m.prim m.unary (record { at = at; word = k }) (prim_takes k) (λ p. (prim p, refl)) (prim_comes at k)

term_comes : (at : ℕ) (k : Word) → Comes m.term (record { at = at; word = k }) (term_takes k)
term_comes at k = comes_then m.unary m.term (record { at = at; word = k }) (unary_takes k) (m.more_term ∷ []) (λ p q. (term p q.0, simp append-nil)) (unary_comes at k)

sum_comes : (at : ℕ) (k : Word) → Comes m.sum (record { at = at; word = k }) (sum_takes k)
sum_comes at k = comes_then m.term m.sum (record { at = at; word = k }) (term_takes k) (m.more_sum ∷ []) (λ p q. (sum p q.0, simp append-nil)) (term_comes at k)

compare_comes : (at : ℕ) (k : Word) → Comes m.compare (record { at = at; word = k }) (compare_takes k)
compare_comes at k = comes_then m.sum m.compare (record { at = at; word = k }) (sum_takes k) (m.more_compare ∷ []) (λ p q. (compare p q.0, simp append-nil)) (sum_comes at k)

neg_comes : (at : ℕ) (k : Word) → Comes m.neg (record { at = at; word = k }) (neg_takes k)
neg_comes at (word.Mark mark.Not) = λ (n, v). (not at n, simp append-nil)
neg_comes at k = comes_as m.compare m.neg (record { at = at; word = k }) (compare_takes k) (λ p. (plain p, refl)) (compare_comes at k)

conj_comes : (at : ℕ) (k : Word) → Comes m.conj (record { at = at; word = k }) (conj_takes k)
conj_comes at k = comes_then m.neg m.conj (record { at = at; word = k }) (neg_takes k) (m.more_conj ∷ []) (λ p q. (conj p q.0, simp append-nil)) (neg_comes at k)

expr_comes : (at : ℕ) (k : Word) → Comes m.expr (record { at = at; word = k }) (expr_takes k)
expr_comes at k = comes_then m.conj m.expr (record { at = at; word = k }) (conj_takes k) (m.more_expr ∷ []) (λ p q. (expr p q.0, simp append-nil)) (conj_comes at k)

arguments_comes : (at : ℕ) (k : Word) → Comes m.arguments (record { at = at; word = k }) (arguments_takes k)
arguments_comes at (word.Mark mark.Close) = λ rs. (no_argument at, refl)
arguments_comes at k = comes_then m.expr m.arguments (record { at = at; word = k }) (expr_takes k) (m.more_arguments ∷ []) (λ p q. (argument p q.0, simp append-nil)) (expr_comes at k)

type_comes : (at : ℕ) (k : Word) → Comes m.type_ (record { at = at; word = k }) (type_takes k)
type_comes at (word.Mark mark.Int) = λ rs. (typed at kind.Int, refl)
type_comes at (word.Mark mark.Text) = λ rs. (typed at kind.Text, refl)
type_comes at _ = tt

types_comes : (at : ℕ) (k : Word) → Comes m.types (record { at = at; word = k }) (types_takes k)
types_comes at (word.Mark mark.Close) = λ rs. (no_type at, refl)
types_comes at k = comes_then m.type_ m.types (record { at = at; word = k }) (type_takes k) (m.more_types ∷ []) (λ p q. (type_ p q.0, simp append-nil)) (type_comes at k)

parameter_comes : (at : ℕ) (k : Word) → Comes m.parameter (record { at = at; word = k }) (parameter_takes k)
parameter_comes at (word.Name x) = λ (colon, (t, u)). (parameter at x colon t, simp append-nil)
parameter_comes at _ = tt

parameters_comes : (at : ℕ) (k : Word) → Comes m.parameters (record { at = at; word = k }) (parameters_takes k)
parameters_comes at (word.Mark mark.Close) = λ rs. (no_parameter at, refl)
parameters_comes at k = comes_then m.parameter m.parameters (record { at = at; word = k }) (parameter_takes k) (m.more_parameters ∷ []) (λ p q. (parameter_ p q.0, simp append-nil)) (parameter_comes at k)

else_tail_comes : (at : ℕ) (k : Word) → Comes m.else_tail (record { at = at; word = k }) (else_tail_takes k)
else_tail_comes at (word.Mark mark.Semicolon) = λ rs. (no_else at, refl)
else_tail_comes at (word.Mark mark.Else) = λ (brace, (ss, (end, u))). (else_ at brace ss end, refl)
else_tail_comes at _ = tt

call_tail_comes : (at : ℕ) (k : Word) → Comes m.call_tail (record { at = at; word = k }) (call_tail_takes k)
call_tail_comes at (word.Mark mark.Retry) = λ (n, (every, (p, (more, u)))). (retry at n.0 n.1 every p.0 p.1 more, simp append-nil)
call_tail_comes at k = comes_as m.else_tail m.call_tail (record { at = at; word = k }) (else_tail_takes k) (λ p. (no_retry p, refl)) (else_tail_comes at k)

wait_tail_comes : (at : ℕ) (k : Word) → Comes m.wait_tail (record { at = at; word = k }) (wait_tail_takes k)
wait_tail_comes at (word.Mark mark.Semicolon) = λ rs. (for_ever at, refl)
wait_tail_comes at (word.Mark mark.For) = λ (e, (else_at, (brace, (ss, (end, u))))). (for_ at e else_at brace ss end, refl)
wait_tail_comes at _ = tt

side_comes : (at : ℕ) (k : Word) → Comes m.side (record { at = at; word = k }) (side_takes k)
side_comes at (word.Mark mark.Call) = λ (x, (paren, (es, (more, u)))). (call at x.0 x.1 paren es more, simp append-nil)
side_comes at (word.Mark mark.Wait) = λ (signal_at, (x, (more, u))). (wait at signal_at x.0 x.1 more, simp append-nil)
side_comes at k = comes_then m.expr m.side (record { at = at; word = k }) (expr_takes k) (m.sign mark.Semicolon ∷ []) (λ p q. (value p q.0, refl)) (expr_comes at k)

-- the name, and what stands behind it
named_comes : (at : ℕ) (x : Bytes) (r : AfterName x) → (v : StatementReading) × (statement_tokens v ≡ named at x ∷ (after_name_tokens x r ++ []))
named_comes at x (inl a) = (assign at x a.0 a.1, simp append-nil)
named_comes at x (inr d) = (deprecate at d.0 d.1 d.2 d.4, ap (λ n. named at n ∷ worded d.0 d.1 ∷ marked d.4 mark.Semicolon ∷ []) (sym d.3))

deprecate_comes : (at : ℕ) (x t : Bytes) (a b : Bool) → bytes_eq x deprecate_name ≡ a → is_patch_id t ≡ b
    → Comes (m.after_name x) (record { at = at; word = word.Text t }) (cond (a && b) (Some (m.sign mark.Semicolon ∷ [])) None)
deprecate_comes at x t true true g h = λ (end, u). (inr (at, t, h, (bytes_decides x deprecate_name).0 g, end), refl)
deprecate_comes at x t true false g h = tt
deprecate_comes at x t false b g h = tt

after_name_comes : (at : ℕ) (x : Bytes) (k : Word) → Comes (m.after_name x) (record { at = at; word = k }) (after_name_takes x k)
after_name_comes at x (word.Mark mark.Assign) = λ (s, u). (inl (at, s), simp append-nil)
after_name_comes at x (word.Text t) = deprecate_comes at x t (bytes_eq x deprecate_name) (is_patch_id t) refl refl
after_name_comes at x _ = tt

statement_comes : (at : ℕ) (k : Word) → Comes m.statement (record { at = at; word = k }) (statement_takes k)
statement_comes at (word.Mark mark.Let) = λ (x, (eq, (e, (end, u)))). (let_ at x.0 x.1 eq e end, refl)
statement_comes at (word.Mark mark.Sleep) = λ (e, (end, u)). (sleep at e end, refl)
statement_comes at (word.Mark mark.While) = λ (e, (brace, (ss, u))). (while_ at e brace ss, simp append-nil)
statement_comes at (word.Mark mark.Parallel) = λ (brace, (first, (ss, (more, u)))). (parallel at brace first ss more, simp append-nil)
statement_comes at (word.Mark mark.Return) = λ (e, (end, u)). (return_ at e end, refl)
statement_comes at (word.Mark mark.Fail) = λ (e, (end, u)). (fail at e end, refl)
statement_comes at (word.Mark mark.Continue) = λ (as_at, (new_at, (paren, (es, (end, u))))). (continue_ at as_at new_at paren es end, refl)
statement_comes at (word.Name x) = λ (r, u). named_comes at x r
statement_comes at _ = tt

statements_comes : (at : ℕ) (k : Word) → Comes m.statements (record { at = at; word = k }) (statements_takes k)
statements_comes at (word.Mark mark.BraceClose) = λ rs. (no_statement at, refl)
statements_comes at (word.Mark mark.If) = λ (e, (brace, (ss, (more, u)))). (if_ at e brace ss more, simp append-nil)
statements_comes at (word.Mark mark.Patch) = λ (x, (brace, (ss, (more, u)))). (patch at x.0 x.1 x.2 brace ss more, simp append-nil)
statements_comes at k = comes_then m.statement m.statements (record { at = at; word = k }) (statement_takes k) (m.statements ∷ []) (λ p q. (statement p q.0, simp append-nil)) (statement_comes at k)

after_choice_comes : (at : ℕ) (k : Word) → Comes m.after_choice (record { at = at; word = k }) (after_choice_takes k)
after_choice_comes at (word.Mark mark.Else) = λ (brace, (ss, (more, u))). (otherwise at brace ss more, simp append-nil)
after_choice_comes at k = comes_as m.statements m.after_choice (record { at = at; word = k }) (statements_takes k) (λ p. (without p, refl)) (statements_comes at k)

declaration_comes : (at : ℕ) (k : Word) → Comes m.declaration (record { at = at; word = k }) (declaration_takes k)
declaration_comes at (word.Mark mark.Activity) = λ (x, (paren, (us, (arrow, (t, (end, u)))))). (activity at x.0 x.1 paren us arrow t end, refl)
declaration_comes at (word.Mark mark.Signal) = λ (x, (colon, (t, (end, u)))). (signal at x.0 x.1 colon t end, refl)
declaration_comes at _ = tt

body_comes : (at : ℕ) (k : Word) → Comes m.body (record { at = at; word = k }) (body_takes k)
body_comes at (word.Mark mark.Activity) = comes_then m.declaration m.body (record { at = at; word = word.Mark mark.Activity }) (declaration_takes (word.Mark mark.Activity)) (m.body ∷ []) (λ p q. (declaration p q.0, simp append-nil)) (declaration_comes at (word.Mark mark.Activity))
body_comes at (word.Mark mark.Signal) = comes_then m.declaration m.body (record { at = at; word = word.Mark mark.Signal }) (declaration_takes (word.Mark mark.Signal)) (m.body ∷ []) (λ p q. (declaration p q.0, simp append-nil)) (declaration_comes at (word.Mark mark.Signal))
body_comes at k = comes_as m.statements m.body (record { at = at; word = k }) (statements_takes k) (λ p. (statements p, refl)) (statements_comes at k)

pub comes : (s : Symbol) (at : ℕ) (k : Word) → Comes s (record { at = at; word = k }) (takes s k)
comes m.name at (word.Name x) = λ rs. ((at, x), refl)
comes m.number at (word.Int n) = λ rs. ((at, n), refl)
comes (m.sign k) at (word.Mark n) = signs k n at (is_mark k n) refl
comes m.parens at (word.Mark mark.Open) = λ (e, (to, u)). (parens at e to, refl)
comes m.prim at k = prim_comes at k
comes m.unary at k = unary_comes at k
comes m.term at k = term_comes at k
comes m.sum at k = sum_comes at k
comes m.compare at k = compare_comes at k
comes m.neg at k = neg_comes at k
comes m.conj at k = conj_comes at k
comes m.expr at k = expr_comes at k
comes m.more_term at (word.Mark mark.Times) = λ (p, (more, u)). (factor times at p more, simp append-nil)
comes m.more_term at (word.Mark mark.Over) = λ (p, (more, u)). (factor over at p more, simp append-nil)
comes m.more_term at (word.Mark mark.Percent) = λ (p, (more, u)). (factor percent at p more, simp append-nil)
comes m.more_sum at (word.Mark mark.Plus) = λ (t, (more, u)). (added plus at t more, simp append-nil)
comes m.more_sum at (word.Mark mark.Minus) = λ (t, (more, u)). (added minus at t more, simp append-nil)
comes m.more_sum at (word.Mark mark.Join) = λ (t, (more, u)). (added join at t more, simp append-nil)
comes m.more_compare at (word.Mark mark.Equal) = λ (b, u). (compared equal at b, simp append-nil)
comes m.more_compare at (word.Mark mark.Differ) = λ (b, u). (compared differ at b, simp append-nil)
comes m.more_compare at (word.Mark mark.Less) = λ (b, u). (compared less at b, simp append-nil)
comes m.more_compare at (word.Mark mark.AtMost) = λ (b, u). (compared at_most at b, simp append-nil)
comes m.more_compare at (word.Mark mark.Greater) = λ (b, u). (compared greater at b, simp append-nil)
comes m.more_compare at (word.Mark mark.AtLeast) = λ (b, u). (compared at_least at b, simp append-nil)
comes m.more_conj at (word.Mark mark.And) = λ (n, (more, u)). (and at n more, simp append-nil)
comes m.more_expr at (word.Mark mark.Or) = λ (c, (more, u)). (or at c more, simp append-nil)
comes m.arguments at k = arguments_comes at k
comes m.more_arguments at (word.Mark mark.Close) = λ rs. (last_argument at, refl)
comes m.more_arguments at (word.Mark mark.Comma) = λ (e, (more, u)). (next_argument at e more, simp append-nil)
comes m.type_ at k = type_comes at k
comes m.types at k = types_comes at k
comes m.more_types at (word.Mark mark.Close) = λ rs. (last_type at, refl)
comes m.more_types at (word.Mark mark.Comma) = λ (t, (more, u)). (next_type at t more, simp append-nil)
comes m.parameter at k = parameter_comes at k
comes m.parameters at k = parameters_comes at k
comes m.more_parameters at (word.Mark mark.Close) = λ rs. (last_parameter at, refl)
comes m.more_parameters at (word.Mark mark.Comma) = λ (p, (more, u)). (next_parameter at p more, simp append-nil)
comes m.declaration at k = declaration_comes at k
comes m.else_tail at k = else_tail_comes at k
comes m.call_tail at k = call_tail_comes at k
comes m.wait_tail at k = wait_tail_comes at k
comes m.side at k = side_comes at k
comes m.more_branches at (word.Mark mark.BraceClose) = λ rs. (no_branch at, refl)
comes m.more_branches at (word.Mark mark.BraceOpen) = λ (ss, (more, u)). (branch at ss more, simp append-nil)
comes m.statement at k = statement_comes at k
comes (m.after_name x) at k = after_name_comes at x k
comes m.patch_id at (word.Text t) = ids at t (is_patch_id t) refl
comes m.statements at k = statements_comes at k
comes m.after_choice at k = after_choice_comes at k
comes m.body at k = body_comes at k
comes m.program at (word.Mark mark.Workflow) = λ (x, (paren, (ps, (brace, (b, u))))). (workflow at x.0 x.1 paren ps brace b, simp append-nil)
comes _ at _ = tt
