-- The words of a program are the tokens that it was read from, but for pairs of parentheses, a `retry` that is none and
-- an `else { }` of a choice.
use Rattle.std.proofs.Common.{◌≡◌, ◌∙◌, ℕ, ℤ, pos, ◌<◌, ◌≤◌, Bool, true, false, if◌then◌else◌, nat_lt, List, [], ◌∷◌, ◌++◌, map, append_assoc, refl, ap, sym, subst, arith}
use Rattle.std.proofs.lemmas.Bool.{ltb-true}
use Rattle.std.proofs.lemmas.List.{append-nil}
use Rattle.flow_base.specs.Syntax as tree
use Rattle.flow_base.specs.declared.syntax.Unary.TheVariants as unary
use Rattle.flow_base.specs.declared.syntax.Binary.TheVariants as binary
use Rattle.flow_base.specs.declared.token.Mark.TheVariants as mark
use Rattle.flow_base.specs.declared.token.Word.{Word}
use Rattle.flow_base.specs.declared.token.Word.TheVariants as word
use Rattle.flow_base.specs.declared.value.Kind.{Kind}
use Rattle.flow_base.specs.declared.value.Kind.TheVariants as kind
use Rattle.flow_model.specs.Lexeme.{Lexeme}
use Rattle.flow_model.specs.Grammar.{TermSign, times, over, percent, SumSign, plus, minus, join, CompareSign, equal, differ, less, at_most, greater, at_least, ParensReading, parens, PrimReading, int, text, name, now, text_of, len_of, inner, UnaryReading, negate, prim, TermReading, term, TermTail, no_factor, factor, SumReading, sum, SumTail, no_term, added, CompareReading, compare, CompareTail, no_side, compared, NegReading, not, plain, ConjReading, conj, ConjTail, no_and, and, ExprReading, expr, ExprTail, no_or, or, ArgumentsReading, no_argument, argument, ArgumentTail, last_argument, next_argument, TypeReading, typed, TypesReading, no_type, type_, TypeTail, last_type, next_type, ParameterReading, parameter, ParametersReading, no_parameter, parameter_, ParameterTail, last_parameter, next_parameter, DeclarationReading, activity, signal, ElseTail, no_else, else_, CallTail, no_retry, retry, WaitTail, for_ever, for_, SideReading, value, call, wait, BranchesReading, no_branch, branch, StatementReading, let_, assign, sleep, while_, parallel, return_, fail, continue_, deprecate, StatementsReading, no_statement, statement, if_, patch, AfterChoice, otherwise, without, BodyReading, statements, declaration, ProgramReading, workflow}
use Rattle.flow_model.specs.Grammar.{marked, named, numbered, worded, whole, deprecate_name, term_mark, sum_mark, compare_mark, term_operator, sum_operator, compare_operator, parens_tokens, prim_tokens, unary_tokens, term_tokens, term_tail_tokens, sum_tokens, sum_tail_tokens, compare_tokens, compare_tail_tokens, neg_tokens, conj_tokens, conj_tail_tokens, expr_tokens, expr_tail_tokens, argument_tail_tokens, arguments_tokens, type_tokens, type_tail_tokens, types_tokens, parameter_tokens, parameter_tail_tokens, parameters_tokens, declaration_tokens, else_tail_tokens, call_tail_tokens, wait_tail_tokens, side_tokens, branches_tokens, statement_tokens, statements_tokens, choice_tokens, body_tokens, program_tokens}
use Rattle.flow_model.specs.Grammar.{parens_of, prim_of, unary_of, term_of, factors_of, sum_of, added_of, compare_of, compared_of, neg_of, conj_of, and_of, expr_of, or_of, argument_tail_of, arguments_of, type_of, kind_of, type_tail_of, types_of, parameter_of, parameter_tail_of, parameters_of, declaration_of, retry_of, otherwise_of, failing_of, wait_of, side_of, branches_of, statement_of, statements_of, second_of, behind_choice, body_statements, declarations_of, program_of}
use Rattle.flow_syntax.specs.Print.{in_parentheses, fitted, level, kind_mark, expression_words, behind_commas, between_commas, listed, type_words, parameter_words, in_braces, retry_words, statement_words, block_words, else_words, otherwise_words, branches_words, declared_words, declarations_words, program_words}
use Rattle.flow_syntax.proofs.Printing.{is_once, retry_or_none}
use Rattle.flow_syntax.proofs.Fewer.{Fewer, Closed, Shut, IsFlat, no_word, kept, number_kept, left_out, together, together_closed, together_shut, kept_closed, opened, brace_opened, closing, brace_closing, dropped, else_dropped}

---- Expressions

-- what was read where a production of this level stands: the words of the expression, also with the parentheses that they
-- need there
record Fits (wanted : ℕ) (x : tree.Expression) (ts : List Lexeme) : Type 0 where
  by_itself : Fewer (expression_words x) ts
  enclosed : level x < wanted → Fewer (in_parentheses (expression_words x)) ts

fit_by : (wanted : ℕ) (x : tree.Expression) (ts : List Lexeme) (v : Bool) → Fits wanted x ts → nat_lt (level x) wanted ≡ v → Fewer (if v then in_parentheses (expression_words x) else expression_words x) ts
fit_by wanted x ts true f e = f.enclosed (ltb-true (level x) wanted e)
fit_by wanted x ts false f e = f.by_itself

fit : (wanted : ℕ) (x : tree.Expression) (ts : List Lexeme) → Fits wanted x ts → Fewer (fitted (level x) wanted (expression_words x)) ts
fit wanted x ts f = fit_by wanted x ts (nat_lt (level x) wanted) f refl

-- an earlier production reads it too
earlier : (n m : ℕ) (x : tree.Expression) (ts : List Lexeme) → n ≤ m → Fits m x ts → Fits n x ts
earlier n m x ts l f = record { by_itself = f.by_itself; enclosed = λ h. f.enclosed (omega (arith, l, h)) }

-- the production of its own level needs no parentheses
of_level : (n : ℕ) (x : tree.Expression) (ts : List Lexeme) → n ≤ level x → Fewer (expression_words x) ts → Fits n x ts
of_level n x ts l f = record { by_itself = f; enclosed = λ h. absurd (omega (arith, l, h)) }

-- an operator between its operands
between : (us ws : List Word) (xs ts : List Lexeme) (t : Lexeme) → IsFlat t.word → Fewer us xs → Fewer ws ts → Fewer (us ++ (t.word ∷ ws)) (xs ++ (t ∷ ts))
between us ws xs ts t flat f g = together us (t.word ∷ ws) xs (t ∷ ts) f (kept t ws ts flat g)

module _ (at : ℕ) (a b : tree.Expression) (xs ys : List Lexeme) where
  factor_fits : (s : TermSign) → Fits 5 a xs → Fits 6 b ys → Fits 5 (tree.Combine (term_operator s) a b) (xs ++ (marked at (term_mark s) ∷ ys))
  factor_fits times f g = of_level 5 (tree.Combine binary.Multiply a b) (xs ++ (marked at mark.Times ∷ ys)) (omega arith) (between (fitted (level a) 5 (expression_words a)) (fitted (level b) 6 (expression_words b)) xs ys (marked at mark.Times) (λ n. refl) (fit 5 a xs f) (fit 6 b ys g))
  factor_fits over f g = of_level 5 (tree.Combine binary.Divide a b) (xs ++ (marked at mark.Over ∷ ys)) (omega arith) (between (fitted (level a) 5 (expression_words a)) (fitted (level b) 6 (expression_words b)) xs ys (marked at mark.Over) (λ n. refl) (fit 5 a xs f) (fit 6 b ys g))
  factor_fits percent f g = of_level 5 (tree.Combine binary.Remain a b) (xs ++ (marked at mark.Percent ∷ ys)) (omega arith) (between (fitted (level a) 5 (expression_words a)) (fitted (level b) 6 (expression_words b)) xs ys (marked at mark.Percent) (λ n. refl) (fit 5 a xs f) (fit 6 b ys g))

  added_fits : (s : SumSign) → Fits 4 a xs → Fits 5 b ys → Fits 4 (tree.Combine (sum_operator s) a b) (xs ++ (marked at (sum_mark s) ∷ ys))
  added_fits plus f g = of_level 4 (tree.Combine binary.Add a b) (xs ++ (marked at mark.Plus ∷ ys)) (omega arith) (between (fitted (level a) 4 (expression_words a)) (fitted (level b) 5 (expression_words b)) xs ys (marked at mark.Plus) (λ n. refl) (fit 4 a xs f) (fit 5 b ys g))
  added_fits minus f g = of_level 4 (tree.Combine binary.Subtract a b) (xs ++ (marked at mark.Minus ∷ ys)) (omega arith) (between (fitted (level a) 4 (expression_words a)) (fitted (level b) 5 (expression_words b)) xs ys (marked at mark.Minus) (λ n. refl) (fit 4 a xs f) (fit 5 b ys g))
  added_fits join f g = of_level 4 (tree.Combine binary.Join a b) (xs ++ (marked at mark.Join ∷ ys)) (omega arith) (between (fitted (level a) 4 (expression_words a)) (fitted (level b) 5 (expression_words b)) xs ys (marked at mark.Join) (λ n. refl) (fit 4 a xs f) (fit 5 b ys g))

  compared_fits : (s : CompareSign) → Fits 4 a xs → Fits 4 b ys → Fits 3 (tree.Combine (compare_operator s) a b) (xs ++ (marked at (compare_mark s) ∷ ys))
  compared_fits equal f g = of_level 3 (tree.Combine binary.Equal a b) (xs ++ (marked at mark.Equal ∷ ys)) (omega arith) (between (fitted (level a) 4 (expression_words a)) (fitted (level b) 4 (expression_words b)) xs ys (marked at mark.Equal) (λ n. refl) (fit 4 a xs f) (fit 4 b ys g))
  compared_fits differ f g = of_level 3 (tree.Combine binary.Differ a b) (xs ++ (marked at mark.Differ ∷ ys)) (omega arith) (between (fitted (level a) 4 (expression_words a)) (fitted (level b) 4 (expression_words b)) xs ys (marked at mark.Differ) (λ n. refl) (fit 4 a xs f) (fit 4 b ys g))
  compared_fits less f g = of_level 3 (tree.Combine binary.Less a b) (xs ++ (marked at mark.Less ∷ ys)) (omega arith) (between (fitted (level a) 4 (expression_words a)) (fitted (level b) 4 (expression_words b)) xs ys (marked at mark.Less) (λ n. refl) (fit 4 a xs f) (fit 4 b ys g))
  compared_fits at_most f g = of_level 3 (tree.Combine binary.AtMost a b) (xs ++ (marked at mark.AtMost ∷ ys)) (omega arith) (between (fitted (level a) 4 (expression_words a)) (fitted (level b) 4 (expression_words b)) xs ys (marked at mark.AtMost) (λ n. refl) (fit 4 a xs f) (fit 4 b ys g))
  compared_fits greater f g = of_level 3 (tree.Combine binary.Greater a b) (xs ++ (marked at mark.Greater ∷ ys)) (omega arith) (between (fitted (level a) 4 (expression_words a)) (fitted (level b) 4 (expression_words b)) xs ys (marked at mark.Greater) (λ n. refl) (fit 4 a xs f) (fit 4 b ys g))
  compared_fits at_least f g = of_level 3 (tree.Combine binary.AtLeast a b) (xs ++ (marked at mark.AtLeast ∷ ys)) (omega arith) (between (fitted (level a) 4 (expression_words a)) (fitted (level b) 4 (expression_words b)) xs ys (marked at mark.AtLeast) (λ n. refl) (fit 4 a xs f) (fit 4 b ys g))

  and_fits : Fits 1 a xs → Fits 2 b ys → Fits 1 (tree.Combine binary.And a b) (xs ++ (marked at mark.And ∷ ys))
  and_fits f g = of_level 1 (tree.Combine binary.And a b) (xs ++ (marked at mark.And ∷ ys)) (omega arith) (between (fitted (level a) 1 (expression_words a)) (fitted (level b) 2 (expression_words b)) xs ys (marked at mark.And) (λ n. refl) (fit 1 a xs f) (fit 2 b ys g))

  or_fits : Fits 0 a xs → Fits 1 b ys → Fits 0 (tree.Combine binary.Or a b) (xs ++ (marked at mark.Or ∷ ys))
  or_fits f g = of_level 0 (tree.Combine binary.Or a b) (xs ++ (marked at mark.Or ∷ ys)) (omega arith) (between (fitted (level a) 0 (expression_words a)) (fitted (level b) 1 (expression_words b)) xs ys (marked at mark.Or) (λ n. refl) (fit 0 a xs f) (fit 1 b ys g))

-- no tail
alone : (n : ℕ) (x : tree.Expression) (ts : List Lexeme) → Fits n x ts → Fits n x (ts ++ [])
alone n x ts f = subst (Fits n x) (sym (append-nil ts)) f

-- a tail that goes on
longer : (n : ℕ) (x : tree.Expression) (ts ys zs : List Lexeme) (t : Lexeme) → Fits n x ((ts ++ (t ∷ ys)) ++ zs) → Fits n x (ts ++ (t ∷ (ys ++ zs)))
longer n x ts ys zs t f = subst (Fits n x) (append_assoc ts (t ∷ ys) zs) f

mutual
  parens_enclosed : (p : ParensReading) → Fewer (in_parentheses (expression_words (parens_of p))) (parens_tokens p)
  parens_enclosed (parens at e to) =
      opened at (expression_words (expr_of e) ++ (word.Mark mark.Close ∷ [])) (expr_tokens e ++ (marked to mark.Close ∷ []))
      (together_closed (expression_words (expr_of e)) (word.Mark mark.Close ∷ []) (expr_tokens e) (marked to mark.Close ∷ []) (expr_fits e).by_itself (closing to))

  parens_left_out : (p : ParensReading) → Fewer (expression_words (parens_of p)) (parens_tokens p)
  parens_left_out (parens at e to) = dropped at to (expression_words (expr_of e)) (expr_tokens e) (expr_fits e).by_itself

  prim_fits : (p : PrimReading) → Fits 7 (prim_of p) (prim_tokens p)
  prim_fits (int at n) = of_level 7 (tree.Number at n) (record { at = at; word = word.Int n } ∷ []) (omega arith) (kept (record { at = at; word = word.Int n }) [] [] (λ b. refl) no_word)
  prim_fits (text at t) = of_level 7 (tree.Literal at t) (record { at = at; word = word.Text t } ∷ []) (omega arith) (kept (record { at = at; word = word.Text t }) [] [] (λ b. refl) no_word)
  prim_fits (name at x) = of_level 7 (tree.Variable at x) (named at x ∷ []) (omega arith) (kept (named at x) [] [] (λ b. refl) no_word)
  prim_fits (now at) = of_level 7 (tree.Now at) (marked at mark.Now ∷ []) (omega arith) (kept (marked at mark.Now) [] [] (λ b. refl) no_word)
  prim_fits (text_of at p) =
      of_level 7 (tree.Apply at unary.TextOf (parens_of p)) (marked at mark.Text ∷ parens_tokens p) (omega arith)
      (kept (marked at mark.Text) (in_parentheses (expression_words (parens_of p))) (parens_tokens p) (λ b. refl) (parens_enclosed p))
  prim_fits (len_of at p) =
      of_level 7 (tree.Apply at unary.Length (parens_of p)) (marked at mark.Len ∷ parens_tokens p) (omega arith)
      (kept (marked at mark.Len) (in_parentheses (expression_words (parens_of p))) (parens_tokens p) (λ b. refl) (parens_enclosed p))
  prim_fits (inner p) = record { by_itself = parens_left_out p; enclosed = λ h. parens_enclosed p }

  unary_fits : (u : UnaryReading) → Fits 6 (unary_of u) (unary_tokens u)
  unary_fits (negate at u) =
      of_level 6 (tree.Apply at unary.Negate (unary_of u)) (marked at mark.Minus ∷ unary_tokens u) (omega arith)
      (kept (marked at mark.Minus) (fitted (level (unary_of u)) 6 (expression_words (unary_of u))) (unary_tokens u) (λ b. refl) (fit 6 (unary_of u) (unary_tokens u) (unary_fits u)))
  unary_fits (prim p) = earlier 6 7 (prim_of p) (prim_tokens p) (omega arith) (prim_fits p)

  term_fits : (t : TermReading) → Fits 5 (term_of t) (term_tokens t)
  term_fits (term u more) = factors_fit (unary_of u) (unary_tokens u) more (earlier 5 6 (unary_of u) (unary_tokens u) (omega arith) (unary_fits u))

  factors_fit : (left : tree.Expression) (ts : List Lexeme) (more : TermTail) → Fits 5 left ts → Fits 5 (factors_of left more) (ts ++ term_tail_tokens more)
  factors_fit left ts no_factor f = alone 5 left ts f
  factors_fit left ts (factor s at u more) f =
      let x : tree.Expression = tree.Combine (term_operator s) left (unary_of u) in
      longer 5 (factors_of x more) ts (unary_tokens u) (term_tail_tokens more) (marked at (term_mark s))
      (factors_fit x (ts ++ (marked at (term_mark s) ∷ unary_tokens u)) more (factor_fits at left (unary_of u) ts (unary_tokens u) s f (unary_fits u)))

  sum_fits : (r : SumReading) → Fits 4 (sum_of r) (sum_tokens r)
  sum_fits (sum t more) = added_fit (term_of t) (term_tokens t) more (earlier 4 5 (term_of t) (term_tokens t) (omega arith) (term_fits t))

  added_fit : (left : tree.Expression) (ts : List Lexeme) (more : SumTail) → Fits 4 left ts → Fits 4 (added_of left more) (ts ++ sum_tail_tokens more)
  added_fit left ts no_term f = alone 4 left ts f
  added_fit left ts (added s at t more) f =
      let x : tree.Expression = tree.Combine (sum_operator s) left (term_of t) in
      longer 4 (added_of x more) ts (term_tokens t) (sum_tail_tokens more) (marked at (sum_mark s))
      (added_fit x (ts ++ (marked at (sum_mark s) ∷ term_tokens t)) more (added_fits at left (term_of t) ts (term_tokens t) s f (term_fits t)))

  compare_fits : (r : CompareReading) → Fits 3 (compare_of r) (compare_tokens r)
  compare_fits (compare a more) = compared_fit (sum_of a) (sum_tokens a) more (sum_fits a)

  compared_fit : (left : tree.Expression) (ts : List Lexeme) (more : CompareTail) → Fits 4 left ts → Fits 3 (compared_of left more) (ts ++ compare_tail_tokens more)
  compared_fit left ts no_side f = alone 3 left ts (earlier 3 4 left ts (omega arith) f)
  compared_fit left ts (compared s at b) f = compared_fits at left (sum_of b) ts (sum_tokens b) s f (sum_fits b)

  neg_fits : (n : NegReading) → Fits 2 (neg_of n) (neg_tokens n)
  neg_fits (not at n) =
      of_level 2 (tree.Apply at unary.Not (neg_of n)) (marked at mark.Not ∷ neg_tokens n) (omega arith)
      (kept (marked at mark.Not) (fitted (level (neg_of n)) 2 (expression_words (neg_of n))) (neg_tokens n) (λ b. refl) (fit 2 (neg_of n) (neg_tokens n) (neg_fits n)))
  neg_fits (plain c) = earlier 2 3 (compare_of c) (compare_tokens c) (omega arith) (compare_fits c)

  conj_fits : (c : ConjReading) → Fits 1 (conj_of c) (conj_tokens c)
  conj_fits (conj n more) = and_fit (neg_of n) (neg_tokens n) more (earlier 1 2 (neg_of n) (neg_tokens n) (omega arith) (neg_fits n))

  and_fit : (left : tree.Expression) (ts : List Lexeme) (more : ConjTail) → Fits 1 left ts → Fits 1 (and_of left more) (ts ++ conj_tail_tokens more)
  and_fit left ts no_and f = alone 1 left ts f
  and_fit left ts (and at n more) f =
      let x : tree.Expression = tree.Combine binary.And left (neg_of n) in
      longer 1 (and_of x more) ts (neg_tokens n) (conj_tail_tokens more) (marked at mark.And)
      (and_fit x (ts ++ (marked at mark.And ∷ neg_tokens n)) more (and_fits at left (neg_of n) ts (neg_tokens n) f (neg_fits n)))

  expr_fits : (e : ExprReading) → Fits 0 (expr_of e) (expr_tokens e)
  expr_fits (expr c more) = or_fit (conj_of c) (conj_tokens c) more (earlier 0 1 (conj_of c) (conj_tokens c) (omega arith) (conj_fits c))

  or_fit : (left : tree.Expression) (ts : List Lexeme) (more : ExprTail) → Fits 0 left ts → Fits 0 (or_of left more) (ts ++ expr_tail_tokens more)
  or_fit left ts no_or f = alone 0 left ts f
  or_fit left ts (or at c more) f =
      let x : tree.Expression = tree.Combine binary.Or left (conj_of c) in
      longer 0 (or_of x more) ts (conj_tokens c) (expr_tail_tokens more) (marked at mark.Or)
      (or_fit x (ts ++ (marked at mark.Or ∷ conj_tokens c)) more (or_fits at left (conj_of c) ts (conj_tokens c) f (conj_fits c)))

expression_fewer : (e : ExprReading) → Fewer (expression_words (expr_of e)) (expr_tokens e)
expression_fewer e = (expr_fits e).by_itself

---- Lists

abbrev close : List Word
close = word.Mark mark.Close ∷ []

-- what is behind a comma, and the rest of the list
behind_comma : (at : ℕ) (us ws : List Word) (xs ts : List Lexeme) → Fewer us xs → Closed (ws ++ close) ts → Closed ((word.Mark mark.Comma ∷ (us ++ ws)) ++ close) (marked at mark.Comma ∷ (xs ++ ts))
behind_comma at us ws xs ts f g =
    subst (λ v. Closed v (marked at mark.Comma ∷ (xs ++ ts))) (ap (λ v. word.Mark mark.Comma ∷ v) (sym (append_assoc us ws close)))
    (kept_closed (marked at mark.Comma) (us ++ (ws ++ close)) (xs ++ ts) (λ b. refl) (together_closed us (ws ++ close) xs ts f g))

-- the first item, and the rest of the list
first_item : (us ws : List Word) (xs ts : List Lexeme) → Fewer us xs → Closed (ws ++ close) ts → Closed ((us ++ ws) ++ close) (xs ++ ts)
first_item us ws xs ts f g = subst (λ v. Closed v (xs ++ ts)) (sym (append_assoc us ws close)) (together_closed us (ws ++ close) xs ts f g)

argument_tail_fewer : (r : ArgumentTail) → Closed (behind_commas (map expression_words (argument_tail_of r)) ++ close) (argument_tail_tokens r)
argument_tail_fewer (last_argument to) = closing to
argument_tail_fewer (next_argument at e more) =
    behind_comma at (expression_words (expr_of e)) (behind_commas (map expression_words (argument_tail_of more))) (expr_tokens e) (argument_tail_tokens more) (expression_fewer e) (argument_tail_fewer more)

arguments_fewer : (r : ArgumentsReading) → Closed (between_commas (map expression_words (arguments_of r)) ++ close) (arguments_tokens r)
arguments_fewer (no_argument to) = closing to
arguments_fewer (argument e more) =
    first_item (expression_words (expr_of e)) (behind_commas (map expression_words (argument_tail_of more))) (expr_tokens e) (argument_tail_tokens more) (expression_fewer e) (argument_tail_fewer more)

kind_fewer : (at : ℕ) (k : Kind) → Fewer (word.Mark (kind_mark k) ∷ []) (type_tokens (typed at k))
kind_fewer at kind.Int = kept (marked at mark.Int) [] [] (λ b. refl) no_word
kind_fewer at kind.Text = kept (marked at mark.Text) [] [] (λ b. refl) no_word

type_fewer : (t : TypeReading) → Fewer (word.Mark (kind_mark (kind_of t)) ∷ []) (type_tokens t)
type_fewer (typed at k) = kind_fewer at k

item_of_type : (t : TypeReading) → Fewer (type_words (type_of t)) (type_tokens t)
item_of_type (typed at k) = kind_fewer at k

type_tail_fewer : (r : TypeTail) → Closed (behind_commas (map type_words (type_tail_of r)) ++ close) (type_tail_tokens r)
type_tail_fewer (last_type to) = closing to
type_tail_fewer (next_type at t more) =
    behind_comma at (type_words (type_of t)) (behind_commas (map type_words (type_tail_of more))) (type_tokens t) (type_tail_tokens more) (item_of_type t) (type_tail_fewer more)

types_fewer : (r : TypesReading) → Closed (between_commas (map type_words (types_of r)) ++ close) (types_tokens r)
types_fewer (no_type to) = closing to
types_fewer (type_ t more) =
    first_item (type_words (type_of t)) (behind_commas (map type_words (type_tail_of more))) (type_tokens t) (type_tail_tokens more) (item_of_type t) (type_tail_fewer more)

parameter_fewer : (p : ParameterReading) → Fewer (parameter_words (parameter_of p)) (parameter_tokens p)
parameter_fewer (parameter at x colon t) =
    kept (named at x) (word.Mark mark.Colon ∷ word.Mark (kind_mark (kind_of t)) ∷ []) (marked colon mark.Colon ∷ type_tokens t) (λ b. refl)
    (kept (marked colon mark.Colon) (word.Mark (kind_mark (kind_of t)) ∷ []) (type_tokens t) (λ b. refl) (type_fewer t))

parameter_tail_fewer : (r : ParameterTail) → Closed (behind_commas (map parameter_words (parameter_tail_of r)) ++ close) (parameter_tail_tokens r)
parameter_tail_fewer (last_parameter to) = closing to
parameter_tail_fewer (next_parameter at p more) =
    behind_comma at (parameter_words (parameter_of p)) (behind_commas (map parameter_words (parameter_tail_of more))) (parameter_tokens p) (parameter_tail_tokens more) (parameter_fewer p) (parameter_tail_fewer more)

parameters_fewer : (r : ParametersReading) → Closed (between_commas (map parameter_words (parameters_of r)) ++ close) (parameters_tokens r)
parameters_fewer (no_parameter to) = closing to
parameters_fewer (parameter_ p more) =
    first_item (parameter_words (parameter_of p)) (behind_commas (map parameter_words (parameter_tail_of more))) (parameter_tokens p) (parameter_tail_tokens more) (parameter_fewer p) (parameter_tail_fewer more)

---- Statements

abbrev end : List Word
end = word.Mark mark.Semicolon ∷ []

ending : (at : ℕ) → Fewer end (marked at mark.Semicolon ∷ [])
ending at = kept (marked at mark.Semicolon) [] [] (λ b. refl) no_word

-- an expression and the semicolon behind it
ended : (e : ExprReading) (to : ℕ) → Fewer (expression_words (expr_of e) ++ end) (expr_tokens e ++ (marked to mark.Semicolon ∷ []))
ended e to = together (expression_words (expr_of e)) end (expr_tokens e) (marked to mark.Semicolon ∷ []) (expression_fewer e) (ending to)

-- arguments with their parentheses, and what is behind them
list_then : (paren : ℕ) (es : ArgumentsReading) (ws : List Word) (ts : List Lexeme) → Fewer ws ts → Fewer (listed (map expression_words (arguments_of es)) ++ ws) (marked paren mark.Open ∷ (arguments_tokens es ++ ts))
list_then paren es ws ts f =
    together (listed (map expression_words (arguments_of es))) ws (marked paren mark.Open ∷ arguments_tokens es) ts (opened paren (between_commas (map expression_words (arguments_of es)) ++ close) (arguments_tokens es) (arguments_fewer es)) f

-- that a call is tried once is left out, also where it was written
retry_fewer : (once : Bool) (at tries_at : ℕ) (tries : ℤ) (every every_at : ℕ) (pause : ℤ) (more : ElseTail) (ws : List Word) → Fewer ws (else_tail_tokens more)
    → Fewer (retry_or_none once (retry_of (retry at tries_at tries every every_at pause more)) ++ ws) (call_tail_tokens (retry at tries_at tries every every_at pause more))
retry_fewer true at tries_at tries every every_at pause more ws f =
    let behind_every : List Lexeme = numbered every_at pause ∷ else_tail_tokens more in
    left_out (marked at mark.Retry) ws (numbered tries_at tries ∷ marked every mark.Every ∷ behind_every) (λ b. refl) (λ o. refl)
    (left_out (numbered tries_at tries) ws (marked every mark.Every ∷ behind_every) (λ b. refl) (λ o. refl)
    (left_out (marked every mark.Every) ws behind_every (λ b. refl) (λ o. refl) (left_out (numbered every_at pause) ws (else_tail_tokens more) (λ b. refl) (λ o. refl) f)))
retry_fewer false at tries_at tries every every_at pause more ws f =
    let words_behind_every : List Word = word.Int (pos (whole pause)) ∷ ws in
    let behind_every : List Lexeme = numbered every_at pause ∷ else_tail_tokens more in
    kept (marked at mark.Retry) (word.Int (pos (whole tries)) ∷ word.Mark mark.Every ∷ words_behind_every) (numbered tries_at tries ∷ marked every mark.Every ∷ behind_every) (λ b. refl)
    (number_kept tries_at tries (word.Mark mark.Every ∷ words_behind_every) (marked every mark.Every ∷ behind_every)
    (kept (marked every mark.Every) words_behind_every behind_every (λ b. refl) (number_kept every_at pause ws (else_tail_tokens more) f)))

-- a variable, and the signal that it waits for
signal_then : (at : ℕ) (x : tree.Bytes) (eq wait_at signal_at name_at : ℕ) (n : tree.Bytes) (ws : List Word) (ts : List Lexeme) → Fewer ws ts
    → Fewer (word.Name x ∷ word.Mark mark.Assign ∷ word.Mark mark.Wait ∷ word.Mark mark.Signal ∷ word.Name n ∷ ws) (named at x ∷ marked eq mark.Assign ∷ marked wait_at mark.Wait ∷ marked signal_at mark.Signal ∷ named name_at n ∷ ts)
signal_then at x eq wait_at signal_at name_at n ws ts f =
    kept (named at x) (word.Mark mark.Assign ∷ word.Mark mark.Wait ∷ word.Mark mark.Signal ∷ word.Name n ∷ ws) (marked eq mark.Assign ∷ marked wait_at mark.Wait ∷ marked signal_at mark.Signal ∷ named name_at n ∷ ts) (λ b. refl)
    (kept (marked eq mark.Assign) (word.Mark mark.Wait ∷ word.Mark mark.Signal ∷ word.Name n ∷ ws) (marked wait_at mark.Wait ∷ marked signal_at mark.Signal ∷ named name_at n ∷ ts) (λ b. refl)
    (kept (marked wait_at mark.Wait) (word.Mark mark.Signal ∷ word.Name n ∷ ws) (marked signal_at mark.Signal ∷ named name_at n ∷ ts) (λ b. refl)
    (kept (marked signal_at mark.Signal) (word.Name n ∷ ws) (named name_at n ∷ ts) (λ b. refl) (kept (named name_at n) ws ts (λ b. refl) f))))

abbrev brace : List Word
brace = word.Mark mark.BraceClose ∷ []

-- a list in braces that is kept, behind `else`
else_kept : (at brace_at : ℕ) (us : List Word) (xs : List Lexeme) → Shut (us ++ brace) xs → Fewer (word.Mark mark.Else ∷ in_braces us) (marked at mark.Else ∷ marked brace_at mark.BraceOpen ∷ xs)
else_kept at brace_at us xs f = kept (marked at mark.Else) (in_braces us) (marked brace_at mark.BraceOpen ∷ xs) (λ b. refl) (brace_opened brace_at (us ++ brace) xs f)

-- the same before a semicolon
else_ended : (at brace_at : ℕ) (us : List Word) (xs : List Lexeme) (to : ℕ) → Shut (us ++ brace) xs
    → Fewer (word.Mark mark.Else ∷ (in_braces us ++ end)) (marked at mark.Else ∷ marked brace_at mark.BraceOpen ∷ (xs ++ (marked to mark.Semicolon ∷ [])))
else_ended at brace_at us xs to f = together (word.Mark mark.Else ∷ in_braces us) end (marked at mark.Else ∷ marked brace_at mark.BraceOpen ∷ xs) (marked to mark.Semicolon ∷ []) (else_kept at brace_at us xs f) (ending to)

-- two lists in braces that are kept
both_kept : (first at second : ℕ) (us ws : List Word) (xs ys : List Lexeme) → Shut (us ++ brace) xs → Shut (ws ++ brace) ys
    → Fewer (in_braces us ++ (word.Mark mark.Else ∷ in_braces ws)) (marked first mark.BraceOpen ∷ (xs ++ (marked at mark.Else ∷ marked second mark.BraceOpen ∷ ys)))
both_kept first at second us ws xs ys f g =
    together (in_braces us) (word.Mark mark.Else ∷ in_braces ws) (marked first mark.BraceOpen ∷ xs) (marked at mark.Else ∷ marked second mark.BraceOpen ∷ ys) (brace_opened first (us ++ brace) xs f) (else_kept at second ws ys g)

-- two lists in braces: a second one with nothing in it is left out, also where it was written
both_fewer : (first at second : ℕ) (us : List Word) (xs : List Lexeme) (r : StatementsReading) → Shut (us ++ brace) xs → Shut (block_words (statements_of r) ++ brace) (statements_tokens r)
    → Fewer (in_braces us ++ else_words (statements_of r)) (marked first mark.BraceOpen ∷ (xs ++ (marked at mark.Else ∷ marked second mark.BraceOpen ∷ statements_tokens r)))
both_fewer first at second us xs (no_statement to) f g =
    subst (λ v. Fewer v (marked first mark.BraceOpen ∷ (xs ++ (marked at mark.Else ∷ marked second mark.BraceOpen ∷ marked to mark.BraceClose ∷ [])))) (sym (append-nil (in_braces us))) (else_dropped first at second to (us ++ brace) xs f)
both_fewer first at second us xs (statement s more) f g = both_kept first at second us (block_words (statements_of (statement s more))) xs (statements_tokens (statement s more)) f g
both_fewer first at second us xs (if_ if_at e brace_at ss more) f g =
    both_kept first at second us (block_words (statements_of (if_ if_at e brace_at ss more))) xs (statements_tokens (if_ if_at e brace_at ss more)) f g
both_fewer first at second us xs (patch patch_at id_at id is brace_at ss more) f g =
    both_kept first at second us (block_words (statements_of (patch patch_at id_at id is brace_at ss more))) xs (statements_tokens (patch patch_at id_at id is brace_at ss more)) f g

-- a statement, and those behind it
statement_then : (us ws : List Word) (xs ts : List Lexeme) → Fewer us xs → Shut (ws ++ brace) ts → Shut ((us ++ ws) ++ brace) (xs ++ ts)
statement_then us ws xs ts f g = subst (λ v. Shut v (xs ++ ts)) (sym (append_assoc us ws brace)) (together_shut us (ws ++ brace) xs ts f g)

-- a branch, and those behind it
branch_then : (at : ℕ) (us ws : List Word) (xs ts : List Lexeme) → Shut (us ++ brace) xs → Shut (ws ++ brace) ts → Shut ((in_braces us ++ ws) ++ brace) (marked at mark.BraceOpen ∷ (xs ++ ts))
branch_then at us ws xs ts f g = statement_then (in_braces us) ws (marked at mark.BraceOpen ∷ xs) ts (brace_opened at (us ++ brace) xs f) g

-- what stands before two lists in braces, these lists, and the statements behind them
choice_then : (us ws vs : List Word) (xs ys ts : List Lexeme) → Fewer us xs → Shut (ws ++ (vs ++ brace)) (ys ++ ts) → Shut (((us ++ ws) ++ vs) ++ brace) (xs ++ (ys ++ ts))
choice_then us ws vs xs ys ts f g =
    subst (λ v. Shut v (xs ++ (ys ++ ts))) (sym (append_assoc us ws (vs ++ brace)) ∙ sym (append_assoc (us ++ ws) vs brace)) (together_shut us (ws ++ (vs ++ brace)) xs (ys ++ ts) f g)

mutual
  else_tail_fewer : (m : ElseTail) → Fewer (otherwise_words (otherwise_of m) ++ end) (else_tail_tokens m)
  else_tail_fewer (no_else to) = ending to
  else_tail_fewer (else_ at brace_at ss to) = else_ended at brace_at (block_words (statements_of ss)) (statements_tokens ss) to (statements_fewer ss)

  call_tail_fewer : (m : CallTail) → Fewer (retry_words (retry_of m) ++ (otherwise_words (failing_of m) ++ end)) (call_tail_tokens m)
  call_tail_fewer (no_retry more) = else_tail_fewer more
  call_tail_fewer (retry at tries_at tries every every_at pause more) =
      retry_fewer (is_once (retry_of (retry at tries_at tries every every_at pause more))) at tries_at tries every every_at pause more (otherwise_words (otherwise_of more) ++ end) (else_tail_fewer more)

  wait_fewer : (at : ℕ) (x : tree.Bytes) (eq wait_at signal_at name_at : ℕ) (n : tree.Bytes) (m : WaitTail)
      → Fewer (statement_words (wait_of at x name_at n m)) (named at x ∷ marked eq mark.Assign ∷ marked wait_at mark.Wait ∷ marked signal_at mark.Signal ∷ named name_at n ∷ wait_tail_tokens m)
  wait_fewer at x eq wait_at signal_at name_at n (for_ever to) = signal_then at x eq wait_at signal_at name_at n end (marked to mark.Semicolon ∷ []) (ending to)
  wait_fewer at x eq wait_at signal_at name_at n (for_ for_at e else_at brace_at ss to) =
      let ws : List Word = word.Mark mark.Else ∷ (in_braces (block_words (statements_of ss)) ++ end) in
      let ts : List Lexeme = marked else_at mark.Else ∷ marked brace_at mark.BraceOpen ∷ (statements_tokens ss ++ (marked to mark.Semicolon ∷ [])) in
      let late : Fewer ws ts = else_ended else_at brace_at (block_words (statements_of ss)) (statements_tokens ss) to (statements_fewer ss) in
      signal_then at x eq wait_at signal_at name_at n (word.Mark mark.For ∷ (expression_words (expr_of e) ++ ws)) (marked for_at mark.For ∷ (expr_tokens e ++ ts))
      (kept (marked for_at mark.For) (expression_words (expr_of e) ++ ws) (expr_tokens e ++ ts) (λ b. refl) (together (expression_words (expr_of e)) ws (expr_tokens e) ts (expression_fewer e) late))

  side_fewer : (at : ℕ) (x : tree.Bytes) (eq : ℕ) (s : SideReading) → Fewer (statement_words (side_of at x s)) (named at x ∷ marked eq mark.Assign ∷ side_tokens s)
  side_fewer at x eq (value e to) =
      let ws : List Word = expression_words (expr_of e) ++ end in
      let ts : List Lexeme = expr_tokens e ++ (marked to mark.Semicolon ∷ []) in
      kept (named at x) (word.Mark mark.Assign ∷ ws) (marked eq mark.Assign ∷ ts) (λ b. refl) (kept (marked eq mark.Assign) ws ts (λ b. refl) (ended e to))
  side_fewer at x eq (call call_at name_at a paren es more) =
      let behind : List Word = retry_words (retry_of more) ++ (otherwise_words (failing_of more) ++ end) in
      let ws : List Word = listed (map expression_words (arguments_of es)) ++ behind in
      let ts : List Lexeme = marked paren mark.Open ∷ (arguments_tokens es ++ call_tail_tokens more) in
      let list : Fewer ws ts = list_then paren es behind (call_tail_tokens more) (call_tail_fewer more) in
      kept (named at x) (word.Mark mark.Assign ∷ word.Mark mark.Call ∷ word.Name a ∷ ws) (marked eq mark.Assign ∷ marked call_at mark.Call ∷ named name_at a ∷ ts) (λ b. refl)
      (kept (marked eq mark.Assign) (word.Mark mark.Call ∷ word.Name a ∷ ws) (marked call_at mark.Call ∷ named name_at a ∷ ts) (λ b. refl)
      (kept (marked call_at mark.Call) (word.Name a ∷ ws) (named name_at a ∷ ts) (λ b. refl) (kept (named name_at a) ws ts (λ b. refl) list)))
  side_fewer at x eq (wait wait_at signal_at name_at n more) = wait_fewer at x eq wait_at signal_at name_at n more

  branches_fewer : (m : BranchesReading) → Shut (branches_words (branches_of m) ++ brace) (branches_tokens m)
  branches_fewer (no_branch to) = brace_closing to
  branches_fewer (branch at ss more) = branch_then at (block_words (statements_of ss)) (branches_words (branches_of more)) (statements_tokens ss) (branches_tokens more) (statements_fewer ss) (branches_fewer more)

  statement_fewer : (s : StatementReading) → Fewer (statement_words (statement_of s)) (statement_tokens s)
  statement_fewer (let_ at name_at x eq e to) =
      let ws : List Word = expression_words (expr_of e) ++ end in
      let ts : List Lexeme = expr_tokens e ++ (marked to mark.Semicolon ∷ []) in
      kept (marked at mark.Let) (word.Name x ∷ word.Mark mark.Assign ∷ ws) (named name_at x ∷ marked eq mark.Assign ∷ ts) (λ b. refl)
      (kept (named name_at x) (word.Mark mark.Assign ∷ ws) (marked eq mark.Assign ∷ ts) (λ b. refl) (kept (marked eq mark.Assign) ws ts (λ b. refl) (ended e to)))
  statement_fewer (assign at x eq s) = side_fewer at x eq s
  statement_fewer (sleep at e to) = kept (marked at mark.Sleep) (expression_words (expr_of e) ++ end) (expr_tokens e ++ (marked to mark.Semicolon ∷ [])) (λ b. refl) (ended e to)
  statement_fewer (while_ at e brace_at ss) =
      let ws : List Word = in_braces (block_words (statements_of ss)) in
      let ts : List Lexeme = marked brace_at mark.BraceOpen ∷ statements_tokens ss in
      let list : Fewer ws ts = brace_opened brace_at (block_words (statements_of ss) ++ brace) (statements_tokens ss) (statements_fewer ss) in
      kept (marked at mark.While) (expression_words (expr_of e) ++ ws) (expr_tokens e ++ ts) (λ b. refl) (together (expression_words (expr_of e)) ws (expr_tokens e) ts (expression_fewer e) list)
  statement_fewer (parallel at brace_at first ss more) =
      let ws : List Word = (in_braces (block_words (statements_of ss)) ++ branches_words (branches_of more)) ++ brace in
      let ts : List Lexeme = branches_tokens (branch first ss more) in
      kept (marked at mark.Parallel) (word.Mark mark.BraceOpen ∷ ws) (marked brace_at mark.BraceOpen ∷ ts) (λ b. refl) (brace_opened brace_at ws ts
      (branch_then first (block_words (statements_of ss)) (branches_words (branches_of more)) (statements_tokens ss) (branches_tokens more) (statements_fewer ss) (branches_fewer more)))
  statement_fewer (return_ at e to) = kept (marked at mark.Return) (expression_words (expr_of e) ++ end) (expr_tokens e ++ (marked to mark.Semicolon ∷ [])) (λ b. refl) (ended e to)
  statement_fewer (fail at e to) = kept (marked at mark.Fail) (expression_words (expr_of e) ++ end) (expr_tokens e ++ (marked to mark.Semicolon ∷ [])) (λ b. refl) (ended e to)
  statement_fewer (continue_ at as_at new_at paren es to) =
      let ws : List Word = listed (map expression_words (arguments_of es)) ++ end in
      let ts : List Lexeme = marked paren mark.Open ∷ (arguments_tokens es ++ (marked to mark.Semicolon ∷ [])) in
      kept (marked at mark.Continue) (word.Mark mark.As ∷ word.Mark mark.New ∷ ws) (marked as_at mark.As ∷ marked new_at mark.New ∷ ts) (λ b. refl)
      (kept (marked as_at mark.As) (word.Mark mark.New ∷ ws) (marked new_at mark.New ∷ ts) (λ b. refl)
      (kept (marked new_at mark.New) ws ts (λ b. refl) (list_then paren es end (marked to mark.Semicolon ∷ []) (ending to))))
  statement_fewer (deprecate at id_at id is to) =
      kept (named at deprecate_name) (word.Text id ∷ end) (worded id_at id ∷ marked to mark.Semicolon ∷ []) (λ b. refl) (kept (worded id_at id) end (marked to mark.Semicolon ∷ []) (λ b. refl) (ending to))

  statements_fewer : (r : StatementsReading) → Shut (block_words (statements_of r) ++ brace) (statements_tokens r)
  statements_fewer (no_statement to) = brace_closing to
  statements_fewer (statement s more) = statement_then (statement_words (statement_of s)) (block_words (statements_of more)) (statement_tokens s) (statements_tokens more) (statement_fewer s) (statements_fewer more)
  statements_fewer (if_ at e brace_at ss more) =
      choice_then (word.Mark mark.If ∷ expression_words (expr_of e)) (in_braces (block_words (statements_of ss)) ++ else_words (second_of more)) (block_words (behind_choice more)) (marked at mark.If ∷ expr_tokens e) (marked brace_at mark.BraceOpen ∷ statements_tokens ss) (choice_tokens more)
      (kept (marked at mark.If) (expression_words (expr_of e)) (expr_tokens e) (λ b. refl) (expression_fewer e)) (choice_fewer brace_at (block_words (statements_of ss)) (statements_tokens ss) more (statements_fewer ss))
  statements_fewer (patch at id_at id is brace_at ss more) =
      choice_then (word.Mark mark.Patch ∷ word.Text id ∷ []) (in_braces (block_words (statements_of ss)) ++ else_words (second_of more)) (block_words (behind_choice more)) (marked at mark.Patch ∷ worded id_at id ∷ []) (marked brace_at mark.BraceOpen ∷ statements_tokens ss) (choice_tokens more)
      (kept (marked at mark.Patch) (word.Text id ∷ []) (worded id_at id ∷ []) (λ b. refl) (kept (worded id_at id) [] [] (λ b. refl) no_word)) (choice_fewer brace_at (block_words (statements_of ss)) (statements_tokens ss) more (statements_fewer ss))

  -- the first list of a choice, its second one, and the statements behind it
  choice_fewer : (first : ℕ) (us : List Word) (xs : List Lexeme) (more : AfterChoice) → Shut (us ++ brace) xs
      → Shut ((in_braces us ++ else_words (second_of more)) ++ (block_words (behind_choice more) ++ brace)) (marked first mark.BraceOpen ∷ (xs ++ choice_tokens more))
  choice_fewer first us xs (otherwise at brace_at ss more) f =
      let us_behind : List Word = block_words (statements_of more) ++ brace in
      let both : List Lexeme = marked at mark.Else ∷ marked brace_at mark.BraceOpen ∷ statements_tokens ss in
      subst (λ v. Shut ((in_braces us ++ else_words (statements_of ss)) ++ us_behind) (marked first mark.BraceOpen ∷ v)) (append_assoc xs both (statements_tokens more))
      (together_shut (in_braces us ++ else_words (statements_of ss)) us_behind (marked first mark.BraceOpen ∷ (xs ++ both)) (statements_tokens more) (both_fewer first at brace_at us xs ss f (statements_fewer ss)) (statements_fewer more))
  choice_fewer first us xs (without more) f =
      let us_behind : List Word = block_words (statements_of more) ++ brace in
      subst (λ v. Shut (v ++ us_behind) (marked first mark.BraceOpen ∷ (xs ++ statements_tokens more))) (sym (append-nil (in_braces us)))
      (together_shut (in_braces us) us_behind (marked first mark.BraceOpen ∷ xs) (statements_tokens more) (brace_opened first (us ++ brace) xs f) (statements_fewer more))

---- Programs

-- a type and the semicolon behind it
type_ended : (t : TypeReading) (to : ℕ) → Fewer (word.Mark (kind_mark (kind_of t)) ∷ end) (type_tokens t ++ (marked to mark.Semicolon ∷ []))
type_ended t to = together (word.Mark (kind_mark (kind_of t)) ∷ []) end (type_tokens t) (marked to mark.Semicolon ∷ []) (type_fewer t) (ending to)

declaration_fewer : (d : DeclarationReading) → Fewer (declared_words (declaration_of d)) (declaration_tokens d)
declaration_fewer (activity at name_at a paren us arrow t to) =
    let list : List Word = listed (map type_words (types_of us)) in
    let ws : List Word = word.Mark mark.Arrow ∷ word.Mark (kind_mark (kind_of t)) ∷ end in
    let ts : List Lexeme = marked arrow mark.Arrow ∷ (type_tokens t ++ (marked to mark.Semicolon ∷ [])) in
    let behind : Fewer ws ts = kept (marked arrow mark.Arrow) (word.Mark (kind_mark (kind_of t)) ∷ end) (type_tokens t ++ (marked to mark.Semicolon ∷ [])) (λ b. refl) (type_ended t to) in
    kept (marked at mark.Activity) (word.Name a ∷ (list ++ ws)) (named name_at a ∷ marked paren mark.Open ∷ (types_tokens us ++ ts)) (λ b. refl)
    (kept (named name_at a) (list ++ ws) (marked paren mark.Open ∷ (types_tokens us ++ ts)) (λ b. refl)
    (together list ws (marked paren mark.Open ∷ types_tokens us) ts (opened paren (between_commas (map type_words (types_of us)) ++ close) (types_tokens us) (types_fewer us)) behind))
declaration_fewer (signal at name_at n colon t to) =
    let ws : List Word = word.Mark (kind_mark (kind_of t)) ∷ end in
    let ts : List Lexeme = type_tokens t ++ (marked to mark.Semicolon ∷ []) in
    kept (marked at mark.Signal) (word.Name n ∷ word.Mark mark.Colon ∷ ws) (named name_at n ∷ marked colon mark.Colon ∷ ts) (λ b. refl)
    (kept (named name_at n) (word.Mark mark.Colon ∷ ws) (marked colon mark.Colon ∷ ts) (λ b. refl) (kept (marked colon mark.Colon) ws ts (λ b. refl) (type_ended t to)))

body_fewer : (r : BodyReading) → Shut ((declarations_words (declarations_of r) ++ block_words (statements_of (body_statements r))) ++ brace) (body_tokens r)
body_fewer (statements ss) = statements_fewer ss
body_fewer (declaration d more) =
    let ds : List Word = declarations_words (declarations_of more) in
    let ss : List Word = block_words (statements_of (body_statements more)) in
    subst (λ v. Shut v (declaration_tokens d ++ body_tokens more)) (sym (append_assoc (declared_words (declaration_of d)) (ds ++ ss) brace) ∙ ap (λ v. v ++ brace) (sym (append_assoc (declared_words (declaration_of d)) ds ss)))
    (together_shut (declared_words (declaration_of d)) ((ds ++ ss) ++ brace) (declaration_tokens d) (body_tokens more) (declaration_fewer d) (body_fewer more))

-- the words of a program, and the tokens that it was read from
pub program_fewer : (r : ProgramReading) → Fewer (program_words (program_of r)) (program_tokens r)
program_fewer (workflow at name_at x paren ps brace_at body) =
    let list : List Word = listed (map parameter_words (parameters_of ps)) in
    let inside : List Word = (declarations_words (declarations_of body) ++ block_words (statements_of (body_statements body))) ++ brace in
    let ts : List Lexeme = marked brace_at mark.BraceOpen ∷ body_tokens body in
    kept (marked at mark.Workflow) (word.Name x ∷ (list ++ (word.Mark mark.BraceOpen ∷ inside))) (named name_at x ∷ marked paren mark.Open ∷ (parameters_tokens ps ++ ts)) (λ b. refl)
    (kept (named name_at x) (list ++ (word.Mark mark.BraceOpen ∷ inside)) (marked paren mark.Open ∷ (parameters_tokens ps ++ ts)) (λ b. refl)
    (together list (word.Mark mark.BraceOpen ∷ inside) (marked paren mark.Open ∷ parameters_tokens ps) ts
    (opened paren (between_commas (map parameter_words (parameters_of ps)) ++ close) (parameters_tokens ps) (parameters_fewer ps))
    (brace_opened brace_at inside (body_tokens body) (body_fewer body))))
