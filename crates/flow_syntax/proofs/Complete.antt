-- The machine goes through whatever the grammar spells.
use Rattle.std.proofs.Common.{◌≡◌, ◌∙◌, List, [], ◌∷◌, ◌++◌, None, refl, ap, sym, append_assoc}
use Rattle.std.proofs.lemmas.List.{append-nil}
use Rattle.flow_base.specs.declared.token.Mark.TheVariants as mark
use Rattle.flow_base.specs.declared.value.Kind.TheVariants as kind
use Rattle.flow_model.specs.Lexeme.{Lexeme}
use Rattle.flow_model.specs.Grammar.{plus, minus, join, equal, differ, less, at_most, greater, at_least, ParensReading, parens, PrimReading, int, text, name, now, text_of, len_of, inner, UnaryReading, negate, prim, TermReading, term, TermTail, no_factor, factor, SumReading, sum, SumTail, no_term, added, CompareReading, compare, CompareTail, no_side, compared, NegReading, not, plain, ConjReading, conj, ConjTail, no_and, and, ExprReading, expr, ExprTail, no_or, or, ArgumentsReading, no_argument, argument, ArgumentTail, last_argument, next_argument, TypeReading, typed, TypesReading, no_type, type_, TypeTail, last_type, next_type, ParameterReading, parameter, ParametersReading, no_parameter, parameter_, ParameterTail, last_parameter, next_parameter, DeclarationReading, activity, signal, ElseTail, no_else, else_, CallTail, no_retry, retry, WaitTail, for_ever, for_, SideReading, value, call, wait, BranchesReading, no_branch, branch, StatementReading, let_, assign, sleep, while_, parallel, return_, fail, continue_, deprecate, StatementsReading, no_statement, statement, if_, patch, AfterChoice, otherwise, without, BodyReading, statements, declaration, ProgramReading, workflow}
use Rattle.flow_model.specs.Grammar.{marked, parens_tokens, prim_tokens, unary_tokens, term_tokens, term_tail_tokens, sum_tokens, sum_tail_tokens, compare_tokens, compare_tail_tokens, neg_tokens, conj_tokens, conj_tail_tokens, expr_tokens, expr_tail_tokens, argument_tail_tokens, arguments_tokens, type_tokens, type_tail_tokens, types_tokens, parameter_tokens, parameter_tail_tokens, parameters_tokens, declaration_tokens, else_tail_tokens, call_tail_tokens, wait_tail_tokens, side_tokens, branches_tokens, statement_tokens, statements_tokens, choice_tokens, body_tokens, program_tokens}
use Rattle.flow_syntax.specs.Machine.{Symbol, fault}
use Rattle.flow_syntax.specs.Machine as m
use Rattle.flow_syntax.specs.Parsing.{Past}
use Rattle.flow_syntax.proofs.Steps.{passes, term_is, sum_is, compare_is, conj_is, expr_is, factor_step, added_step, compared_step, patch_id_step, deprecate_step}

-- the tokens do not go on with an operator of the level, or of a tighter one
abbrev pub EndsTerm : List Lexeme → Type 0
EndsTerm ts = Past m.more_term ts

abbrev pub EndsSum : List Lexeme → Type 0
EndsSum ts = EndsTerm ts × Past m.more_sum ts

abbrev pub EndsCompare : List Lexeme → Type 0
EndsCompare ts = EndsSum ts × Past m.more_compare ts

abbrev pub EndsConj : List Lexeme → Type 0
EndsConj ts = EndsCompare ts × Past m.more_conj ts

abbrev pub Ends : List Lexeme → Type 0
Ends ts = EndsConj ts × Past m.more_expr ts

pub term_ends_before : (more : SumTail) (ts : List Lexeme) → EndsTerm ts → EndsTerm (sum_tail_tokens more ++ ts)
term_ends_before no_term ts h = h
term_ends_before (added plus at t more) ts h = refl
term_ends_before (added minus at t more) ts h = refl
term_ends_before (added join at t more) ts h = refl

pub sum_ends_before : (more : CompareTail) (ts : List Lexeme) → EndsSum ts → EndsSum (compare_tail_tokens more ++ ts)
sum_ends_before no_side ts h = h
sum_ends_before (compared equal at b) ts h = (refl, refl)
sum_ends_before (compared differ at b) ts h = (refl, refl)
sum_ends_before (compared less at b) ts h = (refl, refl)
sum_ends_before (compared at_most at b) ts h = (refl, refl)
sum_ends_before (compared greater at b) ts h = (refl, refl)
sum_ends_before (compared at_least at b) ts h = (refl, refl)

pub compare_ends_before : (more : ConjTail) (ts : List Lexeme) → EndsCompare ts → EndsCompare (conj_tail_tokens more ++ ts)
compare_ends_before no_and ts h = h
compare_ends_before (and at n more) ts h = ((refl, refl), refl)

pub conj_ends_before : (more : ExprTail) (ts : List Lexeme) → EndsConj ts → EndsConj (expr_tail_tokens more ++ ts)
conj_ends_before no_or ts h = h
conj_ends_before (or at c more) ts h = (((refl, refl), refl), refl)

pub ends_before_argument : (more : ArgumentTail) (ts : List Lexeme) → Ends (argument_tail_tokens more ++ ts)
ends_before_argument (last_argument to) ts = ((((refl, refl), refl), refl), refl)
ends_before_argument (next_argument at e more) ts = ((((refl, refl), refl), refl), refl)

-- what begins as the tighter level does

prim_begins : (p : PrimReading) (owed : List Symbol) (x : List Lexeme) → fault (m.unary ∷ owed) (prim_tokens p ++ x) ≡ fault (m.prim ∷ owed) (prim_tokens p ++ x)
prim_begins (int at n) owed x = refl
prim_begins (text at t) owed x = refl
prim_begins (name at n) owed x = refl
prim_begins (now at) owed x = refl
prim_begins (text_of at p) owed x = refl
prim_begins (len_of at p) owed x = refl
prim_begins (inner (parens at e to)) owed x = refl

compare_begins : (c : CompareReading) (owed : List Symbol) (x : List Lexeme) → fault (m.neg ∷ owed) (compare_tokens c ++ x) ≡ fault (m.compare ∷ owed) (compare_tokens c ++ x)
compare_begins (compare (sum (term (negate at u) f) g) h) owed x = refl
compare_begins (compare (sum (term (prim (int at n)) f) g) h) owed x = refl
compare_begins (compare (sum (term (prim (text at t)) f) g) h) owed x = refl
compare_begins (compare (sum (term (prim (name at n)) f) g) h) owed x = refl
compare_begins (compare (sum (term (prim (now at)) f) g) h) owed x = refl
compare_begins (compare (sum (term (prim (text_of at p)) f) g) h) owed x = refl
compare_begins (compare (sum (term (prim (len_of at p)) f) g) h) owed x = refl
compare_begins (compare (sum (term (prim (inner (parens at e to))) f) g) h) owed x = refl

argument_begins : (e : ExprReading) (owed : List Symbol) (x : List Lexeme) → fault (m.arguments ∷ owed) (expr_tokens e ++ x) ≡ fault (m.expr ∷ m.more_arguments ∷ owed) (expr_tokens e ++ x)
argument_begins (expr (conj (not at n) i) j) owed x = refl
argument_begins (expr (conj (plain (compare (sum (term (negate at u) f) g) h)) i) j) owed x = refl
argument_begins (expr (conj (plain (compare (sum (term (prim (int at n)) f) g) h)) i) j) owed x = refl
argument_begins (expr (conj (plain (compare (sum (term (prim (text at t)) f) g) h)) i) j) owed x = refl
argument_begins (expr (conj (plain (compare (sum (term (prim (name at n)) f) g) h)) i) j) owed x = refl
argument_begins (expr (conj (plain (compare (sum (term (prim (now at)) f) g) h)) i) j) owed x = refl
argument_begins (expr (conj (plain (compare (sum (term (prim (text_of at p)) f) g) h)) i) j) owed x = refl
argument_begins (expr (conj (plain (compare (sum (term (prim (len_of at p)) f) g) h)) i) j) owed x = refl
argument_begins (expr (conj (plain (compare (sum (term (prim (inner (parens at e to))) f) g) h)) i) j) owed x = refl

value_begins : (e : ExprReading) (owed : List Symbol) (x : List Lexeme) → fault (m.side ∷ owed) (expr_tokens e ++ x) ≡ fault (m.expr ∷ m.sign mark.Semicolon ∷ owed) (expr_tokens e ++ x)
value_begins (expr (conj (not at n) i) j) owed x = refl
value_begins (expr (conj (plain (compare (sum (term (negate at u) f) g) h)) i) j) owed x = refl
value_begins (expr (conj (plain (compare (sum (term (prim (int at n)) f) g) h)) i) j) owed x = refl
value_begins (expr (conj (plain (compare (sum (term (prim (text at t)) f) g) h)) i) j) owed x = refl
value_begins (expr (conj (plain (compare (sum (term (prim (name at n)) f) g) h)) i) j) owed x = refl
value_begins (expr (conj (plain (compare (sum (term (prim (now at)) f) g) h)) i) j) owed x = refl
value_begins (expr (conj (plain (compare (sum (term (prim (text_of at p)) f) g) h)) i) j) owed x = refl
value_begins (expr (conj (plain (compare (sum (term (prim (len_of at p)) f) g) h)) i) j) owed x = refl
value_begins (expr (conj (plain (compare (sum (term (prim (inner (parens at e to))) f) g) h)) i) j) owed x = refl

mutual
  pub through_parens : (p : ParensReading) (owed : List Symbol) (ts : List Lexeme) → fault (m.parens ∷ owed) (parens_tokens p ++ ts) ≡ fault owed ts
  through_parens (parens at e to) owed ts = rw append_assoc (through_expr e (m.sign mark.Close ∷ owed) (marked to mark.Close ∷ ts) ((((refl, refl), refl), refl), refl))

  pub through_prim : (p : PrimReading) (owed : List Symbol) (ts : List Lexeme) → fault (m.prim ∷ owed) (prim_tokens p ++ ts) ≡ fault owed ts
  through_prim (int at n) owed ts = refl
  through_prim (text at t) owed ts = refl
  through_prim (name at n) owed ts = refl
  through_prim (now at) owed ts = refl
  through_prim (text_of at p) owed ts = through_parens p owed ts
  through_prim (len_of at p) owed ts = through_parens p owed ts
  through_prim (inner (parens at e to)) owed ts = through_parens (parens at e to) owed ts

  pub through_unary : (u : UnaryReading) (owed : List Symbol) (ts : List Lexeme) → fault (m.unary ∷ owed) (unary_tokens u ++ ts) ≡ fault owed ts
  through_unary (negate at u) owed ts = through_unary u owed ts
  through_unary (prim p) owed ts = prim_begins p owed ts ∙ through_prim p owed ts

  pub through_term : (t : TermReading) (owed : List Symbol) (ts : List Lexeme) → EndsTerm ts → fault (m.term ∷ owed) (term_tokens t ++ ts) ≡ fault owed ts
  through_term (term u more) owed ts h = rw append_assoc (term_is owed (unary_tokens u ++ (term_tail_tokens more ++ ts)) ∙ through_unary u (m.more_term ∷ owed) (term_tail_tokens more ++ ts) ∙ through_term_tail more owed ts h)

  pub through_term_tail : (more : TermTail) (owed : List Symbol) (ts : List Lexeme) → EndsTerm ts → fault (m.more_term ∷ owed) (term_tail_tokens more ++ ts) ≡ fault owed ts
  through_term_tail no_factor owed ts h = passes m.more_term refl owed ts h
  through_term_tail (factor s at u more) owed ts h = rw append_assoc (factor_step s at owed (unary_tokens u ++ (term_tail_tokens more ++ ts)) ∙ through_unary u (m.more_term ∷ owed) (term_tail_tokens more ++ ts) ∙ through_term_tail more owed ts h)

  pub through_sum : (a : SumReading) (owed : List Symbol) (ts : List Lexeme) → EndsSum ts → fault (m.sum ∷ owed) (sum_tokens a ++ ts) ≡ fault owed ts
  through_sum (sum t more) owed ts h = rw append_assoc (sum_is owed (term_tokens t ++ (sum_tail_tokens more ++ ts)) ∙ through_term t (m.more_sum ∷ owed) (sum_tail_tokens more ++ ts) (term_ends_before more ts h.0) ∙ through_sum_tail more owed ts h)

  pub through_sum_tail : (more : SumTail) (owed : List Symbol) (ts : List Lexeme) → EndsSum ts → fault (m.more_sum ∷ owed) (sum_tail_tokens more ++ ts) ≡ fault owed ts
  through_sum_tail no_term owed ts h = passes m.more_sum refl owed ts h.1
  through_sum_tail (added s at t more) owed ts h = rw append_assoc (added_step s at owed (term_tokens t ++ (sum_tail_tokens more ++ ts)) ∙ through_term t (m.more_sum ∷ owed) (sum_tail_tokens more ++ ts) (term_ends_before more ts h.0) ∙ through_sum_tail more owed ts h)

  pub through_compare : (c : CompareReading) (owed : List Symbol) (ts : List Lexeme) → EndsCompare ts → fault (m.compare ∷ owed) (compare_tokens c ++ ts) ≡ fault owed ts
  through_compare (compare a more) owed ts h = rw append_assoc (compare_is owed (sum_tokens a ++ (compare_tail_tokens more ++ ts)) ∙ through_sum a (m.more_compare ∷ owed) (compare_tail_tokens more ++ ts) (sum_ends_before more ts h.0) ∙ through_compare_tail more owed ts h)

  pub through_compare_tail : (more : CompareTail) (owed : List Symbol) (ts : List Lexeme) → EndsCompare ts → fault (m.more_compare ∷ owed) (compare_tail_tokens more ++ ts) ≡ fault owed ts
  through_compare_tail no_side owed ts h = passes m.more_compare refl owed ts h.1
  through_compare_tail (compared s at b) owed ts h = compared_step s at owed (sum_tokens b ++ ts) ∙ through_sum b owed ts h.0

  pub through_neg : (n : NegReading) (owed : List Symbol) (ts : List Lexeme) → EndsCompare ts → fault (m.neg ∷ owed) (neg_tokens n ++ ts) ≡ fault owed ts
  through_neg (not at n) owed ts h = through_neg n owed ts h
  through_neg (plain c) owed ts h = compare_begins c owed ts ∙ through_compare c owed ts h

  pub through_conj : (c : ConjReading) (owed : List Symbol) (ts : List Lexeme) → EndsConj ts → fault (m.conj ∷ owed) (conj_tokens c ++ ts) ≡ fault owed ts
  through_conj (conj n more) owed ts h = rw append_assoc (conj_is owed (neg_tokens n ++ (conj_tail_tokens more ++ ts)) ∙ through_neg n (m.more_conj ∷ owed) (conj_tail_tokens more ++ ts) (compare_ends_before more ts h.0) ∙ through_conj_tail more owed ts h)

  pub through_conj_tail : (more : ConjTail) (owed : List Symbol) (ts : List Lexeme) → EndsConj ts → fault (m.more_conj ∷ owed) (conj_tail_tokens more ++ ts) ≡ fault owed ts
  through_conj_tail no_and owed ts h = passes m.more_conj refl owed ts h.1
  through_conj_tail (and at n more) owed ts h = rw append_assoc (through_neg n (m.more_conj ∷ owed) (conj_tail_tokens more ++ ts) (compare_ends_before more ts h.0) ∙ through_conj_tail more owed ts h)

  pub through_expr : (e : ExprReading) (owed : List Symbol) (ts : List Lexeme) → Ends ts → fault (m.expr ∷ owed) (expr_tokens e ++ ts) ≡ fault owed ts
  through_expr (expr c more) owed ts h = rw append_assoc (expr_is owed (conj_tokens c ++ (expr_tail_tokens more ++ ts)) ∙ through_conj c (m.more_expr ∷ owed) (expr_tail_tokens more ++ ts) (conj_ends_before more ts h.0) ∙ through_expr_tail more owed ts h)

  pub through_expr_tail : (more : ExprTail) (owed : List Symbol) (ts : List Lexeme) → Ends ts → fault (m.more_expr ∷ owed) (expr_tail_tokens more ++ ts) ≡ fault owed ts
  through_expr_tail no_or owed ts h = passes m.more_expr refl owed ts h.1
  through_expr_tail (or at c more) owed ts h = rw append_assoc (through_conj c (m.more_expr ∷ owed) (expr_tail_tokens more ++ ts) (conj_ends_before more ts h.0) ∙ through_expr_tail more owed ts h)

pub through_argument_tail : (more : ArgumentTail) (owed : List Symbol) (ts : List Lexeme) → fault (m.more_arguments ∷ owed) (argument_tail_tokens more ++ ts) ≡ fault owed ts
through_argument_tail (last_argument to) owed ts = refl
through_argument_tail (next_argument at e more) owed ts = rw append_assoc (through_expr e (m.more_arguments ∷ owed) (argument_tail_tokens more ++ ts) (ends_before_argument more ts) ∙ through_argument_tail more owed ts)

pub through_arguments : (r : ArgumentsReading) (owed : List Symbol) (ts : List Lexeme) → fault (m.arguments ∷ owed) (arguments_tokens r ++ ts) ≡ fault owed ts
through_arguments (no_argument to) owed ts = refl
through_arguments (argument e more) owed ts = rw append_assoc (argument_begins e owed (argument_tail_tokens more ++ ts) ∙ through_expr e (m.more_arguments ∷ owed) (argument_tail_tokens more ++ ts) (ends_before_argument more ts) ∙ through_argument_tail more owed ts)

pub through_type : (r : TypeReading) (owed : List Symbol) (ts : List Lexeme) → fault (m.type_ ∷ owed) (type_tokens r ++ ts) ≡ fault owed ts
through_type (typed at kind.Int) owed ts = refl
through_type (typed at kind.Text) owed ts = refl

pub through_type_tail : (more : TypeTail) (owed : List Symbol) (ts : List Lexeme) → fault (m.more_types ∷ owed) (type_tail_tokens more ++ ts) ≡ fault owed ts
through_type_tail (last_type to) owed ts = refl
through_type_tail (next_type at t more) owed ts = rw append_assoc (through_type t (m.more_types ∷ owed) (type_tail_tokens more ++ ts) ∙ through_type_tail more owed ts)

pub through_types : (r : TypesReading) (owed : List Symbol) (ts : List Lexeme) → fault (m.types ∷ owed) (types_tokens r ++ ts) ≡ fault owed ts
through_types (no_type to) owed ts = refl
through_types (type_ (typed at kind.Int) more) owed ts = through_type_tail more owed ts
through_types (type_ (typed at kind.Text) more) owed ts = through_type_tail more owed ts

pub through_parameter : (r : ParameterReading) (owed : List Symbol) (ts : List Lexeme) → fault (m.parameter ∷ owed) (parameter_tokens r ++ ts) ≡ fault owed ts
through_parameter (parameter at x colon t) owed ts = through_type t owed ts

pub through_parameter_tail : (more : ParameterTail) (owed : List Symbol) (ts : List Lexeme) → fault (m.more_parameters ∷ owed) (parameter_tail_tokens more ++ ts) ≡ fault owed ts
through_parameter_tail (last_parameter to) owed ts = refl
through_parameter_tail (next_parameter at p more) owed ts = rw append_assoc (through_parameter p (m.more_parameters ∷ owed) (parameter_tail_tokens more ++ ts) ∙ through_parameter_tail more owed ts)

pub through_parameters : (r : ParametersReading) (owed : List Symbol) (ts : List Lexeme) → fault (m.parameters ∷ owed) (parameters_tokens r ++ ts) ≡ fault owed ts
through_parameters (no_parameter to) owed ts = refl
through_parameters (parameter_ (parameter at x colon (typed a kind.Int)) more) owed ts = through_parameter_tail more owed ts
through_parameters (parameter_ (parameter at x colon (typed a kind.Text)) more) owed ts = through_parameter_tail more owed ts

pub through_declaration : (d : DeclarationReading) (owed : List Symbol) (ts : List Lexeme) → fault (m.declaration ∷ owed) (declaration_tokens d ++ ts) ≡ fault owed ts
through_declaration (activity at name_at x paren us arrow t end) owed ts =
    simp append_assoc (through_types us (m.sign mark.Arrow ∷ m.type_ ∷ m.sign mark.Semicolon ∷ owed) (marked arrow mark.Arrow ∷ (type_tokens t ++ (marked end mark.Semicolon ∷ ts)))
    ∙ through_type t (m.sign mark.Semicolon ∷ owed) (marked end mark.Semicolon ∷ ts))
through_declaration (signal at name_at x colon t end) owed ts = rw append_assoc (through_type t (m.sign mark.Semicolon ∷ owed) (marked end mark.Semicolon ∷ ts))

else_begins : (r : ElseTail) (owed : List Symbol) (x : List Lexeme) → fault (m.call_tail ∷ owed) (else_tail_tokens r ++ x) ≡ fault (m.else_tail ∷ owed) (else_tail_tokens r ++ x)
else_begins (no_else end) owed x = refl
else_begins (else_ at brace ss end) owed x = refl

statement_begins : (s : StatementReading) (owed : List Symbol) (x : List Lexeme) → fault (m.statements ∷ owed) (statement_tokens s ++ x) ≡ fault (m.statement ∷ m.statements ∷ owed) (statement_tokens s ++ x)
statement_begins (let_ at name_at n eq e end) owed x = refl
statement_begins (assign at n eq s) owed x = refl
statement_begins (sleep at e end) owed x = refl
statement_begins (while_ at e brace ss) owed x = refl
statement_begins (parallel at brace first ss more) owed x = refl
statement_begins (return_ at e end) owed x = refl
statement_begins (fail at e end) owed x = refl
statement_begins (continue_ at as_at new_at paren es end) owed x = refl
statement_begins (deprecate at id_at id is end) owed x = refl

statements_begin : (ss : StatementsReading) (owed : List Symbol) (x : List Lexeme) → fault (m.body ∷ owed) (statements_tokens ss ++ x) ≡ fault (m.statements ∷ owed) (statements_tokens ss ++ x)
statements_begin (no_statement to) owed x = refl
statements_begin (statement (let_ at name_at n eq e end) more) owed x = refl
statements_begin (statement (assign at n eq s) more) owed x = refl
statements_begin (statement (sleep at e end) more) owed x = refl
statements_begin (statement (while_ at e brace ss) more) owed x = refl
statements_begin (statement (parallel at brace first ss others) more) owed x = refl
statements_begin (statement (return_ at e end) more) owed x = refl
statements_begin (statement (fail at e end) more) owed x = refl
statements_begin (statement (continue_ at as_at new_at paren es end) more) owed x = refl
statements_begin (statement (deprecate at id_at id is end) more) owed x = refl
statements_begin (if_ at e brace ss more) owed x = refl
statements_begin (patch at id_at id is brace ss more) owed x = refl

statements_follow : (ss : StatementsReading) (owed : List Symbol) (x : List Lexeme) → fault (m.after_choice ∷ owed) (statements_tokens ss ++ x) ≡ fault (m.statements ∷ owed) (statements_tokens ss ++ x)
statements_follow (no_statement to) owed x = refl
statements_follow (statement (let_ at name_at n eq e end) more) owed x = refl
statements_follow (statement (assign at n eq s) more) owed x = refl
statements_follow (statement (sleep at e end) more) owed x = refl
statements_follow (statement (while_ at e brace ss) more) owed x = refl
statements_follow (statement (parallel at brace first ss others) more) owed x = refl
statements_follow (statement (return_ at e end) more) owed x = refl
statements_follow (statement (fail at e end) more) owed x = refl
statements_follow (statement (continue_ at as_at new_at paren es end) more) owed x = refl
statements_follow (statement (deprecate at id_at id is end) more) owed x = refl
statements_follow (if_ at e brace ss more) owed x = refl
statements_follow (patch at id_at id is brace ss more) owed x = refl

mutual
  pub through_else_tail : (r : ElseTail) (owed : List Symbol) (ts : List Lexeme) → fault (m.else_tail ∷ owed) (else_tail_tokens r ++ ts) ≡ fault owed ts
  through_else_tail (no_else end) owed ts = refl
  through_else_tail (else_ at brace ss end) owed ts = rw append_assoc (through_statements ss (m.sign mark.Semicolon ∷ owed) (marked end mark.Semicolon ∷ ts))

  pub through_call_tail : (r : CallTail) (owed : List Symbol) (ts : List Lexeme) → fault (m.call_tail ∷ owed) (call_tail_tokens r ++ ts) ≡ fault owed ts
  through_call_tail (no_retry more) owed ts = else_begins more owed ts ∙ through_else_tail more owed ts
  through_call_tail (retry at tries_at tries every every_at pause more) owed ts = through_else_tail more owed ts

  pub through_wait_tail : (r : WaitTail) (owed : List Symbol) (ts : List Lexeme) → fault (m.wait_tail ∷ owed) (wait_tail_tokens r ++ ts) ≡ fault owed ts
  through_wait_tail (for_ever end) owed ts = refl
  through_wait_tail (for_ at e else_at brace ss end) owed ts =
      simp append_assoc (through_expr e (m.sign mark.Else ∷ m.sign mark.BraceOpen ∷ m.statements ∷ m.sign mark.Semicolon ∷ owed) (marked else_at mark.Else ∷ marked brace mark.BraceOpen ∷ (statements_tokens ss ++ (marked end mark.Semicolon ∷ ts))) ((((refl, refl), refl), refl), refl)
      ∙ through_statements ss (m.sign mark.Semicolon ∷ owed) (marked end mark.Semicolon ∷ ts))

  pub through_side : (s : SideReading) (owed : List Symbol) (ts : List Lexeme) → fault (m.side ∷ owed) (side_tokens s ++ ts) ≡ fault owed ts
  through_side (value e end) owed ts = rw append_assoc (value_begins e owed (marked end mark.Semicolon ∷ ts) ∙ through_expr e (m.sign mark.Semicolon ∷ owed) (marked end mark.Semicolon ∷ ts) ((((refl, refl), refl), refl), refl))
  through_side (call at name_at a paren es more) owed ts = rw append_assoc (through_arguments es (m.call_tail ∷ owed) (call_tail_tokens more ++ ts) ∙ through_call_tail more owed ts)
  through_side (wait at signal_at name_at n more) owed ts = through_wait_tail more owed ts

  pub through_branches : (r : BranchesReading) (owed : List Symbol) (ts : List Lexeme) → fault (m.more_branches ∷ owed) (branches_tokens r ++ ts) ≡ fault owed ts
  through_branches (no_branch to) owed ts = refl
  through_branches (branch at ss more) owed ts = rw append_assoc (through_statements ss (m.more_branches ∷ owed) (branches_tokens more ++ ts) ∙ through_branches more owed ts)

  pub through_statement : (s : StatementReading) (owed : List Symbol) (ts : List Lexeme) → fault (m.statement ∷ owed) (statement_tokens s ++ ts) ≡ fault owed ts
  through_statement (let_ at name_at x eq e end) owed ts = rw append_assoc (through_expr e (m.sign mark.Semicolon ∷ owed) (marked end mark.Semicolon ∷ ts) ((((refl, refl), refl), refl), refl))
  through_statement (assign at x eq s) owed ts = through_side s owed ts
  through_statement (sleep at e end) owed ts = rw append_assoc (through_expr e (m.sign mark.Semicolon ∷ owed) (marked end mark.Semicolon ∷ ts) ((((refl, refl), refl), refl), refl))
  through_statement (while_ at e brace ss) owed ts = rw append_assoc (through_expr e (m.sign mark.BraceOpen ∷ m.statements ∷ owed) (marked brace mark.BraceOpen ∷ (statements_tokens ss ++ ts)) ((((refl, refl), refl), refl), refl) ∙ through_statements ss owed ts)
  through_statement (parallel at brace first ss more) owed ts = rw append_assoc (through_statements ss (m.more_branches ∷ owed) (branches_tokens more ++ ts) ∙ through_branches more owed ts)
  through_statement (return_ at e end) owed ts = rw append_assoc (through_expr e (m.sign mark.Semicolon ∷ owed) (marked end mark.Semicolon ∷ ts) ((((refl, refl), refl), refl), refl))
  through_statement (fail at e end) owed ts = rw append_assoc (through_expr e (m.sign mark.Semicolon ∷ owed) (marked end mark.Semicolon ∷ ts) ((((refl, refl), refl), refl), refl))
  through_statement (continue_ at as_at new_at paren es end) owed ts = rw append_assoc (through_arguments es (m.sign mark.Semicolon ∷ owed) (marked end mark.Semicolon ∷ ts))
  through_statement (deprecate at id_at id is end) owed ts = deprecate_step id_at id owed (marked end mark.Semicolon ∷ ts) is

  pub through_statements : (ss : StatementsReading) (owed : List Symbol) (ts : List Lexeme) → fault (m.statements ∷ owed) (statements_tokens ss ++ ts) ≡ fault owed ts
  through_statements (no_statement to) owed ts = refl
  through_statements (statement s more) owed ts = rw append_assoc (statement_begins s owed (statements_tokens more ++ ts) ∙ through_statement s (m.statements ∷ owed) (statements_tokens more ++ ts) ∙ through_statements more owed ts)
  through_statements (if_ at e brace ss more) owed ts =
      simp append_assoc (through_expr e (m.sign mark.BraceOpen ∷ m.statements ∷ m.after_choice ∷ owed) (marked brace mark.BraceOpen ∷ (statements_tokens ss ++ (choice_tokens more ++ ts))) ((((refl, refl), refl), refl), refl)
      ∙ through_statements ss (m.after_choice ∷ owed) (choice_tokens more ++ ts) ∙ through_choice more owed ts)
  through_statements (patch at id_at id is brace ss more) owed ts =
      rw append_assoc (patch_id_step id_at id (m.sign mark.BraceOpen ∷ m.statements ∷ m.after_choice ∷ owed) (marked brace mark.BraceOpen ∷ (statements_tokens ss ++ (choice_tokens more ++ ts))) is
      ∙ through_statements ss (m.after_choice ∷ owed) (choice_tokens more ++ ts) ∙ through_choice more owed ts)

  pub through_choice : (r : AfterChoice) (owed : List Symbol) (ts : List Lexeme) → fault (m.after_choice ∷ owed) (choice_tokens r ++ ts) ≡ fault owed ts
  through_choice (otherwise at brace ss more) owed ts = rw append_assoc (through_statements ss (m.statements ∷ owed) (statements_tokens more ++ ts) ∙ through_statements more owed ts)
  through_choice (without more) owed ts = statements_follow more owed ts ∙ through_statements more owed ts

declaration_begins : (d : DeclarationReading) (owed : List Symbol) (x : List Lexeme) → fault (m.body ∷ owed) (declaration_tokens d ++ x) ≡ fault (m.declaration ∷ m.body ∷ owed) (declaration_tokens d ++ x)
declaration_begins (activity at name_at n paren us arrow t end) owed x = refl
declaration_begins (signal at name_at n colon t end) owed x = refl

pub through_body : (b : BodyReading) (owed : List Symbol) (ts : List Lexeme) → fault (m.body ∷ owed) (body_tokens b ++ ts) ≡ fault owed ts
through_body (statements ss) owed ts = statements_begin ss owed ts ∙ through_statements ss owed ts
through_body (declaration d more) owed ts = rw append_assoc (declaration_begins d owed (body_tokens more ++ ts) ∙ through_declaration d (m.body ∷ owed) (body_tokens more ++ ts) ∙ through_body more owed ts)

pub through_program : (r : ProgramReading) → fault (m.program ∷ []) (program_tokens r) ≡ None
through_program (workflow at name_at x paren ps brace body) =
    through_parameters ps (m.sign mark.BraceOpen ∷ m.body ∷ []) (marked brace mark.BraceOpen ∷ body_tokens body)
    ∙ ap (fault (m.body ∷ [])) (sym (append-nil (body_tokens body))) ∙ through_body body [] []
