-- The same for statements, declarations and programs.
use Rattle.std.proofs.Common.{◌≡◌, ◌∙◌, ℕ, ℤ, suc, Bool, true, false, cond, Option, List, [], ◌∷◌, ◌++◌, Some, None, length, refl, ap, sym, subst, append_assoc, arith, eq-eqb}
use Rattle.std.specs.Prelude.{◌&&◌}
use Rattle.std.specs.Cmp.Lexicographic.{bytes_decides}
use Rattle.std.proofs.lemmas.Bool.{and_parts}
use Rattle.std.proofs.lemmas.List.{append-nil}
use Rattle.flow_base.specs.Syntax as tree
use Rattle.flow_base.specs.Syntax.{Bytes, once, block_of}
use Rattle.flow_base.specs.Shown.{Braced}
use Rattle.flow_base.specs.Shown.{branches_of as shown_branches}
use Rattle.flow_base.specs.declared.token.Word.{Word}
use Rattle.flow_base.specs.declared.token.Word.TheVariants as word
use Rattle.flow_base.specs.declared.token.Mark.{Mark}
use Rattle.flow_base.specs.declared.token.Mark.TheVariants as mark
use Rattle.flow_base.specs.declared.value.Kind.TheVariants as kind
use Rattle.flow_base.specs.declared.syntax.Retry.{Retry}
use Rattle.flow_base.specs.declared.syntax.Parameter.{Parameter}
use Rattle.flow_base.specs.declared.syntax.TypeAt.{TypeAt}
use Rattle.flow_model.specs.Lexeme.{Lexeme}
use Rattle.flow_model.specs.Grammar.{TypeReading, typed, no_type, type_, last_type, next_type, parameter, ParametersReading, no_parameter, parameter_, last_parameter, next_parameter, activity, signal, no_else, else_, no_retry, retry, for_ever, for_, value, call, wait, no_branch, branch, let_, assign, sleep, while_, parallel, return_, fail, continue_, deprecate, no_statement, statement, if_, patch, otherwise, without, BodyReading, statements, declaration, workflow}
use Rattle.flow_model.specs.Grammar.{marked, named, numbered, worded, whole, deprecate_name, expr_tokens, arguments_tokens, type_tokens, type_tail_tokens, types_tokens, parameter_tokens, parameter_tail_tokens, parameters_tokens, declaration_tokens, else_tail_tokens, call_tail_tokens, wait_tail_tokens, side_tokens, branches_tokens, statement_tokens, statements_tokens, choice_tokens, body_tokens, arguments_of, type_of, kind_of, type_tail_of, types_of, parameter_of, parameter_tail_of, parameter_tail_end, declaration_of, otherwise_of, retry_of, failing_of, wait_of, side_of, branches_of, branches_end, statement_of, statements_of, statements_end, second_of, second_end, behind_choice, choice_end, body_statements, declarations_of, program_of, Reads}
use Rattle.flow_syntax.specs.declared.fault.Stop.{Stop}
use Rattle.flow_syntax.specs.declared.fault.Stop.TheVariants.{NoMemory, Unexpected}
use Rattle.flow_syntax.specs.Machine.{Symbol, takes, then_more, mark_number, is_mark, fault, fault_by, step}
use Rattle.flow_syntax.specs.Machine as m
use Rattle.flow_syntax.specs.Parsing.{Parsed, SoFar, StopsAt, StopsProgram, IsNoMark, LacksMark, Lacks, IsNumber, IsPatchId, in_braces, IsBlock, IsTried, IsCalled, IsTarget, IsText, is_text, is_deprecate, BeginsText, begins_deprecate, IsDeprecate, IsChoice, IsMember, both_of, end_of, shut_of, whole_body_of}
use Rattle.flow_syntax.proofs.Steps.{Same, Alike, is_then, is_alike, types_same, parameters_same, side_same, body_alike, else_tail_is, call_tail_is, wait_tail_is, statements_is, after_choice_is, patch_id_step, deprecate_is, assign_is}
use Rattle.flow_syntax.proofs.Parsed.{so_begins, so_more, so_next}
use Rattle.flow_syntax.proofs.ParsedExpressions.{Marked, IsExpr, first_is}

pub number_read : (t : Lexeme) (n : ℤ) (count : ℕ) (ts rest : List Lexeme) → ts ≡ t ∷ rest → t.word ≡ word.Int n → count ≡ whole n → IsNumber ts t.at count rest
number_read t n count ts rest h k e = (n, sym (first_is t (word.Int n) ts rest h k), sym e)

abbrev pub IsType : List Lexeme → TypeAt → List Lexeme → Type 0
IsType ts t rest = Parsed m.type_ type_tokens type_of ts t rest

pub int_read : (at : ℕ) (found : Mark) (ts rest : List Lexeme) → ts ≡ marked at found ∷ rest → found ≡ mark.Int → (let t : TypeAt = record { at = at; kind = kind.Int } in IsType ts t rest)
int_read at found ts rest h k = (typed at kind.Int, ap (λ j. marked at j ∷ rest) (sym k) ∙ sym h, refl, λ owed. rw (h, k) refl)

pub text_read : (at : ℕ) (found : Mark) (ts rest : List Lexeme) → ts ≡ marked at found ∷ rest → found ≡ mark.Text → (let t : TypeAt = record { at = at; kind = kind.Text } in IsType ts t rest)
text_read at found ts rest h k = (typed at kind.Text, ap (λ j. marked at j ∷ rest) (sym k) ∙ sym h, refl, λ owed. rw (h, k) refl)

-- types

abbrev pub TypesSoFar : List Lexeme → List TypeAt → List Lexeme → Type 0
TypesSoFar ts xs rest = SoFar types_tokens type_tail_tokens types_of (λ more. xs ++ type_tail_of more) ts rest

pub types_is : (owed : List Symbol) (ts : List Lexeme) → Lacks mark.Close ts → fault (m.types ∷ owed) ts ≡ fault (m.type_ ∷ m.more_types ∷ owed) ts
types_is owed ts h = is_then m.type_ m.types (m.more_types ∷ []) refl refl owed ts (types_same ts h)

pub types_begin : (ts rest : List Lexeme) (x : TypeAt) → IsType ts x rest → TypesSoFar ts (x ∷ []) rest
types_begin ts rest x p = so_begins m.type_ type_tokens type_of types_tokens type_tail_tokens types_of (λ y more. y ∷ type_tail_of more) type_ (λ p more. refl) (λ p more. refl) ts rest x p

pub types_more : (ts rest after next : List Lexeme) (at : ℕ) (xs : List TypeAt) (y : TypeAt) → TypesSoFar ts xs rest → rest ≡ marked at mark.Comma ∷ after → IsType after y next → TypesSoFar ts (xs ++ (y ∷ [])) next
types_more ts rest after next at xs y so h p = so_more m.type_ type_tokens type_of types_tokens type_tail_tokens types_of (λ zs more. zs ++ type_tail_of more) (λ zs v. zs ++ (v ∷ [])) (marked at mark.Comma) (next_type at) (λ q more. refl) xs (λ q more. sym (append_assoc xs (type_of q ∷ []) (type_tail_of more))) ts rest after next y so h p

pub no_types : (at : ℕ) (ts end : List Lexeme) → ts ≡ marked at mark.Close ∷ end → Parsed m.types types_tokens types_of ts [] end
no_types at ts end h = (no_type at, sym h, refl, λ owed. rw h refl)

pub types_end : (at : ℕ) (ts rest end : List Lexeme) (xs : List TypeAt) → TypesSoFar ts xs rest → ((owed : List Symbol) → fault (m.types ∷ owed) ts ≡ fault (m.more_types ∷ owed) rest) → rest ≡ marked at mark.Close ∷ end → Parsed m.types types_tokens types_of ts xs end
types_end at ts rest end xs so f h = let r = so (last_type at) end (sym h) in (r.0, r.1, r.2 ∙ append-nil xs, λ owed. f owed ∙ ap (fault (m.more_types ∷ owed)) h)

-- parameters

kinds : (at : ℕ) (x : Bytes) (r : TypeReading) (t : TypeAt) → type_of r ≡ t → (let p : Parameter = record { at = at; name = x; kind = kind_of r } in let q : Parameter = record { at = at; name = x; kind = t.kind } in p ≡ q)
kinds at x (typed a k) t h = ap (λ (v : TypeAt). let p : Parameter = record { at = at; name = x; kind = v.kind } in p) h

pub parameter_parsed : (at colon : ℕ) (x : Bytes) (ts r1 r2 end : List Lexeme) (t : TypeAt) → ts ≡ named at x ∷ r1 → Marked mark.Colon r1 colon r2 → IsType r2 t end → Parsed m.parameter parameter_tokens parameter_of ts (record { at = at; name = x; kind = t.kind }) end
parameter_parsed at colon x ts r1 r2 end t h p q = (
  parameter at x p.0 q.0,
  ap (λ y. named at x ∷ marked p.0 mark.Colon ∷ y) q.1 ∙ ap (λ y. named at x ∷ y) p.1 ∙ sym h,
  kinds at x q.0 t q.2,
  λ owed. rw h (p.3 (m.type_ ∷ owed) ∙ q.3 owed),
)

abbrev pub ParametersSoFar : List Lexeme → List Parameter → List Lexeme → Type 0
ParametersSoFar ts xs rest = SoFar parameters_tokens parameter_tail_tokens both_of (λ more. (xs ++ parameter_tail_of more, parameter_tail_end more)) ts rest

pub parameters_is : (owed : List Symbol) (ts : List Lexeme) → Lacks mark.Close ts → fault (m.parameters ∷ owed) ts ≡ fault (m.parameter ∷ m.more_parameters ∷ owed) ts
parameters_is owed ts h = is_then m.parameter m.parameters (m.more_parameters ∷ []) refl refl owed ts (parameters_same ts h)

abbrev pub IsParameter : List Lexeme → Parameter → List Lexeme → Type 0
IsParameter ts x rest = Parsed m.parameter parameter_tokens parameter_of ts x rest

pub parameters_begin : (ts rest : List Lexeme) (x : Parameter) → IsParameter ts x rest → ParametersSoFar ts (x ∷ []) rest
parameters_begin ts rest x p = so_begins m.parameter parameter_tokens parameter_of parameters_tokens parameter_tail_tokens both_of (λ y more. (y ∷ parameter_tail_of more, parameter_tail_end more)) parameter_ (λ p more. refl) (λ p more. refl) ts rest x p

pub parameters_more : (ts rest after next : List Lexeme) (at : ℕ) (xs : List Parameter) (y : Parameter) → ParametersSoFar ts xs rest → rest ≡ marked at mark.Comma ∷ after → IsParameter after y next → ParametersSoFar ts (xs ++ (y ∷ [])) next
parameters_more ts rest after next at xs y so h p = so_more m.parameter parameter_tokens parameter_of parameters_tokens parameter_tail_tokens both_of (λ zs more. (zs ++ parameter_tail_of more, parameter_tail_end more)) (λ zs v. zs ++ (v ∷ [])) (marked at mark.Comma) (next_parameter at) (λ q more. refl) xs (λ q more. ap (λ zs. (zs, parameter_tail_end more)) (sym (append_assoc xs (parameter_of q ∷ []) (parameter_tail_of more)))) ts rest after next y so h p

pub no_parameters : (at : ℕ) (ts end : List Lexeme) → ts ≡ marked at mark.Close ∷ end → Parsed m.parameters parameters_tokens both_of ts ([], at) end
no_parameters at ts end h = (no_parameter at, sym h, refl, λ owed. rw h refl)

pub parameters_close : (at : ℕ) (ts rest end : List Lexeme) (xs : List Parameter) → ParametersSoFar ts xs rest → ((owed : List Symbol) → fault (m.parameters ∷ owed) ts ≡ fault (m.more_parameters ∷ owed) rest) → rest ≡ marked at mark.Close ∷ end → Parsed m.parameters parameters_tokens both_of ts (xs, at) end
parameters_close at ts rest end xs so f h = let r = so (last_parameter at) end (sym h) in (r.0, r.1, r.2 ∙ ap (λ zs. (zs, at)) (append-nil xs), λ owed. f owed ∙ ap (fault (m.more_parameters ∷ owed)) h)

-- declarations

same_kind : (r : TypeReading) (t : TypeAt) → type_of r ≡ t → kind_of r ≡ t.kind
same_kind (typed a k) t h = ap (λ (v : TypeAt). v.kind) h

pub activity_parsed : (at name_at paren arrow end_at : ℕ) (x : Bytes) (ts r1 r2 r3 r4 r5 end : List Lexeme) (xs : List TypeAt) (t : TypeAt) → ts ≡ named name_at x ∷ r1 → Marked mark.Open r1 paren r2 → Parsed m.types types_tokens types_of r2 xs r3 → Marked mark.Arrow r3 arrow r4 → IsType r4 t r5 → Marked mark.Semicolon r5 end_at end → Parsed m.declaration declaration_tokens declaration_of (marked at mark.Activity ∷ ts) (tree.Activity at name_at x xs t.kind) end
activity_parsed at name_at paren arrow end_at x ts r1 r2 r3 r4 r5 end xs t h p q r u v = (
  activity at name_at x p.0 q.0 r.0 u.0 v.0,
  ap (λ y. marked at mark.Activity ∷ named name_at x ∷ marked p.0 mark.Open ∷ y) (
      append_assoc (types_tokens q.0) (marked r.0 mark.Arrow ∷ (type_tokens u.0 ++ (marked v.0 mark.Semicolon ∷ []))) end
      ∙ ap (λ y. types_tokens q.0 ++ (marked r.0 mark.Arrow ∷ y)) (append_assoc (type_tokens u.0) (marked v.0 mark.Semicolon ∷ []) end ∙ ap (λ y. type_tokens u.0 ++ y) v.1 ∙ u.1)
      ∙ ap (λ y. types_tokens q.0 ++ y) r.1 ∙ q.1)
      ∙ ap (λ y. marked at mark.Activity ∷ named name_at x ∷ y) p.1 ∙ ap (λ y. marked at mark.Activity ∷ y) (sym h),
  ap (λ ys. tree.Activity at name_at x ys (kind_of u.0)) q.2 ∙ ap (tree.Activity at name_at x xs) (same_kind u.0 t u.2),
  λ owed. rw h (p.3 (m.types ∷ m.sign mark.Arrow ∷ m.type_ ∷ m.sign mark.Semicolon ∷ owed) ∙ q.3 (m.sign mark.Arrow ∷ m.type_ ∷ m.sign mark.Semicolon ∷ owed) ∙ r.3 (m.type_ ∷ m.sign mark.Semicolon ∷ owed) ∙ u.3 (m.sign mark.Semicolon ∷ owed) ∙ v.3 owed),
)

pub signal_parsed : (at name_at colon end_at : ℕ) (x : Bytes) (ts r1 r2 r3 end : List Lexeme) (t : TypeAt) → ts ≡ named name_at x ∷ r1 → Marked mark.Colon r1 colon r2 → IsType r2 t r3 → Marked mark.Semicolon r3 end_at end → Parsed m.declaration declaration_tokens declaration_of (marked at mark.Signal ∷ ts) (tree.Signal at name_at x t.kind) end
signal_parsed at name_at colon end_at x ts r1 r2 r3 end t h p q r = (
  signal at name_at x p.0 q.0 r.0,
  ap (λ y. marked at mark.Signal ∷ named name_at x ∷ marked p.0 mark.Colon ∷ y) (append_assoc (type_tokens q.0) (marked r.0 mark.Semicolon ∷ []) end ∙ ap (λ y. type_tokens q.0 ++ y) r.1 ∙ q.1)
      ∙ ap (λ y. marked at mark.Signal ∷ named name_at x ∷ y) p.1 ∙ ap (λ y. marked at mark.Signal ∷ y) (sym h),
  ap (tree.Signal at name_at x) (same_kind q.0 t q.2),
  λ owed. rw h (p.3 (m.type_ ∷ m.sign mark.Semicolon ∷ owed) ∙ q.3 (m.sign mark.Semicolon ∷ owed) ∙ r.3 owed),
)

-- statements

pub let_parsed : (at name_at eq end_at : ℕ) (x : Bytes) (ts r1 r2 r3 end : List Lexeme) (e : tree.Expression) → ts ≡ named name_at x ∷ r1 → Marked mark.Assign r1 eq r2 → IsExpr r2 e r3 → Marked mark.Semicolon r3 end_at end → Parsed m.statement statement_tokens statement_of (marked at mark.Let ∷ ts) (tree.Let at name_at x e) end
let_parsed at name_at eq end_at x ts r1 r2 r3 end e h p q r = (
  let_ at name_at x p.0 q.0 r.0,
  ap (λ y. marked at mark.Let ∷ y) (ap (λ y. named name_at x ∷ y) (ap (λ y. marked p.0 mark.Assign ∷ y) (append_assoc (expr_tokens q.0) (marked r.0 mark.Semicolon ∷ []) end ∙ ap (λ y. expr_tokens q.0 ++ y) r.1 ∙ q.1) ∙ p.1) ∙ sym h),
  ap (tree.Let at name_at x) q.2,
  λ owed. rw h (p.3 (m.expr ∷ m.sign mark.Semicolon ∷ owed) ∙ q.3 (m.sign mark.Semicolon ∷ owed) ∙ r.3 owed),
)

pub return_parsed : (at end_at : ℕ) (ts r3 end : List Lexeme) (e : tree.Expression) → IsExpr ts e r3 → Marked mark.Semicolon r3 end_at end → Parsed m.statement statement_tokens statement_of (marked at mark.Return ∷ ts) (tree.Return at e) end
return_parsed at end_at ts r3 end e q r = (
  return_ at q.0 r.0,
  ap (λ y. marked at mark.Return ∷ y) (append_assoc (expr_tokens q.0) (marked r.0 mark.Semicolon ∷ []) end ∙ ap (λ y. expr_tokens q.0 ++ y) r.1 ∙ q.1),
  ap (tree.Return at) q.2,
  λ owed. q.3 (m.sign mark.Semicolon ∷ owed) ∙ r.3 owed,
)

pub sleep_parsed : (at end_at : ℕ) (ts r3 end : List Lexeme) (e : tree.Expression) → IsExpr ts e r3 → Marked mark.Semicolon r3 end_at end → Parsed m.statement statement_tokens statement_of (marked at mark.Sleep ∷ ts) (tree.Sleep at e) end
sleep_parsed at end_at ts r3 end e q r = (
  sleep at q.0 r.0,
  ap (λ y. marked at mark.Sleep ∷ y) (append_assoc (expr_tokens q.0) (marked r.0 mark.Semicolon ∷ []) end ∙ ap (λ y. expr_tokens q.0 ++ y) r.1 ∙ q.1),
  ap (tree.Sleep at) q.2,
  λ owed. q.3 (m.sign mark.Semicolon ∷ owed) ∙ r.3 owed,
)

pub fail_parsed : (at end_at : ℕ) (ts r3 end : List Lexeme) (e : tree.Expression) → IsExpr ts e r3 → Marked mark.Semicolon r3 end_at end → Parsed m.statement statement_tokens statement_of (marked at mark.Fail ∷ ts) (tree.FailWith at e) end
fail_parsed at end_at ts r3 end e q r = (
  fail at q.0 r.0,
  ap (λ y. marked at mark.Fail ∷ y) (append_assoc (expr_tokens q.0) (marked r.0 mark.Semicolon ∷ []) end ∙ ap (λ y. expr_tokens q.0 ++ y) r.1 ∙ q.1),
  ap (tree.FailWith at) q.2,
  λ owed. q.3 (m.sign mark.Semicolon ∷ owed) ∙ r.3 owed,
)

pub continue_parsed : (at as_at new_at paren end_at : ℕ) (ts r1 r2 r3 r4 end : List Lexeme) (es : List tree.Expression) → Marked mark.As ts as_at r1 → Marked mark.New r1 new_at r2 → Marked mark.Open r2 paren r3 → Parsed m.arguments arguments_tokens arguments_of r3 es r4 → Marked mark.Semicolon r4 end_at end → Parsed m.statement statement_tokens statement_of (marked at mark.Continue ∷ ts) (tree.Continue at es) end
continue_parsed at as_at new_at paren end_at ts r1 r2 r3 r4 end es p q r u v = (
  continue_ at p.0 q.0 r.0 u.0 v.0,
  ap (λ y. marked at mark.Continue ∷ y) (ap (λ y. marked p.0 mark.As ∷ y) (ap (λ y. marked q.0 mark.New ∷ y) (ap (λ y. marked r.0 mark.Open ∷ y) (append_assoc (arguments_tokens u.0) (marked v.0 mark.Semicolon ∷ []) end ∙ ap (λ y. arguments_tokens u.0 ++ y) v.1 ∙ u.1) ∙ r.1) ∙ q.1) ∙ p.1),
  ap (tree.Continue at) u.2,
  λ owed. p.3 (m.sign mark.New ∷ m.sign mark.Open ∷ m.arguments ∷ m.sign mark.Semicolon ∷ owed) ∙ q.3 (m.sign mark.Open ∷ m.arguments ∷ m.sign mark.Semicolon ∷ owed) ∙ r.3 (m.arguments ∷ m.sign mark.Semicolon ∷ owed) ∙ u.3 (m.sign mark.Semicolon ∷ owed) ∙ v.3 owed,
)

-- lists in braces

pub block_parsed : (at : ℕ) (ts r1 end : List Lexeme) (b : tree.Block × ℕ) → Marked mark.BraceOpen ts at r1 → Parsed m.statements statements_tokens end_of r1 b end → IsBlock ts at b end
block_parsed at ts r1 end b p q = (
  q.0,
  ap (λ y. marked at mark.BraceOpen ∷ y) q.1 ∙ ap (λ a. marked a mark.BraceOpen ∷ r1) (sym p.2) ∙ p.1,
  q.2,
  λ owed. p.3 (m.statements ∷ owed) ∙ q.3 owed,
)

-- behind the arguments of a call

pub retry_parsed : (at tries_at tries every every_at pause : ℕ) (ts r1 r2 rest : List Lexeme) → IsNumber ts tries_at tries r1 → Marked mark.Every r1 every r2 → IsNumber r2 every_at pause rest → IsTried (marked at mark.Retry ∷ ts) (record { tries_at = tries_at; tries = tries; every_at = every_at; every = pause }) rest
retry_parsed at tries_at tries every every_at pause ts r1 r2 rest p q r = (
  λ more end h. (
    retry at tries_at p.0 q.0 every_at r.0 more,
    ap (λ y. marked at mark.Retry ∷ y) (ap (λ y. numbered tries_at p.0 ∷ y) (ap (λ y. marked q.0 mark.Every ∷ y) (ap (λ y. numbered every_at r.0 ∷ y) h ∙ sym r.1) ∙ q.1) ∙ sym p.1),
    ap (λ (n : ℕ). let v : Retry = record { tries_at = tries_at; tries = n; every_at = every_at; every = whole r.0 } in (v, otherwise_of more)) p.2
        ∙ ap (λ (n : ℕ). let v : Retry = record { tries_at = tries_at; tries = tries; every_at = every_at; every = n } in (v, otherwise_of more)) r.2,
  ),
  λ owed. ap (fault (m.number ∷ m.sign mark.Every ∷ m.number ∷ m.else_tail ∷ owed)) p.1 ∙ q.3 (m.number ∷ m.else_tail ∷ owed) ∙ ap (fault (m.number ∷ m.else_tail ∷ owed)) r.1,
)

pub once_parsed : (ts : List Lexeme) → Lacks mark.Retry ts → IsTried ts once ts
once_parsed ts h = (λ more end g. (no_retry more, g, refl), λ owed. call_tail_is owed ts h)

abbrev pub IsElse : List Lexeme → tree.Otherwise → List Lexeme → Type 0
IsElse ts o end = Parsed m.else_tail else_tail_tokens otherwise_of ts o end

pub no_else_parsed : (end_at : ℕ) (ts end : List Lexeme) → Lacks mark.Else ts → Marked mark.Semicolon ts end_at end → IsElse ts tree.NoElse end
no_else_parsed end_at ts end h p = (no_else p.0, p.1, refl, λ owed. else_tail_is owed ts h ∙ p.3 owed)

pub else_parsed : (at brace end_at : ℕ) (ts r1 r2 end : List Lexeme) (b : tree.Block × ℕ) → ts ≡ marked at mark.Else ∷ r1 → IsBlock r1 brace b r2 → Marked mark.Semicolon r2 end_at end → IsElse ts (tree.Else b.0 b.1) end
else_parsed at brace end_at ts r1 r2 end b h p q = (
  else_ at brace p.0 q.0,
  ap (λ y. marked at mark.Else ∷ marked brace mark.BraceOpen ∷ y) (append_assoc (statements_tokens p.0) (marked q.0 mark.Semicolon ∷ []) end ∙ ap (λ y. statements_tokens p.0 ++ y) q.1)
      ∙ ap (λ y. marked at mark.Else ∷ y) p.1 ∙ sym h,
  ap (λ (v : tree.Block × ℕ). tree.Else v.0 v.1) p.2,
  λ owed. rw h (p.3 (m.sign mark.Semicolon ∷ owed) ∙ q.3 owed),
)

abbrev pub IsSide : ℕ → Bytes → List Lexeme → tree.Statement → List Lexeme → Type 0
IsSide at x ts s end = Parsed m.side side_tokens (side_of at x) ts s end

pub called_parsed : (at call_at name_at paren : ℕ) (x a : Bytes) (ts r1 r2 r3 rest : List Lexeme) (es : List tree.Expression) (z : Retry) → ts ≡ named name_at a ∷ r1 → Marked mark.Open r1 paren r2 → Parsed m.arguments arguments_tokens arguments_of r2 es r3 → IsTried r3 z rest → IsCalled at x (marked call_at mark.Call ∷ ts) name_at a es z rest
called_parsed at call_at name_at paren x a ts r1 r2 r3 rest es z h p q r = (
  λ more end g.
      let v = r.0 more end g in (
        call call_at name_at a p.0 q.0 v.0,
        ap (λ y. marked call_at mark.Call ∷ y) (ap (λ y. named name_at a ∷ y) (ap (λ y. marked p.0 mark.Open ∷ y) (append_assoc (arguments_tokens q.0) (call_tail_tokens v.0) end ∙ ap (λ y. arguments_tokens q.0 ++ y) v.1 ∙ q.1) ∙ p.1) ∙ sym h),
        ap (λ ys. tree.Call at x name_at a ys (retry_of v.0) (failing_of v.0)) q.2 ∙ ap (λ (w : Retry × tree.Otherwise). tree.Call at x name_at a es w.0 w.1) v.2,
      ),
  λ owed. rw h (p.3 (m.arguments ∷ m.call_tail ∷ owed) ∙ q.3 (m.call_tail ∷ owed) ∙ r.1 owed),
)

pub call_parsed : (at name_at : ℕ) (x a : Bytes) (ts rest end : List Lexeme) (es : List tree.Expression) (z : Retry) (o : tree.Otherwise) → IsCalled at x ts name_at a es z rest → IsElse rest o end → IsSide at x ts (tree.Call at x name_at a es z o) end
call_parsed at name_at x a ts rest end es z o p q = let v = p.0 q.0 end q.1 in (v.0, v.1, v.2 ∙ ap (tree.Call at x name_at a es z) q.2, λ owed. p.1 owed ∙ q.3 owed)

-- waits

abbrev pub IsWaitTail : ℕ → Bytes → ℕ → Bytes → List Lexeme → tree.Statement → List Lexeme → Type 0
IsWaitTail at x name_at n ts s end = Parsed m.wait_tail wait_tail_tokens (wait_of at x name_at n) ts s end

pub waits_ever : (at name_at end_at : ℕ) (x n : Bytes) (ts end : List Lexeme) → Lacks mark.For ts → Marked mark.Semicolon ts end_at end → IsWaitTail at x name_at n ts (tree.WaitSignal at x name_at n) end
waits_ever at name_at end_at x n ts end h p = (for_ever p.0, p.1, refl, λ owed. wait_tail_is owed ts h ∙ p.3 owed)

pub waits_for : (at name_at for_at else_at brace end_at : ℕ) (x n : Bytes) (ts r1 r2 r3 r4 end : List Lexeme) (e : tree.Expression) (b : tree.Block × ℕ) → ts ≡ marked for_at mark.For ∷ r1 → IsExpr r1 e r2 → Marked mark.Else r2 else_at r3 → IsBlock r3 brace b r4 → Marked mark.Semicolon r4 end_at end → IsWaitTail at x name_at n ts (tree.WaitSignalFor at x name_at n e b.0 b.1) end
waits_for at name_at for_at else_at brace end_at x n ts r1 r2 r3 r4 end e b h p q u v = (
  for_ for_at p.0 q.0 brace u.0 v.0,
  ap (λ y. marked for_at mark.For ∷ y) (
      append_assoc (expr_tokens p.0) (marked q.0 mark.Else ∷ marked brace mark.BraceOpen ∷ (statements_tokens u.0 ++ (marked v.0 mark.Semicolon ∷ []))) end
      ∙ ap (λ y. expr_tokens p.0 ++ (marked q.0 mark.Else ∷ marked brace mark.BraceOpen ∷ y)) (append_assoc (statements_tokens u.0) (marked v.0 mark.Semicolon ∷ []) end ∙ ap (λ y. statements_tokens u.0 ++ y) v.1)
      ∙ ap (λ y. expr_tokens p.0 ++ (marked q.0 mark.Else ∷ y)) u.1 ∙ ap (λ y. expr_tokens p.0 ++ y) q.1 ∙ p.1)
      ∙ sym h,
  ap (λ f. tree.WaitSignalFor at x name_at n f (statements_of u.0) (statements_end u.0)) p.2 ∙ ap (λ (w : tree.Block × ℕ). tree.WaitSignalFor at x name_at n e w.0 w.1) u.2,
  λ owed. rw h (p.3 (m.sign mark.Else ∷ m.sign mark.BraceOpen ∷ m.statements ∷ m.sign mark.Semicolon ∷ owed) ∙ q.3 (m.sign mark.BraceOpen ∷ m.statements ∷ m.sign mark.Semicolon ∷ owed) ∙ u.3 (m.sign mark.Semicolon ∷ owed) ∙ v.3 owed),
)

pub wait_parsed : (at wait_at signal_at name_at : ℕ) (x n : Bytes) (ts r1 r2 end : List Lexeme) (s : tree.Statement) → Marked mark.Signal ts signal_at r1 → r1 ≡ named name_at n ∷ r2 → IsWaitTail at x name_at n r2 s end → IsSide at x (marked wait_at mark.Wait ∷ ts) s end
wait_parsed at wait_at signal_at name_at x n ts r1 r2 end s p h q = (
  wait wait_at p.0 name_at n q.0,
  ap (λ y. marked wait_at mark.Wait ∷ y) (ap (λ y. marked p.0 mark.Signal ∷ y) (ap (λ y. named name_at n ∷ y) q.1 ∙ sym h) ∙ p.1),
  q.2,
  λ owed. p.3 (m.name ∷ m.wait_tail ∷ owed) ∙ ap (fault (m.name ∷ m.wait_tail ∷ owed)) h ∙ q.3 owed,
)

pub wait_stops : (wait_at signal_at name_at : ℕ) (n : Bytes) (ts r1 r2 : List Lexeme) → Marked mark.Signal ts signal_at r1 → r1 ≡ named name_at n ∷ r2 → (owed : List Symbol) → fault (m.side ∷ owed) (marked wait_at mark.Wait ∷ ts) ≡ fault (m.wait_tail ∷ owed) r2
wait_stops wait_at signal_at name_at n ts r1 r2 p h owed = p.3 (m.name ∷ m.wait_tail ∷ owed) ∙ ap (fault (m.name ∷ m.wait_tail ∷ owed)) h

pub side_is : (owed : List Symbol) (ts : List Lexeme) → Lacks mark.Call ts → Lacks mark.Wait ts → fault (m.side ∷ owed) ts ≡ fault (m.expr ∷ m.sign mark.Semicolon ∷ owed) ts
side_is owed ts g h = is_then m.expr m.side (m.sign mark.Semicolon ∷ []) refl refl owed ts (side_same ts g h)

pub value_parsed : (at end_at : ℕ) (x : Bytes) (ts r1 end : List Lexeme) (e : tree.Expression) → Lacks mark.Call ts → Lacks mark.Wait ts → IsExpr ts e r1 → Marked mark.Semicolon r1 end_at end → IsSide at x ts (tree.Assign at x e) end
value_parsed at end_at x ts r1 end e g h q r = (
  value q.0 r.0,
  append_assoc (expr_tokens q.0) (marked r.0 mark.Semicolon ∷ []) end ∙ ap (λ y. expr_tokens q.0 ++ y) r.1 ∙ q.1,
  ap (tree.Assign at x) q.2,
  λ owed. side_is owed ts g h ∙ q.3 (m.sign mark.Semicolon ∷ owed) ∙ r.3 owed,
)

-- statements that begin with a name

pub target_read : (at eq : ℕ) (x : Bytes) (ts r1 r2 : List Lexeme) → ts ≡ named at x ∷ r1 → Marked mark.Assign r1 eq r2 → IsTarget ts at x r2
target_read at eq x ts r1 r2 h p = (p.0, h ∙ ap (λ y. named at x ∷ y) (sym p.1))

pub target_is : (at : ℕ) (x : Bytes) (ts rest : List Lexeme) → IsTarget ts at x rest → (owed : List Symbol) → fault (m.statement ∷ owed) ts ≡ fault (m.side ∷ owed) rest
target_is at x ts rest p owed = rw p.1 refl

pub assign_parsed : (at : ℕ) (x : Bytes) (ts rest end : List Lexeme) (s : tree.Statement) → IsTarget ts at x rest → IsSide at x rest s end → Parsed m.statement statement_tokens statement_of ts s end
assign_parsed at x ts rest end s p q = (
  assign at x p.0 q.0,
  ap (λ y. named at x ∷ marked p.0 mark.Assign ∷ y) q.1 ∙ sym p.1,
  q.2,
  λ owed. target_is at x ts rest p owed ∙ q.3 owed,
)

deprecate_word : (k : Word) → is_deprecate k ≡ true → k ≡ word.Name deprecate_name
deprecate_word (word.Name x) h = ap word.Name ((bytes_decides x deprecate_name).0 h)
deprecate_word (word.Int n) h = absurd (cc)
deprecate_word (word.Text t) h = absurd (cc)
deprecate_word (word.Mark k) h = absurd (cc)

text_begins : (k : Word) → is_text k ≡ true → IsText k
text_begins (word.Text t) h = tt
text_begins (word.Name x) h = absurd (cc)
text_begins (word.Int n) h = absurd (cc)
text_begins (word.Mark k) h = absurd (cc)

pub deprecate_found : (t u : Lexeme) (ts rest us : List Lexeme) → ts ≡ t ∷ rest → rest ≡ u ∷ us → (is_deprecate t.word && is_text u.word) ≡ true → IsDeprecate ts t.at rest
deprecate_found t u ts rest us e f h =
    let both = and_parts (is_deprecate t.word) (is_text u.word) h in
    (subst BeginsText (sym f) (text_begins u.word both.1), sym (first_is t (word.Name deprecate_name) ts rest e (deprecate_word t.word both.0)))

pub no_deprecate : (t u : Lexeme) (ts rest us : List Lexeme) → ts ≡ t ∷ rest → rest ≡ u ∷ us → (is_deprecate t.word && is_text u.word) ≡ false → begins_deprecate ts ≡ false
no_deprecate t u ts rest us e f h = rw (e, f) h

pub one_is_none : (t : Lexeme) (ts rest : List Lexeme) → ts ≡ t ∷ rest → rest ≡ [] → begins_deprecate ts ≡ false
one_is_none t ts rest e f = rw (e, f) refl

-- behind another name than that of a `deprecate`
pub target_stops : (at : ℕ) (x : Bytes) (ts r1 : List Lexeme) → ts ≡ named at x ∷ r1 → begins_deprecate ts ≡ false → (owed : List Symbol) → fault (m.statement ∷ owed) ts ≡ fault (m.sign mark.Assign ∷ m.side ∷ owed) r1
target_stops at x ts r1 e h owed = ap (fault (m.statement ∷ owed)) e ∙ assign_is at x owed r1 (subst (λ v. begins_deprecate v ≡ false) e h)

pub deprecate_read : (at id_at : ℕ) (id : Bytes) (ts r1 : List Lexeme) → BeginsText ts → IsPatchId ts id_at id r1 → (owed : List Symbol)
    → fault (m.statement ∷ owed) (named at deprecate_name ∷ ts) ≡ fault (m.sign mark.Semicolon ∷ owed) r1
deprecate_read at id_at id ts r1 b p owed =
    deprecate_is owed ts b ∙ ap (fault (m.patch_id ∷ m.sign mark.Semicolon ∷ owed)) p.1 ∙ patch_id_step id_at id (m.sign mark.Semicolon ∷ owed) r1 p.0

pub deprecate_parsed : (at id_at end_at : ℕ) (id : Bytes) (ts r1 end : List Lexeme) → BeginsText ts → IsPatchId ts id_at id r1 → Marked mark.Semicolon r1 end_at end
    → Parsed m.statement statement_tokens statement_of (named at deprecate_name ∷ ts) (tree.Deprecate at id_at id) end
deprecate_parsed at id_at end_at id ts r1 end b p q = (
  deprecate at id_at id p.0 q.0,
  ap (λ y. named at deprecate_name ∷ worded id_at id ∷ y) q.1 ∙ ap (λ y. named at deprecate_name ∷ y) (sym p.1),
  refl,
  λ owed. deprecate_read at id_at id ts r1 b p owed ∙ q.3 owed,
)

-- statements with lists in braces

pub while_parsed : (at brace : ℕ) (ts r1 end : List Lexeme) (e : tree.Expression) (b : tree.Block × ℕ) → IsExpr ts e r1 → IsBlock r1 brace b end → Parsed m.statement statement_tokens statement_of (marked at mark.While ∷ ts) (tree.While at e b.0 b.1) end
while_parsed at brace ts r1 end e b p q = (
  while_ at p.0 brace q.0,
  ap (λ y. marked at mark.While ∷ y) (append_assoc (expr_tokens p.0) (marked brace mark.BraceOpen ∷ statements_tokens q.0) end ∙ ap (λ y. expr_tokens p.0 ++ y) q.1 ∙ p.1),
  ap (λ f. tree.While at f (statements_of q.0) (statements_end q.0)) p.2 ∙ ap (λ (v : tree.Block × ℕ). tree.While at e v.0 v.1) q.2,
  λ owed. p.3 (m.sign mark.BraceOpen ∷ m.statements ∷ owed) ∙ q.3 owed,
)

-- branches before others
abbrev pub before_branches : List (ℕ × Braced) → tree.Branches → tree.Branches
before_branches [] b = b
before_branches (x ∷ xs) b = tree.Branch x.0 x.1.0 x.1.1 (before_branches xs b)

before_another : (xs : List (ℕ × Braced)) (x : ℕ × Braced) (b : tree.Branches) → before_branches xs (tree.Branch x.0 x.1.0 x.1.1 b) ≡ before_branches (xs ++ (x ∷ [])) b
before_another [] x b = refl
before_another (y ∷ ys) x b = ap (tree.Branch y.0 y.1.0 y.1.1) (before_another ys x b)

before_none : (xs : List (ℕ × Braced)) → before_branches xs tree.NoBranch ≡ shown_branches xs
before_none [] = refl
before_none (y ∷ ys) = ap (tree.Branch y.0 y.1.0 y.1.1) (before_none ys)

abbrev pub BranchesSoFar : List Lexeme → List (ℕ × Braced) → List Lexeme → Type 0
BranchesSoFar ts bs rest = SoFar branches_tokens branches_tokens shut_of (λ more. (before_branches bs (branches_of more), branches_end more)) ts rest

pub branches_begin : (ts : List Lexeme) → BranchesSoFar ts [] ts
branches_begin ts = λ more end h. (more, h, refl)

not_shut : (k : Word) → (k ≡ word.Mark mark.BraceClose → ⊥) → takes m.more_branches k ≡ then_more (takes (m.sign mark.BraceOpen) k) (m.statements ∷ m.more_branches ∷ [])
not_shut (word.Mark mark.BraceClose) h = absurd (h refl)
not_shut _ h = refl

branches_same : (ts : List Lexeme) → Lacks mark.BraceClose ts → Same (m.sign mark.BraceOpen) m.more_branches (m.statements ∷ m.more_branches ∷ []) ts
branches_same [] h = tt
branches_same (t ∷ ts) h = not_shut t.word h

pub branches_is : (owed : List Symbol) (ts : List Lexeme) → Lacks mark.BraceClose ts → fault (m.more_branches ∷ owed) ts ≡ fault (in_braces ++ (m.more_branches ∷ owed)) ts
branches_is owed ts h = is_then (m.sign mark.BraceOpen) m.more_branches (m.statements ∷ m.more_branches ∷ []) refl refl owed ts (branches_same ts h)

pub branches_more : (ts rest next : List Lexeme) (bs : List (ℕ × Braced)) (at : ℕ) (b : tree.Block × ℕ) → BranchesSoFar ts bs rest → IsBlock rest at b next → BranchesSoFar ts (bs ++ ((at, b) ∷ [])) next
branches_more ts rest next bs at b so p = λ more end g.
    let r = so (branch at p.0 more) end (ap (λ v. marked at mark.BraceOpen ∷ v) (append_assoc (statements_tokens p.0) (branches_tokens more) end ∙ ap (λ v. statements_tokens p.0 ++ v) g) ∙ p.1) in
    (r.0, r.1, r.2 ∙ ap (λ (v : tree.Block × ℕ). (before_branches bs (tree.Branch at v.0 v.1 (branches_of more)), branches_end more)) p.2 ∙ ap (λ v. (v, branches_end more)) (before_another bs (at, b) (branches_of more)))

pub branches_close : (at : ℕ) (ts rest end : List Lexeme) (bs : List (ℕ × Braced)) → BranchesSoFar ts bs rest → ((owed : List Symbol) → fault (m.more_branches ∷ owed) ts ≡ fault (m.more_branches ∷ owed) rest) → rest ≡ marked at mark.BraceClose ∷ end → Parsed m.more_branches branches_tokens shut_of ts (shown_branches bs, at) end
branches_close at ts rest end bs so f h = let r = so (no_branch at) end (sym h) in (r.0, r.1, r.2 ∙ ap (λ v. (v, at)) (before_none bs), λ owed. f owed ∙ ap (fault (m.more_branches ∷ owed)) h)

pub parallel_parsed : (at brace first shut_at : ℕ) (ts r1 r2 end : List Lexeme) (b : tree.Block × ℕ) (bs : tree.Branches) → Marked mark.BraceOpen ts brace r1 → IsBlock r1 first b r2 → Parsed m.more_branches branches_tokens shut_of r2 (bs, shut_at) end → Parsed m.statement statement_tokens statement_of (marked at mark.Parallel ∷ ts) (tree.Parallel at (tree.Branch first b.0 b.1 bs) shut_at) end
parallel_parsed at brace first shut_at ts r1 r2 end b bs p q r = (
  parallel at p.0 first q.0 r.0,
  ap (λ y. marked at mark.Parallel ∷ y) (ap (λ y. marked p.0 mark.BraceOpen ∷ y) (ap (λ y. marked first mark.BraceOpen ∷ y) (append_assoc (statements_tokens q.0) (branches_tokens r.0) end ∙ ap (λ y. statements_tokens q.0 ++ y) r.1) ∙ q.1) ∙ p.1),
  ap (λ (v : tree.Block × ℕ). tree.Parallel at (tree.Branch first v.0 v.1 (branches_of r.0)) (branches_end r.0)) q.2 ∙ ap (λ (v : tree.Branches × ℕ). tree.Parallel at (tree.Branch first b.0 b.1 v.0) v.1) r.2,
  λ owed. p.3 (m.sign mark.BraceOpen ∷ m.statements ∷ m.more_branches ∷ owed) ∙ q.3 (m.more_branches ∷ owed) ∙ r.3 owed,
)

-- `if` and `patch`

pub choice_alone : (brace : ℕ) (ts rest : List Lexeme) (a : tree.Block × ℕ) → IsBlock ts brace a rest → Lacks mark.Else rest → IsChoice ts a (tree.End, a.1) rest
choice_alone brace ts rest a p h = (
  λ more end g. (brace, p.0, without more, ap (λ y. marked brace mark.BraceOpen ∷ (statements_tokens p.0 ++ y)) g ∙ p.1, p.2, ap (λ (v : tree.Block × ℕ). (tree.End, v.1)) p.2, refl),
  λ owed. p.3 (m.after_choice ∷ owed) ∙ after_choice_is owed rest h,
)

pub choice_both : (brace at other : ℕ) (ts r1 r2 rest : List Lexeme) (a b : tree.Block × ℕ) → IsBlock ts brace a r1 → r1 ≡ marked at mark.Else ∷ r2 → IsBlock r2 other b rest → IsChoice ts a b rest
choice_both brace at other ts r1 r2 rest a b p h q = (
  λ more end g. (
    brace,
    p.0,
    otherwise at other q.0 more,
    ap (λ y. marked brace mark.BraceOpen ∷ (statements_tokens p.0 ++ y)) (ap (λ y. marked at mark.Else ∷ y) (ap (λ y. marked other mark.BraceOpen ∷ y) (append_assoc (statements_tokens q.0) (statements_tokens more) end ∙ ap (λ y. statements_tokens q.0 ++ y) g) ∙ q.1) ∙ sym h) ∙ p.1,
    p.2,
    q.2,
    refl,
  ),
  λ owed. p.3 (m.after_choice ∷ owed) ∙ ap (fault (m.after_choice ∷ owed)) h ∙ q.3 (m.statements ∷ owed),
)

pub if_member : (at : ℕ) (ts r1 r2 rest : List Lexeme) (e : tree.Expression) (a b : tree.Block × ℕ) → ts ≡ marked at mark.If ∷ r1 → IsExpr r1 e r2 → IsChoice r2 a b rest → IsMember ts (tree.If at e a.0 a.1 b.0 b.1) rest
if_member at ts r1 r2 rest e a b h p q = (
  λ more end g.
      let v = q.0 more end g in (
        if_ at p.0 v.0 v.1 v.2,
        ap (λ y. marked at mark.If ∷ y) (append_assoc (expr_tokens p.0) (marked v.0 mark.BraceOpen ∷ (statements_tokens v.1 ++ choice_tokens v.2)) end ∙ ap (λ y. expr_tokens p.0 ++ (marked v.0 mark.BraceOpen ∷ y)) (append_assoc (statements_tokens v.1) (choice_tokens v.2) end) ∙ ap (λ y. expr_tokens p.0 ++ y) v.3 ∙ p.1) ∙ sym h,
        ap (λ f. (tree.Next (tree.If at f (statements_of v.1) (statements_end v.1) (second_of v.2) (second_end (statements_end v.1) v.2)) (behind_choice v.2), choice_end v.2)) p.2
            ∙ ap (λ (w : tree.Block × ℕ). (tree.Next (tree.If at e w.0 w.1 (second_of v.2) (second_end (statements_end v.1) v.2)) (behind_choice v.2), choice_end v.2)) v.4
            ∙ ap (λ (w : tree.Block × ℕ). (tree.Next (tree.If at e a.0 a.1 w.0 w.1) (behind_choice v.2), choice_end v.2)) v.5
            ∙ ap (λ (w : tree.Block × ℕ). (tree.Next (tree.If at e a.0 a.1 b.0 b.1) w.0, w.1)) v.6,
      ),
  λ owed. ap (fault (m.statements ∷ owed)) h ∙ p.3 (m.sign mark.BraceOpen ∷ m.statements ∷ m.after_choice ∷ owed) ∙ q.1 owed,
)

pub patch_is : (at id_at : ℕ) (id : Bytes) (ts r1 r2 : List Lexeme) → ts ≡ marked at mark.Patch ∷ r1 → IsPatchId r1 id_at id r2 → (owed : List Symbol) → fault (m.statements ∷ owed) ts ≡ fault (m.sign mark.BraceOpen ∷ m.statements ∷ m.after_choice ∷ owed) r2
patch_is at id_at id ts r1 r2 h p owed = ap (fault (m.statements ∷ owed)) h ∙ ap (fault (m.patch_id ∷ m.sign mark.BraceOpen ∷ m.statements ∷ m.after_choice ∷ owed)) p.1 ∙ patch_id_step id_at id (m.sign mark.BraceOpen ∷ m.statements ∷ m.after_choice ∷ owed) r2 p.0

pub patch_member : (at id_at : ℕ) (id : Bytes) (ts r1 r2 rest : List Lexeme) (a b : tree.Block × ℕ) → ts ≡ marked at mark.Patch ∷ r1 → IsPatchId r1 id_at id r2 → IsChoice r2 a b rest → IsMember ts (tree.Patch at id_at id a.0 a.1 b.0 b.1) rest
patch_member at id_at id ts r1 r2 rest a b h p q = (
  λ more end g.
      let v = q.0 more end g in (
        patch at id_at id p.0 v.0 v.1 v.2,
        ap (λ y. marked at mark.Patch ∷ y) (ap (λ y. worded id_at id ∷ marked v.0 mark.BraceOpen ∷ y) (append_assoc (statements_tokens v.1) (choice_tokens v.2) end) ∙ ap (λ y. worded id_at id ∷ y) v.3 ∙ sym p.1) ∙ sym h,
        ap (λ (w : tree.Block × ℕ). (tree.Next (tree.Patch at id_at id w.0 w.1 (second_of v.2) (second_end (statements_end v.1) v.2)) (behind_choice v.2), choice_end v.2)) v.4
            ∙ ap (λ (w : tree.Block × ℕ). (tree.Next (tree.Patch at id_at id a.0 a.1 w.0 w.1) (behind_choice v.2), choice_end v.2)) v.5
            ∙ ap (λ (w : tree.Block × ℕ). (tree.Next (tree.Patch at id_at id a.0 a.1 b.0 b.1) w.0, w.1)) v.6,
      ),
  λ owed. patch_is at id_at id ts r1 r2 h p owed ∙ q.1 owed,
)

pub plain_member : (ts rest : List Lexeme) (s : tree.Statement) → Lacks mark.BraceClose ts → Lacks mark.If ts → Lacks mark.Patch ts → Parsed m.statement statement_tokens statement_of ts s rest → IsMember ts s rest
plain_member ts rest s f g h p = (
  λ more end e. (statement p.0 more, append_assoc (statement_tokens p.0) (statements_tokens more) end ∙ ap (λ y. statement_tokens p.0 ++ y) e ∙ p.1, ap (λ y. (tree.Next y (statements_of more), statements_end more)) p.2),
  λ owed. statements_is owed ts f g h ∙ p.3 (m.statements ∷ owed),
)

-- lists of statements

-- statements before a block
abbrev pub before_block : List tree.Statement → tree.Block → tree.Block
before_block [] b = b
before_block (s ∷ ss) b = tree.Next s (before_block ss b)

before_more : (ss : List tree.Statement) (s : tree.Statement) (b : tree.Block) → before_block ss (tree.Next s b) ≡ before_block (ss ++ (s ∷ [])) b
before_more [] s b = refl
before_more (x ∷ ss) s b = ap (tree.Next x) (before_more ss s b)

before_end : (ss : List tree.Statement) → before_block ss tree.End ≡ block_of ss
before_end [] = refl
before_end (x ∷ ss) = ap (tree.Next x) (before_end ss)

abbrev pub StatementsSoFar : List Lexeme → List tree.Statement → List Lexeme → Type 0
StatementsSoFar ts ss rest = SoFar statements_tokens statements_tokens end_of (λ more. (before_block ss (statements_of more), statements_end more)) ts rest

pub statements_begin : (ts : List Lexeme) → StatementsSoFar ts [] ts
statements_begin ts = λ more end h. (more, h, refl)

pub statements_more : (ts rest next : List Lexeme) (ss : List tree.Statement) (s : tree.Statement) → StatementsSoFar ts ss rest → IsMember rest s next → StatementsSoFar ts (ss ++ (s ∷ [])) next
statements_more ts rest next ss s so p = λ more end g.
    let v = p.0 more end g in
    let r = so v.0 end v.1 in
    (r.0, r.1, r.2 ∙ ap (λ (w : tree.Block × ℕ). (before_block ss w.0, w.1)) v.2 ∙ ap (λ b. (b, statements_end more)) (before_more ss s (statements_of more)))

pub statements_close : (at : ℕ) (ts rest end : List Lexeme) (ss : List tree.Statement) → StatementsSoFar ts ss rest → ((owed : List Symbol) → fault (m.statements ∷ owed) ts ≡ fault (m.statements ∷ owed) rest) → rest ≡ marked at mark.BraceClose ∷ end → Parsed m.statements statements_tokens end_of ts (block_of ss, at) end
statements_close at ts rest end ss so f h = let r = so (no_statement at) end (sym h) in (r.0, r.1, r.2 ∙ ap (λ b. (b, at)) (before_end ss), λ owed. f owed ∙ ap (fault (m.statements ∷ owed)) h)

-- bodies

abbrev pub BodySoFar : List Lexeme → List tree.Declared → List Lexeme → Type 0
BodySoFar ts ds rest = SoFar body_tokens body_tokens whole_body_of (λ more. (ds ++ declarations_of more, end_of (body_statements more))) ts rest

pub body_begins : (ts : List Lexeme) → BodySoFar ts [] ts
body_begins ts = λ more end h. (more, h, refl)

abbrev pub IsDeclaration : List Lexeme → tree.Declared → List Lexeme → Type 0
IsDeclaration ts d rest = Parsed m.declaration declaration_tokens declaration_of ts d rest

pub body_more : (ts rest next : List Lexeme) (ds : List tree.Declared) (d : tree.Declared) → BodySoFar ts ds rest → IsDeclaration rest d next → BodySoFar ts (ds ++ (d ∷ [])) next
body_more ts rest next ds d so p = so_next m.declaration declaration_tokens declaration_of body_tokens body_tokens whole_body_of (λ zs more. (zs ++ declarations_of more, end_of (body_statements more))) (λ zs v. zs ++ (v ∷ [])) declaration (λ q more. refl) ds (λ q more. ap (λ zs. (zs, end_of (body_statements more))) (sym (append_assoc ds (declaration_of q ∷ []) (declarations_of more)))) ts rest next d so p

pub body_is : (owed : List Symbol) (ts : List Lexeme) → Lacks mark.Activity ts → Lacks mark.Signal ts → fault (m.body ∷ owed) ts ≡ fault (m.statements ∷ owed) ts
body_is owed ts g h = is_alike m.statements m.body refl refl owed ts (body_alike ts g h)

pub body_ends : (ts rest end : List Lexeme) (ds : List tree.Declared) (b : tree.Block) (at : ℕ) → BodySoFar ts ds rest → ((owed : List Symbol) → fault (m.body ∷ owed) ts ≡ fault (m.body ∷ owed) rest) → Lacks mark.Activity rest → Lacks mark.Signal rest → Parsed m.statements statements_tokens end_of rest (b, at) end → Parsed m.body body_tokens whole_body_of ts (ds, (b, at)) end
body_ends ts rest end ds b at so f g h p = let r = so (statements p.0) end p.1 in (r.0, r.1, r.2 ∙ ap (λ zs. (zs, end_of p.0)) (append-nil ds) ∙ ap (λ z. (ds, z)) p.2, λ owed. f owed ∙ body_is owed rest g h ∙ p.3 owed)

-- programs

program_step : (k : Word) → step k (m.program ∷ []) ≡ step k (m.sign mark.Workflow ∷ m.name ∷ m.sign mark.Open ∷ m.parameters ∷ m.sign mark.BraceOpen ∷ m.body ∷ [])
program_step (word.Mark mark.Workflow) = refl
program_step _ = refl

pub program_is : (ts : List Lexeme) → fault (m.program ∷ []) ts ≡ fault (m.sign mark.Workflow ∷ m.name ∷ m.sign mark.Open ∷ m.parameters ∷ m.sign mark.BraceOpen ∷ m.body ∷ []) ts
program_is [] = refl
program_is (t ∷ ts) = ap (λ o. fault_by (suc (length ts)) o (λ rest. fault rest ts)) (program_step t.word)

program_with : (at name_at paren brace : ℕ) (x : Bytes) (ps : ParametersReading) (body : BodyReading) (xs : List Parameter) (ds : List tree.Declared) (b : tree.Block) (close end : ℕ) → both_of ps ≡ (xs, close) → whole_body_of body ≡ (ds, (b, end)) → (let p : tree.Program = record { at = name_at; name = x; parameters = xs; parameters_end = close; declarations = ds; body = b; body_end = end } in program_of (workflow at name_at x paren ps brace body) ≡ p)
program_with at name_at paren brace x ps body xs ds b close end h k =
    ap (λ (v : List Parameter × ℕ). let p : tree.Program = record { at = name_at; name = x; parameters = v.0; parameters_end = v.1; declarations = declarations_of body; body = statements_of (body_statements body); body_end = statements_end (body_statements body) } in p) h
    ∙ ap (λ (v : List tree.Declared × (tree.Block × ℕ)). let p : tree.Program = record { at = name_at; name = x; parameters = xs; parameters_end = close; declarations = v.0; body = v.1.0; body_end = v.1.1 } in p) k

pub program_parsed : (at name_at paren brace close end : ℕ) (x : Bytes) (ts r1 r2 r3 r4 r5 r6 : List Lexeme) (xs : List Parameter) (ds : List tree.Declared) (b : tree.Block) → Marked mark.Workflow ts at r1 → r1 ≡ named name_at x ∷ r2 → Marked mark.Open r2 paren r3 → Parsed m.parameters parameters_tokens both_of r3 (xs, close) r4 → Marked mark.BraceOpen r4 brace r5 → Parsed m.body body_tokens whole_body_of r5 (ds, (b, end)) r6 → r6 ≡ [] → Reads ts (record { at = name_at; name = x; parameters = xs; parameters_end = close; declarations = ds; body = b; body_end = end })
program_parsed at name_at paren brace close end x ts r1 r2 r3 r4 r5 r6 xs ds b p h q r u v e = (
  workflow p.0 name_at x q.0 r.0 u.0 v.0,
  ap (λ y. marked p.0 mark.Workflow ∷ named name_at x ∷ marked q.0 mark.Open ∷ (parameters_tokens r.0 ++ (marked u.0 mark.BraceOpen ∷ y))) (sym (append-nil (body_tokens v.0)) ∙ ap (λ y. body_tokens v.0 ++ y) (sym e) ∙ v.1)
      ∙ ap (λ y. marked p.0 mark.Workflow ∷ named name_at x ∷ marked q.0 mark.Open ∷ (parameters_tokens r.0 ++ y)) u.1
      ∙ ap (λ y. marked p.0 mark.Workflow ∷ named name_at x ∷ marked q.0 mark.Open ∷ y) r.1
      ∙ ap (λ y. marked p.0 mark.Workflow ∷ named name_at x ∷ y) q.1 ∙ ap (λ y. marked p.0 mark.Workflow ∷ y) (sym h) ∙ p.1,
  program_with p.0 name_at q.0 u.0 x r.0 v.0 xs ds b close end r.2 v.2,
)

-- a stop at the first token
pub program_stops : (ts : List Lexeme) (e : Stop) → StopsAt (m.sign mark.Workflow) ts e → StopsProgram ts e
program_stops ts (NoMemory _) h = tt
program_stops ts (Unexpected left) h = program_is ts ∙ h (m.name ∷ m.sign mark.Open ∷ m.parameters ∷ m.sign mark.BraceOpen ∷ m.body ∷ [])

-- the machine along a program
pub program_goes : (at name_at paren brace close end : ℕ) (x : Bytes) (ts r1 r2 r3 r4 r5 r6 : List Lexeme) (xs : List Parameter) (ds : List tree.Declared) (b : tree.Block) → Marked mark.Workflow ts at r1 → r1 ≡ named name_at x ∷ r2 → Marked mark.Open r2 paren r3 → Parsed m.parameters parameters_tokens both_of r3 (xs, close) r4 → Marked mark.BraceOpen r4 brace r5 → Parsed m.body body_tokens whole_body_of r5 (ds, (b, end)) r6 → fault (m.program ∷ []) ts ≡ fault [] r6
program_goes at name_at paren brace close end x ts r1 r2 r3 r4 r5 r6 xs ds b p h q r u v =
    program_is ts ∙ p.3 (m.name ∷ m.sign mark.Open ∷ m.parameters ∷ m.sign mark.BraceOpen ∷ m.body ∷ [])
    ∙ ap (fault (m.name ∷ m.sign mark.Open ∷ m.parameters ∷ m.sign mark.BraceOpen ∷ m.body ∷ [])) h
    ∙ q.3 (m.parameters ∷ m.sign mark.BraceOpen ∷ m.body ∷ []) ∙ r.3 (m.sign mark.BraceOpen ∷ m.body ∷ []) ∙ u.3 (m.body ∷ []) ∙ v.3 []

pub left_over : (rest : List Lexeme) (t : Lexeme) (more : List Lexeme) (n : ℕ) → rest ≡ t ∷ more → length rest ≡ n → fault [] rest ≡ Some n
left_over rest t more n h l = ap (fault []) h ∙ ap Some (sym (ap length h) ∙ l)

-- the ends of lists

not_comma_type : (k : Word) → (k ≡ word.Mark mark.Comma → ⊥) → takes m.more_types k ≡ takes (m.sign mark.Close) k
not_comma_type (word.Mark mark.Comma) h = absurd (h refl)
not_comma_type _ h = refl

types_alike : (ts : List Lexeme) → Lacks mark.Comma ts → Alike (m.sign mark.Close) m.more_types ts
types_alike [] h = tt
types_alike (t ∷ ts) h = not_comma_type t.word h

pub more_types_is : (owed : List Symbol) (ts : List Lexeme) → Lacks mark.Comma ts → fault (m.more_types ∷ owed) ts ≡ fault (m.sign mark.Close ∷ owed) ts
more_types_is owed ts h = is_alike (m.sign mark.Close) m.more_types refl refl owed ts (types_alike ts h)

not_comma_parameter : (k : Word) → (k ≡ word.Mark mark.Comma → ⊥) → takes m.more_parameters k ≡ takes (m.sign mark.Close) k
not_comma_parameter (word.Mark mark.Comma) h = absurd (h refl)
not_comma_parameter _ h = refl

parameters_alike : (ts : List Lexeme) → Lacks mark.Comma ts → Alike (m.sign mark.Close) m.more_parameters ts
parameters_alike [] h = tt
parameters_alike (t ∷ ts) h = not_comma_parameter t.word h

pub more_parameters_is : (owed : List Symbol) (ts : List Lexeme) → Lacks mark.Comma ts → fault (m.more_parameters ∷ owed) ts ≡ fault (m.sign mark.Close ∷ owed) ts
more_parameters_is owed ts h = is_alike (m.sign mark.Close) m.more_parameters refl refl owed ts (parameters_alike ts h)

pub types_close : (at : ℕ) (ts rest end : List Lexeme) (xs : List TypeAt) → TypesSoFar ts xs rest → ((owed : List Symbol) → fault (m.types ∷ owed) ts ≡ fault (m.more_types ∷ owed) rest) → Marked mark.Close rest at end → Parsed m.types types_tokens types_of ts xs end
types_close at ts rest end xs so f p = types_end p.0 ts rest end xs so f (sym p.1)

pub parameters_shut : (at : ℕ) (ts rest end : List Lexeme) (xs : List Parameter) → ParametersSoFar ts xs rest → ((owed : List Symbol) → fault (m.parameters ∷ owed) ts ≡ fault (m.more_parameters ∷ owed) rest) → Marked mark.Close rest at end → Parsed m.parameters parameters_tokens both_of ts (xs, at) end
parameters_shut at ts rest end xs so f p = parameters_close at ts rest end xs so f (sym p.1 ∙ ap (λ a. marked a mark.Close ∷ end) p.2)

-- a name that begins a production

colon_same : (k : Word) → takes m.parameter k ≡ then_more (takes m.name k) (m.sign mark.Colon ∷ m.type_ ∷ [])
colon_same (word.Name x) = refl
colon_same _ = refl

parameter_same : (ts : List Lexeme) → Same m.name m.parameter (m.sign mark.Colon ∷ m.type_ ∷ []) ts
parameter_same [] = tt
parameter_same (t ∷ ts) = colon_same t.word

pub parameter_is : (owed : List Symbol) (ts : List Lexeme) → fault (m.parameter ∷ owed) ts ≡ fault (m.name ∷ m.sign mark.Colon ∷ m.type_ ∷ owed) ts
parameter_is owed ts = is_then m.name m.parameter (m.sign mark.Colon ∷ m.type_ ∷ []) refl refl owed ts (parameter_same ts)

-- a symbol that the word is
abbrev taker : Word → Symbol
taker (word.Name x) = m.name
taker (word.Int n) = m.number
taker (word.Text t) = m.prim
taker (word.Mark k) = m.sign k

abbrev none_owed : Option (List Symbol)
none_owed = Some []

mark_taken : (b : Bool) → b ≡ true → cond b none_owed None ≡ none_owed
mark_taken true e = refl
mark_taken false e = absurd (cc)

takes_it : (k : Word) → takes (taker k) k ≡ Some []
takes_it (word.Name x) = refl
takes_it (word.Int n) = refl
takes_it (word.Text t) = refl
takes_it (word.Mark k) = mark_taken (is_mark k k) (eq-eqb (mark_number k) (mark_number k) refl)

taken : (s : Symbol) (t : Lexeme) (ts : List Lexeme) → takes s t.word ≡ Some [] → fault (s ∷ []) (t ∷ ts) ≡ fault [] ts
taken s t ts e = rw e refl

abbrev number_of : Option ℕ → ℕ
number_of None = 0
number_of (Some n) = n

never_both : (ts : List Lexeme) (left : ℕ) → Some (suc (length ts)) ≡ Some left → fault [] ts ≡ Some left → ⊥
never_both [] left e h = absurd (cc)
never_both (u ∷ us) left e h = let d : suc (suc (length us)) ≡ suc (length us) = ap number_of (e ∙ sym h) in absurd (omega (arith, d))

-- no tokens are refused at one place whatever is owed
never_all : (ts : List Lexeme) (left : ℕ) → ((owed : List Symbol) → fault owed ts ≡ Some left) → ⊥
never_all [] left h = let e = h [] in absurd (cc)
never_all (t ∷ ts) left h = never_both ts left (h []) (sym (taken (taker t.word) t ts (takes_it t.word)) ∙ h (taker t.word ∷ []))

name_word : (k : Word) (ts : List Lexeme) (left : ℕ) → IsNoMark k → ((owed : List Symbol) → fault_by (suc (length ts)) (step k (m.name ∷ owed)) (λ rest. fault rest ts) ≡ Some left)
    → (owed : List Symbol) → fault_by (suc (length ts)) (step k (m.statement ∷ owed)) (λ rest. fault rest ts) ≡ Some left
name_word (word.Mark k) ts left l h owed = absurd l
name_word (word.Name x) ts left l h owed = absurd (never_all ts left h)
name_word (word.Int n) ts left l h owed = h owed
name_word (word.Text t) ts left l h owed = h owed

no_name : (ts : List Lexeme) (left : ℕ) → LacksMark ts → ((owed : List Symbol) → fault (m.name ∷ owed) ts ≡ Some left) → (owed : List Symbol) → fault (m.statement ∷ owed) ts ≡ Some left
no_name [] left l h owed = h owed
no_name (t ∷ ts) left l h owed = name_word t.word ts left l h owed

-- where neither a mark nor a name stands, no statement begins
pub name_stops : (ts : List Lexeme) → LacksMark ts → (stop : Stop) → StopsAt m.name ts stop → StopsAt m.statement ts stop
name_stops ts l (NoMemory _) g = tt
name_stops ts l (Unexpected left) g = no_name ts left l g
