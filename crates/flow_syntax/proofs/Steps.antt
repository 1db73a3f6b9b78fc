-- What the machine does at tokens that are not known.
use Rattle.std.proofs.Common.{◌≡◌, ◌∙◌, ℕ, suc, Bool, true, List, [], ◌∷◌, ◌++◌, length, cond, Option, Some, None, refl, ap, false, append_assoc, IsTrue}
use Rattle.std.specs.Prelude.{◌&&◌, bytes_eq}
use Rattle.std.specs.Cmp.Lexicographic.{bytes_decides}
use Rattle.flow_base.specs.Syntax.{Bytes}
use Rattle.flow_base.specs.declared.token.Word.{Word}
use Rattle.flow_base.specs.declared.token.Word.TheVariants as word
use Rattle.flow_base.specs.declared.token.Mark.TheVariants as mark
use Rattle.flow_model.specs.Lexeme.{Lexeme}
use Rattle.flow_model.specs.Grammar.{marked, named, worded, is_patch_id, deprecate_name, TermSign, times, over, percent, SumSign, plus, minus, join, CompareSign, equal, differ, less, at_most, greater, at_least, term_mark, sum_mark, compare_mark}
use Rattle.flow_syntax.specs.Machine.{Symbol, takes, then_more, may_be_nothing, step, step_by, fault, fault_by}
use Rattle.flow_syntax.specs.Machine as m
use Rattle.flow_syntax.specs.Parsing.{Lacks, Past, IsText, is_text, BeginsText, begins_deprecate}

pub passes : (s : Symbol) → may_be_nothing s ≡ true → (owed : List Symbol) (ts : List Lexeme) → Past s ts → fault (s ∷ owed) ts ≡ fault owed ts
passes s h owed [] p = rw h refl
passes s h owed (t ∷ ts) p = rw (p, h) refl

-- at these tokens the one symbol takes what the other does, and then more
abbrev pub Same : Symbol → Symbol → List Symbol → List Lexeme → Type 0
Same s w more [] = Unit {0}
Same s w more (t ∷ ts) = takes w t.word ≡ then_more (takes s t.word) more

then_step : (o : Option (List Symbol)) (more owed : List Symbol) (x y : Option (List Symbol)) → step_by (then_more o more) false owed x ≡ step_by o false (more ++ owed) y
then_step None more owed x y = refl
then_step (Some now) more owed x y = ap Some (append_assoc now more owed)

is_step : (s w : Symbol) (more owed : List Symbol) (k : Word) → may_be_nothing s ≡ false → may_be_nothing w ≡ false → takes w k ≡ then_more (takes s k) more → step k (w ∷ owed) ≡ step k (s ∷ (more ++ owed))
is_step s w more owed k h i e = rw (h, i, e) (then_step (takes s k) more owed (step k owed) (step k (more ++ owed)))

pub is_then : (s w : Symbol) (more : List Symbol) → may_be_nothing s ≡ false → may_be_nothing w ≡ false → (owed : List Symbol) (ts : List Lexeme) → Same s w more ts → fault (w ∷ owed) ts ≡ fault (s ∷ (more ++ owed)) ts
is_then s w more h i owed [] e = rw (h, i) refl
is_then s w more h i owed (t ∷ ts) e = ap (λ o. fault_by (suc (length ts)) o (λ rest. fault rest ts)) (is_step s w more owed t.word h i e)

-- the same with nothing more
abbrev pub Alike : Symbol → Symbol → List Lexeme → Type 0
Alike s w [] = Unit {0}
Alike s w (t ∷ ts) = takes w t.word ≡ takes s t.word

alike_step : (s w : Symbol) (owed : List Symbol) (k : Word) → may_be_nothing s ≡ false → may_be_nothing w ≡ false → takes w k ≡ takes s k → step k (w ∷ owed) ≡ step k (s ∷ owed)
alike_step s w owed k h i e = rw (h, i, e) refl

pub is_alike : (s w : Symbol) → may_be_nothing s ≡ false → may_be_nothing w ≡ false → (owed : List Symbol) (ts : List Lexeme) → Alike s w ts → fault (w ∷ owed) ts ≡ fault (s ∷ owed) ts
is_alike s w h i owed [] e = rw (h, i) refl
is_alike s w h i owed (t ∷ ts) e = ap (λ o. fault_by (suc (length ts)) o (λ rest. fault rest ts)) (alike_step s w owed t.word h i e)

term_same : (ts : List Lexeme) → Same m.unary m.term (m.more_term ∷ []) ts
term_same [] = tt
term_same (t ∷ ts) = refl

sum_same : (ts : List Lexeme) → Same m.term m.sum (m.more_sum ∷ []) ts
sum_same [] = tt
sum_same (t ∷ ts) = refl

compare_same : (ts : List Lexeme) → Same m.sum m.compare (m.more_compare ∷ []) ts
compare_same [] = tt
compare_same (t ∷ ts) = refl

conj_same : (ts : List Lexeme) → Same m.neg m.conj (m.more_conj ∷ []) ts
conj_same [] = tt
conj_same (t ∷ ts) = refl

expr_same : (ts : List Lexeme) → Same m.conj m.expr (m.more_expr ∷ []) ts
expr_same [] = tt
expr_same (t ∷ ts) = refl

pub term_is : (owed : List Symbol) (ts : List Lexeme) → fault (m.term ∷ owed) ts ≡ fault (m.unary ∷ m.more_term ∷ owed) ts
term_is owed ts = is_then m.unary m.term (m.more_term ∷ []) refl refl owed ts (term_same ts)

pub sum_is : (owed : List Symbol) (ts : List Lexeme) → fault (m.sum ∷ owed) ts ≡ fault (m.term ∷ m.more_sum ∷ owed) ts
sum_is owed ts = is_then m.term m.sum (m.more_sum ∷ []) refl refl owed ts (sum_same ts)

pub compare_is : (owed : List Symbol) (ts : List Lexeme) → fault (m.compare ∷ owed) ts ≡ fault (m.sum ∷ m.more_compare ∷ owed) ts
compare_is owed ts = is_then m.sum m.compare (m.more_compare ∷ []) refl refl owed ts (compare_same ts)

pub conj_is : (owed : List Symbol) (ts : List Lexeme) → fault (m.conj ∷ owed) ts ≡ fault (m.neg ∷ m.more_conj ∷ owed) ts
conj_is owed ts = is_then m.neg m.conj (m.more_conj ∷ []) refl refl owed ts (conj_same ts)

pub expr_is : (owed : List Symbol) (ts : List Lexeme) → fault (m.expr ∷ owed) ts ≡ fault (m.conj ∷ m.more_expr ∷ owed) ts
expr_is owed ts = is_then m.conj m.expr (m.more_expr ∷ []) refl refl owed ts (expr_same ts)

-- symbols that begin with a mark of their own, or else as another one

not_minus : (k : Word) → (k ≡ word.Mark mark.Minus → ⊥) → takes m.unary k ≡ takes m.prim k
not_minus (word.Mark mark.Minus) h = absurd (h refl)
not_minus _ h = refl

not_not : (k : Word) → (k ≡ word.Mark mark.Not → ⊥) → takes m.neg k ≡ takes m.compare k
not_not (word.Mark mark.Not) h = absurd (h refl)
not_not _ h = refl

no_argument_close : (k : Word) → (k ≡ word.Mark mark.Close → ⊥) → takes m.arguments k ≡ then_more (takes m.expr k) (m.more_arguments ∷ [])
no_argument_close (word.Mark mark.Close) h = absurd (h refl)
no_argument_close _ h = refl

no_type_close : (k : Word) → (k ≡ word.Mark mark.Close → ⊥) → takes m.types k ≡ then_more (takes m.type_ k) (m.more_types ∷ [])
no_type_close (word.Mark mark.Close) h = absurd (h refl)
no_type_close _ h = refl

no_parameter_close : (k : Word) → (k ≡ word.Mark mark.Close → ⊥) → takes m.parameters k ≡ then_more (takes m.parameter k) (m.more_parameters ∷ [])
no_parameter_close (word.Mark mark.Close) h = absurd (h refl)
no_parameter_close _ h = refl

not_else : (k : Word) → (k ≡ word.Mark mark.Else → ⊥) → takes m.else_tail k ≡ takes (m.sign mark.Semicolon) k
not_else (word.Mark mark.Else) h = absurd (h refl)
not_else _ h = refl

not_retry : (k : Word) → (k ≡ word.Mark mark.Retry → ⊥) → takes m.call_tail k ≡ takes m.else_tail k
not_retry (word.Mark mark.Retry) h = absurd (h refl)
not_retry _ h = refl

not_for : (k : Word) → (k ≡ word.Mark mark.For → ⊥) → takes m.wait_tail k ≡ takes (m.sign mark.Semicolon) k
not_for (word.Mark mark.For) h = absurd (h refl)
not_for _ h = refl

not_call : (k : Word) → (k ≡ word.Mark mark.Call → ⊥) → (k ≡ word.Mark mark.Wait → ⊥) → takes m.side k ≡ then_more (takes m.expr k) (m.sign mark.Semicolon ∷ [])
not_call (word.Mark mark.Call) g h = absurd (g refl)
not_call (word.Mark mark.Wait) g h = absurd (h refl)
not_call _ g h = refl

no_branch_opens : (k : Word) → (k ≡ word.Mark mark.BraceOpen → ⊥) → takes m.more_branches k ≡ takes (m.sign mark.BraceClose) k
no_branch_opens (word.Mark mark.BraceOpen) h = absurd (h refl)
no_branch_opens _ h = refl

not_closed : (k : Word) → (k ≡ word.Mark mark.BraceClose → ⊥) → (k ≡ word.Mark mark.If → ⊥) → (k ≡ word.Mark mark.Patch → ⊥) → takes m.statements k ≡ then_more (takes m.statement k) (m.statements ∷ [])
not_closed (word.Mark mark.BraceClose) f g h = absurd (f refl)
not_closed (word.Mark mark.If) f g h = absurd (g refl)
not_closed (word.Mark mark.Patch) f g h = absurd (h refl)
not_closed _ f g h = refl

not_otherwise : (k : Word) → (k ≡ word.Mark mark.Else → ⊥) → takes m.after_choice k ≡ takes m.statements k
not_otherwise (word.Mark mark.Else) h = absurd (h refl)
not_otherwise _ h = refl

not_declaration : (k : Word) → (k ≡ word.Mark mark.Activity → ⊥) → (k ≡ word.Mark mark.Signal → ⊥) → takes m.body k ≡ takes m.statements k
not_declaration (word.Mark mark.Activity) g h = absurd (g refl)
not_declaration (word.Mark mark.Signal) g h = absurd (h refl)
not_declaration _ g h = refl

pub unary_alike : (ts : List Lexeme) → Lacks mark.Minus ts → Alike m.prim m.unary ts
unary_alike [] h = tt
unary_alike (t ∷ ts) h = not_minus t.word h

pub neg_alike : (ts : List Lexeme) → Lacks mark.Not ts → Alike m.compare m.neg ts
neg_alike [] h = tt
neg_alike (t ∷ ts) h = not_not t.word h

pub arguments_same : (ts : List Lexeme) → Lacks mark.Close ts → Same m.expr m.arguments (m.more_arguments ∷ []) ts
arguments_same [] h = tt
arguments_same (t ∷ ts) h = no_argument_close t.word h

pub types_same : (ts : List Lexeme) → Lacks mark.Close ts → Same m.type_ m.types (m.more_types ∷ []) ts
types_same [] h = tt
types_same (t ∷ ts) h = no_type_close t.word h

pub parameters_same : (ts : List Lexeme) → Lacks mark.Close ts → Same m.parameter m.parameters (m.more_parameters ∷ []) ts
parameters_same [] h = tt
parameters_same (t ∷ ts) h = no_parameter_close t.word h

pub else_tail_alike : (ts : List Lexeme) → Lacks mark.Else ts → Alike (m.sign mark.Semicolon) m.else_tail ts
else_tail_alike [] h = tt
else_tail_alike (t ∷ ts) h = not_else t.word h

pub call_tail_alike : (ts : List Lexeme) → Lacks mark.Retry ts → Alike m.else_tail m.call_tail ts
call_tail_alike [] h = tt
call_tail_alike (t ∷ ts) h = not_retry t.word h

pub wait_tail_alike : (ts : List Lexeme) → Lacks mark.For ts → Alike (m.sign mark.Semicolon) m.wait_tail ts
wait_tail_alike [] h = tt
wait_tail_alike (t ∷ ts) h = not_for t.word h

pub side_same : (ts : List Lexeme) → Lacks mark.Call ts → Lacks mark.Wait ts → Same m.expr m.side (m.sign mark.Semicolon ∷ []) ts
side_same [] g h = tt
side_same (t ∷ ts) g h = not_call t.word g h

pub more_branches_alike : (ts : List Lexeme) → Lacks mark.BraceOpen ts → Alike (m.sign mark.BraceClose) m.more_branches ts
more_branches_alike [] h = tt
more_branches_alike (t ∷ ts) h = no_branch_opens t.word h

pub statements_same : (ts : List Lexeme) → Lacks mark.BraceClose ts → Lacks mark.If ts → Lacks mark.Patch ts → Same m.statement m.statements (m.statements ∷ []) ts
statements_same [] f g h = tt
statements_same (t ∷ ts) f g h = not_closed t.word f g h

pub after_choice_alike : (ts : List Lexeme) → Lacks mark.Else ts → Alike m.statements m.after_choice ts
after_choice_alike [] h = tt
after_choice_alike (t ∷ ts) h = not_otherwise t.word h

pub body_alike : (ts : List Lexeme) → Lacks mark.Activity ts → Lacks mark.Signal ts → Alike m.statements m.body ts
body_alike [] g h = tt
body_alike (t ∷ ts) g h = not_declaration t.word g h

-- the machine behind an operator

pub factor_step : (s : TermSign) (at : ℕ) (owed : List Symbol) (x : List Lexeme) → fault (m.more_term ∷ owed) (marked at (term_mark s) ∷ x) ≡ fault (m.unary ∷ m.more_term ∷ owed) x
factor_step times at owed x = refl
factor_step over at owed x = refl
factor_step percent at owed x = refl

pub added_step : (s : SumSign) (at : ℕ) (owed : List Symbol) (x : List Lexeme) → fault (m.more_sum ∷ owed) (marked at (sum_mark s) ∷ x) ≡ fault (m.term ∷ m.more_sum ∷ owed) x
added_step plus at owed x = refl
added_step minus at owed x = refl
added_step join at owed x = refl

pub compared_step : (s : CompareSign) (at : ℕ) (owed : List Symbol) (x : List Lexeme) → fault (m.more_compare ∷ owed) (marked at (compare_mark s) ∷ x) ≡ fault (m.sum ∷ owed) x
compared_step equal at owed x = refl
compared_step differ at owed x = refl
compared_step less at owed x = refl
compared_step at_most at owed x = refl
compared_step greater at owed x = refl
compared_step at_least at owed x = refl

not_and : (k : Word) → (k ≡ word.Mark mark.And → ⊥) → takes m.more_conj k ≡ None
not_and (word.Mark mark.And) h = absurd (h refl)
not_and _ h = refl

not_or : (k : Word) → (k ≡ word.Mark mark.Or → ⊥) → takes m.more_expr k ≡ None
not_or (word.Mark mark.Or) h = absurd (h refl)
not_or _ h = refl

pub past_and : (ts : List Lexeme) → Lacks mark.And ts → Past m.more_conj ts
past_and [] h = tt
past_and (t ∷ ts) h = not_and t.word h

pub past_or : (ts : List Lexeme) → Lacks mark.Or ts → Past m.more_expr ts
past_or [] h = tt
past_or (t ∷ ts) h = not_or t.word h

-- the machine behind a mark that has a list of statements

pub else_step : (at : ℕ) (owed : List Symbol) (x : List Lexeme) → fault (m.else_tail ∷ owed) (marked at mark.Else ∷ x) ≡ fault (m.sign mark.BraceOpen ∷ m.statements ∷ m.sign mark.Semicolon ∷ owed) x
else_step at owed x = refl

pub retry_step : (at : ℕ) (owed : List Symbol) (x : List Lexeme) → fault (m.call_tail ∷ owed) (marked at mark.Retry ∷ x) ≡ fault (m.number ∷ m.sign mark.Every ∷ m.number ∷ m.else_tail ∷ owed) x
retry_step at owed x = refl

pub for_step : (at : ℕ) (owed : List Symbol) (x : List Lexeme) → fault (m.wait_tail ∷ owed) (marked at mark.For ∷ x) ≡ fault (m.expr ∷ m.sign mark.Else ∷ m.sign mark.BraceOpen ∷ m.statements ∷ m.sign mark.Semicolon ∷ owed) x
for_step at owed x = refl

pub while_step : (at : ℕ) (owed : List Symbol) (x : List Lexeme) → fault (m.statement ∷ owed) (marked at mark.While ∷ x) ≡ fault (m.expr ∷ m.sign mark.BraceOpen ∷ m.statements ∷ owed) x
while_step at owed x = refl

pub parallel_step : (at : ℕ) (owed : List Symbol) (x : List Lexeme) → fault (m.statement ∷ owed) (marked at mark.Parallel ∷ x) ≡ fault (m.sign mark.BraceOpen ∷ m.sign mark.BraceOpen ∷ m.statements ∷ m.more_branches ∷ owed) x
parallel_step at owed x = refl

pub branch_step : (at : ℕ) (owed : List Symbol) (x : List Lexeme) → fault (m.more_branches ∷ owed) (marked at mark.BraceOpen ∷ x) ≡ fault (m.statements ∷ m.more_branches ∷ owed) x
branch_step at owed x = refl

pub branches_end : (at : ℕ) (owed : List Symbol) (x : List Lexeme) → fault (m.more_branches ∷ owed) (marked at mark.BraceClose ∷ x) ≡ fault owed x
branches_end at owed x = refl

pub if_step : (at : ℕ) (owed : List Symbol) (x : List Lexeme) → fault (m.statements ∷ owed) (marked at mark.If ∷ x) ≡ fault (m.expr ∷ m.sign mark.BraceOpen ∷ m.statements ∷ m.after_choice ∷ owed) x
if_step at owed x = refl

pub patch_step : (at : ℕ) (owed : List Symbol) (x : List Lexeme) → fault (m.statements ∷ owed) (marked at mark.Patch ∷ x) ≡ fault (m.patch_id ∷ m.sign mark.BraceOpen ∷ m.statements ∷ m.after_choice ∷ owed) x
patch_step at owed x = refl

pub otherwise_step : (at : ℕ) (owed : List Symbol) (x : List Lexeme) → fault (m.after_choice ∷ owed) (marked at mark.Else ∷ x) ≡ fault (m.sign mark.BraceOpen ∷ m.statements ∷ m.statements ∷ owed) x
otherwise_step at owed x = refl

-- the same where the mark isn't there

pub else_tail_is : (owed : List Symbol) (ts : List Lexeme) → Lacks mark.Else ts → fault (m.else_tail ∷ owed) ts ≡ fault (m.sign mark.Semicolon ∷ owed) ts
else_tail_is owed ts h = is_alike (m.sign mark.Semicolon) m.else_tail refl refl owed ts (else_tail_alike ts h)

pub call_tail_is : (owed : List Symbol) (ts : List Lexeme) → Lacks mark.Retry ts → fault (m.call_tail ∷ owed) ts ≡ fault (m.else_tail ∷ owed) ts
call_tail_is owed ts h = is_alike m.else_tail m.call_tail refl refl owed ts (call_tail_alike ts h)

pub wait_tail_is : (owed : List Symbol) (ts : List Lexeme) → Lacks mark.For ts → fault (m.wait_tail ∷ owed) ts ≡ fault (m.sign mark.Semicolon ∷ owed) ts
wait_tail_is owed ts h = is_alike (m.sign mark.Semicolon) m.wait_tail refl refl owed ts (wait_tail_alike ts h)

pub more_branches_is : (owed : List Symbol) (ts : List Lexeme) → Lacks mark.BraceOpen ts → fault (m.more_branches ∷ owed) ts ≡ fault (m.sign mark.BraceClose ∷ owed) ts
more_branches_is owed ts h = is_alike (m.sign mark.BraceClose) m.more_branches refl refl owed ts (more_branches_alike ts h)

pub statements_is : (owed : List Symbol) (ts : List Lexeme) → Lacks mark.BraceClose ts → Lacks mark.If ts → Lacks mark.Patch ts → fault (m.statements ∷ owed) ts ≡ fault (m.statement ∷ m.statements ∷ owed) ts
statements_is owed ts f g h = is_then m.statement m.statements (m.statements ∷ []) refl refl owed ts (statements_same ts f g h)

pub after_choice_is : (owed : List Symbol) (ts : List Lexeme) → Lacks mark.Else ts → fault (m.after_choice ∷ owed) ts ≡ fault (m.statements ∷ owed) ts
after_choice_is owed ts h = is_alike m.statements m.after_choice refl refl owed ts (after_choice_alike ts h)

-- the id of a patch

pub patch_id_step : (at : ℕ) (id : Bytes) (owed : List Symbol) (x : List Lexeme) → IsTrue (is_patch_id id) → fault (m.patch_id ∷ owed) (worded at id ∷ x) ≡ fault owed x
patch_id_step at id owed x h = rw h refl

---- Behind the name that a statement begins with

deprecate_self : bytes_eq deprecate_name deprecate_name ≡ true
deprecate_self = (bytes_decides deprecate_name deprecate_name).1 refl

text_by : (a b : Bool) → a ≡ true → cond (a && b) (Some (m.sign mark.Semicolon ∷ [])) None ≡ then_more (cond b (Some []) None) (m.sign mark.Semicolon ∷ [])
text_by true true e = refl
text_by true false e = refl
text_by false b e = absurd (cc)

text_takes : (k : Word) → IsText k → takes (m.after_name deprecate_name) k ≡ then_more (takes m.patch_id k) (m.sign mark.Semicolon ∷ [])
text_takes (word.Text t) h = text_by (bytes_eq deprecate_name deprecate_name) (is_patch_id t) deprecate_self
text_takes (word.Name x) h = absurd h
text_takes (word.Int n) h = absurd h
text_takes (word.Mark k) h = absurd h

text_same : (ts : List Lexeme) → BeginsText ts → Same m.patch_id (m.after_name deprecate_name) (m.sign mark.Semicolon ∷ []) ts
text_same [] h = tt
text_same (t ∷ ts) h = text_takes t.word h

-- behind that of a `deprecate`, an id and a semicolon
pub deprecate_is : (owed : List Symbol) (ts : List Lexeme) → BeginsText ts → fault (m.after_name deprecate_name ∷ owed) ts ≡ fault (m.patch_id ∷ m.sign mark.Semicolon ∷ owed) ts
deprecate_is owed ts h = is_then m.patch_id (m.after_name deprecate_name) (m.sign mark.Semicolon ∷ []) refl refl owed ts (text_same ts h)

pub deprecate_step : (at : ℕ) (id : Bytes) (owed : List Symbol) (x : List Lexeme) → IsTrue (is_patch_id id)
    → fault (m.after_name deprecate_name ∷ owed) (worded at id ∷ x) ≡ fault (m.sign mark.Semicolon ∷ owed) x
deprecate_step at id owed x h = deprecate_is owed (worded at id ∷ x) tt ∙ patch_id_step at id (m.sign mark.Semicolon ∷ owed) x h

assign_text : (a b : Bool) → (a && true) ≡ false → cond (a && b) (Some (m.sign mark.Semicolon ∷ [])) None ≡ None
assign_text false b e = refl
assign_text true b e = absurd (cc)

assign_takes : (x : Bytes) (k : Word) → (bytes_eq x deprecate_name && is_text k) ≡ false → takes (m.after_name x) k ≡ then_more (takes (m.sign mark.Assign) k) (m.side ∷ [])
assign_takes x (word.Mark mark.Assign) h = refl
assign_takes x (word.Text t) h = assign_text (bytes_eq x deprecate_name) (is_patch_id t) h
assign_takes x _ h = refl

assign_same : (at : ℕ) (x : Bytes) (ts : List Lexeme) → begins_deprecate (named at x ∷ ts) ≡ false → Same (m.sign mark.Assign) (m.after_name x) (m.side ∷ []) ts
assign_same at x [] h = tt
assign_same at x (t ∷ ts) h = assign_takes x t.word h

-- behind that of another statement, a `=` and what it gets
pub assign_is : (at : ℕ) (x : Bytes) (owed : List Symbol) (ts : List Lexeme) → begins_deprecate (named at x ∷ ts) ≡ false → fault (m.after_name x ∷ owed) ts ≡ fault (m.sign mark.Assign ∷ m.side ∷ owed) ts
assign_is at x owed ts h = is_then (m.sign mark.Assign) (m.after_name x) (m.side ∷ []) refl refl owed ts (assign_same at x ts h)

---- The id of a patch

no_text : (k : Word) → ((id : Bytes) → k ≡ word.Text id → ⊥) → takes m.patch_id k ≡ None
no_text (word.Text id) h = absurd (h id refl)
no_text _ h = refl

-- the tokens do not begin with a text
abbrev pub LacksText : List Lexeme → Type 0
LacksText [] = Unit {0}
LacksText (t ∷ ts) = (id : Bytes) → t.word ≡ word.Text id → ⊥

pub past_text : (ts : List Lexeme) → LacksText ts → Past m.patch_id ts
past_text [] h = tt
past_text (t ∷ ts) h = no_text t.word h

pub past_long_id : (at : ℕ) (id : Bytes) (x : List Lexeme) → is_patch_id id ≡ false → Past m.patch_id (worded at id ∷ x)
past_long_id at id x h = rw h refl

-- the machine stops at tokens that the symbol does not begin with
pub stops_past : (s : Symbol) → may_be_nothing s ≡ false → (owed : List Symbol) (ts : List Lexeme) → Past s ts → fault (s ∷ owed) ts ≡ Some (length ts)
stops_past s h owed [] p = rw h refl
stops_past s h owed (t ∷ ts) p = rw (p, h) refl
