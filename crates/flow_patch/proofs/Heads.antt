-- What is the same up to places: the tests, and equality without places.
use Rattle.std.proofs.Common.{◌≡◌, ℕ, List, [], ◌∷◌, map, refl, sym, ap, ◌∙◌, Bool, true, false, nat_eq, pos, negsuc, ℤ, slice_index_or}
use Rattle.std.specs.Prelude.{bytes_eq, ◌&&◌}
use Rattle.std.specs.Cmp.Lexicographic.{bytes_decides}
use Rattle.std.proofs.lemmas.Bool.{true≢false, eqb-true, eq-eqb}
use Rattle.flow_base.specs.Syntax.{Bytes, Expression, Number, Literal, Variable, Now, Apply, Combine, Statement, Let, Assign, Call, WaitSignal, WaitSignalFor, Sleep, If, While, Parallel, Patch, Deprecate, Return, FailWith, Continue, Otherwise, NoElse, Else, Declared, Activity, Signal}
use Rattle.flow_base.specs.Bare.{bare_expression, bare_retry, bare_statement, bare_block, bare_otherwise, bare_branches, bare_parameter, bare_type, bare_declared}
use Rattle.flow_base.specs.declared.value.Kind.{Kind}
use Rattle.flow_base.specs.declared.value.Kind.TheVariants as kind
use Rattle.flow_base.specs.declared.syntax.Unary.{Unary}
use Rattle.flow_base.specs.declared.syntax.Unary.TheVariants as unary
use Rattle.flow_base.specs.declared.syntax.Binary.{Binary}
use Rattle.flow_base.specs.declared.syntax.Binary.TheVariants as binary
use Rattle.flow_base.specs.declared.syntax.Retry.{Retry}
use Rattle.flow_base.specs.declared.syntax.Parameter.{Parameter}
use Rattle.flow_base.specs.declared.syntax.TypeAt.{TypeAt}
use Rattle.flow_model.specs.Values.{int_same}
use Rattle.flow_model.specs.WellFormed.{is_kind}
use Rattle.flow_patch.specs.Difference.{unary_number, binary_number, same_expression, same_expressions, same_retry, has_else, same_flag, same_head, else_list, first_list, second_list, branches_in, same_parameter, same_types, same_declared}
use Rattle.flow_patch.proofs.Normal.{both}

and_true : (a b : Bool) → a ≡ true → b ≡ true → (a && b) ≡ true
and_true true b e h = h
and_true false b e h = absurd (true≢false (sym e))

pub bytes_same : (x y : Bytes) → bytes_eq x y ≡ true → x ≡ y
bytes_same x y e = (bytes_decides x y).0 e

pub bytes_self : (x : Bytes) → bytes_eq x x ≡ true
bytes_self x = (bytes_decides x x).1 refl

ints_same : (z w : ℤ) → int_same z w ≡ true → z ≡ w
ints_same (pos a) (pos b) e = ap pos (eqb-true a b e)
ints_same (pos a) (negsuc b) e = absurd (true≢false (sym e))
ints_same (negsuc a) (pos b) e = absurd (true≢false (sym e))
ints_same (negsuc a) (negsuc b) e = ap negsuc (eqb-true a b e)

int_self : (z : ℤ) → int_same z z ≡ true
int_self (pos a) = eq-eqb a a refl
int_self (negsuc a) = eq-eqb a a refl

unary_of : ℕ → Unary
unary_of n = slice_index_or (unary.Not ∷ unary.Negate ∷ unary.TextOf ∷ unary.Length ∷ []) n unary.Not

unary_back : (op : Unary) → unary_of (unary_number op) ≡ op
unfolding unary_of
unary_back unary.Not = refl
unary_back unary.Negate = refl
unary_back unary.TextOf = refl
unary_back unary.Length = refl

binary_of : ℕ → Binary
binary_of n =
    slice_index_or (binary.Or ∷ binary.And ∷ binary.Equal ∷ binary.Differ ∷ binary.Less ∷ binary.AtMost ∷ binary.Greater ∷ binary.AtLeast
    ∷ binary.Add ∷ binary.Subtract ∷ binary.Join ∷ binary.Multiply ∷ binary.Divide ∷ binary.Remain ∷ []) n binary.Or

binary_back : (op : Binary) → binary_of (binary_number op) ≡ op
unfolding binary_of
binary_back binary.Or = refl
binary_back binary.And = refl
binary_back binary.Equal = refl
binary_back binary.Differ = refl
binary_back binary.Less = refl
binary_back binary.AtMost = refl
binary_back binary.Greater = refl
binary_back binary.AtLeast = refl
binary_back binary.Add = refl
binary_back binary.Subtract = refl
binary_back binary.Join = refl
binary_back binary.Multiply = refl
binary_back binary.Divide = refl
binary_back binary.Remain = refl

unaries_same : (a b : Unary) → nat_eq (unary_number a) (unary_number b) ≡ true → a ≡ b
unaries_same a b e = sym (unary_back a) ∙ ap unary_of (eqb-true (unary_number a) (unary_number b) e) ∙ unary_back b

binaries_same : (a b : Binary) → nat_eq (binary_number a) (binary_number b) ≡ true → a ≡ b
binaries_same a b e = sym (binary_back a) ∙ ap binary_of (eqb-true (binary_number a) (binary_number b) e) ∙ binary_back b

pub kinds_same : (j k : Kind) → is_kind j k ≡ true → j ≡ k
kinds_same kind.Int kind.Int e = refl
kinds_same kind.Int kind.Text e = absurd (true≢false (sym e))
kinds_same kind.Text kind.Int e = absurd (true≢false (sym e))
kinds_same kind.Text kind.Text e = refl

pub kind_self : (k : Kind) → is_kind k k ≡ true
kind_self kind.Int = refl
kind_self kind.Text = refl

expressions_alike : (e d : Expression) → same_expression e d ≡ true → bare_expression e ≡ bare_expression d
expressions_alike (Number at z) (Number at' w) h = ap (Number 0) (ints_same z w h)
expressions_alike (Literal at t) (Literal at' u) h = ap (Literal 0) (bytes_same t u h)
expressions_alike (Variable at x) (Variable at' y) h = ap (Variable 0) (bytes_same x y h)
expressions_alike (Now at) (Now at') h = refl
expressions_alike (Apply at op a) (Apply at' op' b) h =
    let s = both (nat_eq (unary_number op) (unary_number op')) (same_expression a b) h in
    ap (λ o. Apply 0 o (bare_expression a)) (unaries_same op op' s.0) ∙ ap (Apply 0 op') (expressions_alike a b s.1)
expressions_alike (Combine op a b) (Combine op' c d) h =
    let s = both (nat_eq (binary_number op) (binary_number op')) (same_expression a c && same_expression b d) h in
    let t = both (same_expression a c) (same_expression b d) s.1 in
    ap (λ o. Combine o (bare_expression a) (bare_expression b)) (binaries_same op op' s.0)
    ∙ ap (λ x. Combine op' x (bare_expression b)) (expressions_alike a c t.0) ∙ ap (Combine op' (bare_expression c)) (expressions_alike b d t.1)
expressions_alike e d h = absurd (true≢false (sym h))

lists_alike : (es ds : List Expression) → same_expressions es ds ≡ true → map bare_expression es ≡ map bare_expression ds
lists_alike [] [] h = refl
lists_alike [] (d ∷ ds) h = absurd (true≢false (sym h))
lists_alike (e ∷ es) [] h = absurd (true≢false (sym h))
lists_alike (e ∷ es) (d ∷ ds) h =
    let s = both (same_expression e d) (same_expressions es ds) h in
    ap (λ x. x ∷ map bare_expression es) (expressions_alike e d s.0) ∙ ap (λ xs. bare_expression d ∷ xs) (lists_alike es ds s.1)

retries_alike : (r q : Retry) → same_retry r q ≡ true → bare_retry r ≡ bare_retry q
retries_alike r q h =
    let s = both (nat_eq r.tries q.tries) (nat_eq r.every q.every) h in
    ap (λ n. record { tries_at = 0; tries = n; every_at = 0; every = r.every }) (eqb-true r.tries q.tries s.0)
    ∙ ap (λ n. record { tries_at = 0; tries = q.tries; every_at = 0; every = n }) (eqb-true r.every q.every s.1)

-- the tests hold of what is equal without places
expression_self : (e : Expression) → same_expression e e ≡ true
expression_self (Number at z) = int_self z
expression_self (Literal at t) = bytes_self t
expression_self (Variable at x) = bytes_self x
expression_self (Now at) = refl
expression_self (Apply at op a) =
    and_true (nat_eq (unary_number op) (unary_number op)) (same_expression a a) (eq-eqb (unary_number op) (unary_number op) refl) (expression_self a)
expression_self (Combine op a b) =
    and_true (nat_eq (binary_number op) (binary_number op)) (same_expression a a && same_expression b b) (eq-eqb (binary_number op) (binary_number op) refl)
    (and_true (same_expression a a) (same_expression b b) (expression_self a) (expression_self b))

bare_same : (e d : Expression) → same_expression (bare_expression e) (bare_expression d) ≡ same_expression e d
bare_same (Number at z) (Number at' w) = refl
bare_same (Literal at t) (Literal at' u) = refl
bare_same (Variable at x) (Variable at' y) = refl
bare_same (Now at) (Now at') = refl
bare_same (Apply at op a) (Apply at' op' b) = ap (λ x. nat_eq (unary_number op) (unary_number op') && x) (bare_same a b)
bare_same (Combine op a b) (Combine op' c d) =
    ap (λ x. nat_eq (binary_number op) (binary_number op') && (x && same_expression (bare_expression b) (bare_expression d))) (bare_same a c)
    ∙ ap (λ x. nat_eq (binary_number op) (binary_number op') && (same_expression a c && x)) (bare_same b d)
bare_same e d = refl

same_expressions_by : (e d : Expression) → bare_expression e ≡ bare_expression d → same_expression e d ≡ true
same_expressions_by e d h = sym (bare_same e d) ∙ ap (λ x. same_expression x (bare_expression d)) h ∙ expression_self (bare_expression d)

list_self : (es : List Expression) → same_expressions es es ≡ true
list_self [] = refl
list_self (e ∷ es) = and_true (same_expression e e) (same_expressions es es) (expression_self e) (list_self es)

bare_lists : (es ds : List Expression) → same_expressions (map bare_expression es) (map bare_expression ds) ≡ same_expressions es ds
bare_lists [] [] = refl
bare_lists [] (d ∷ ds) = refl
bare_lists (e ∷ es) [] = refl
bare_lists (e ∷ es) (d ∷ ds) =
    ap (λ x. x && same_expressions (map bare_expression es) (map bare_expression ds)) (bare_same e d) ∙ ap (λ x. same_expression e d && x) (bare_lists es ds)

retry_self : (r : Retry) → same_retry r r ≡ true
retry_self r = and_true (nat_eq r.tries r.tries) (nat_eq r.every r.every) (eq-eqb r.tries r.tries refl) (eq-eqb r.every r.every refl)

flag_self : (b : Bool) → same_flag b b ≡ true
flag_self true = refl
flag_self false = refl

bare_else : (o : Otherwise) → has_else (bare_otherwise o) ≡ has_else o
bare_else NoElse = refl
bare_else (Else b end) = refl

pub head_self : (s : Statement) → same_head s s ≡ true
head_self (Let at name_at x e) = and_true (bytes_eq x x) (same_expression e e) (bytes_self x) (expression_self e)
head_self (Assign at x e) = and_true (bytes_eq x x) (same_expression e e) (bytes_self x) (expression_self e)
head_self (Call at x activity_at a es r o) =
    let last = and_true (same_retry r r) (same_flag (has_else o) (has_else o)) (retry_self r) (flag_self (has_else o)) in
    let more = and_true (same_expressions es es) (same_retry r r && same_flag (has_else o) (has_else o)) (list_self es) last in
    and_true (bytes_eq x x) (bytes_eq a a && (same_expressions es es && (same_retry r r && same_flag (has_else o) (has_else o)))) (bytes_self x)
    (and_true (bytes_eq a a) (same_expressions es es && (same_retry r r && same_flag (has_else o) (has_else o))) (bytes_self a) more)
head_self (WaitSignal at x signal_at n) = and_true (bytes_eq x x) (bytes_eq n n) (bytes_self x) (bytes_self n)
head_self (WaitSignalFor at x signal_at n e b end) =
    and_true (bytes_eq x x) (bytes_eq n n && same_expression e e) (bytes_self x) (and_true (bytes_eq n n) (same_expression e e) (bytes_self n) (expression_self e))
head_self (Sleep at e) = expression_self e
head_self (If at e a a_end b b_end) = expression_self e
head_self (While at e b end) = expression_self e
head_self (Parallel at bs end) = refl
head_self (Patch at id_at id a a_end b b_end) = bytes_self id
head_self (Deprecate at id_at id) = bytes_self id
head_self (Return at e) = expression_self e
head_self (FailWith at e) = expression_self e
head_self (Continue at es) = list_self es

pub bare_head : (s s' : Statement) → same_head (bare_statement s) (bare_statement s') ≡ same_head s s'
bare_head (Let at name_at x e) (Let at' name_at' y d) = ap (λ b. bytes_eq x y && b) (bare_same e d)
bare_head (Assign at x e) (Assign at' y d) = ap (λ b. bytes_eq x y && b) (bare_same e d)
bare_head (Call at x activity_at a es r o) (Call at' y activity_at' b ds q u) =
    ap (λ h. bytes_eq x y && (bytes_eq a b && (h && (same_retry r q && same_flag (has_else (bare_otherwise o)) (has_else (bare_otherwise u)))))) (bare_lists es ds)
    ∙ ap (λ h. bytes_eq x y && (bytes_eq a b && (same_expressions es ds && (same_retry r q && same_flag h (has_else (bare_otherwise u)))))) (bare_else o)
    ∙ ap (λ h. bytes_eq x y && (bytes_eq a b && (same_expressions es ds && (same_retry r q && same_flag (has_else o) h)))) (bare_else u)
bare_head (WaitSignal at x signal_at n) (WaitSignal at' y signal_at' m) = refl
bare_head (Parallel at bs end) (Parallel at' cs end') = refl
bare_head (Patch at id_at i l l_end k k_end) (Patch at' id_at' j l' l_end' k' k_end') = refl
bare_head (Deprecate at id_at i) (Deprecate at' id_at' j) = refl
bare_head (WaitSignalFor at x signal_at n e b end) (WaitSignalFor at' y signal_at' m d c end') = ap (λ h. bytes_eq x y && (bytes_eq n m && h)) (bare_same e d)
bare_head (Sleep at e) (Sleep at' d) = bare_same e d
bare_head (If at e a a_end b b_end) (If at' d a' a_end' b' b_end') = bare_same e d
bare_head (While at e b end) (While at' d b' end') = bare_same e d
bare_head (Return at e) (Return at' d) = bare_same e d
bare_head (FailWith at e) (FailWith at' d) = bare_same e d
bare_head (Continue at es) (Continue at' ds) = bare_lists es ds
bare_head s s' = refl

pub head_by : (s s' : Statement) → bare_statement s ≡ bare_statement s' → same_head s s' ≡ true
head_by s s' h = sym (bare_head s s') ∙ ap (λ x. same_head x (bare_statement s')) h ∙ head_self (bare_statement s')

-- the lists within a statement without places
bare_else_list : (o : Otherwise) → else_list (bare_otherwise o) ≡ bare_block (else_list o)
bare_else_list NoElse = refl
bare_else_list (Else b end) = refl

pub bare_first : (s : Statement) → first_list (bare_statement s) ≡ bare_block (first_list s)
bare_first (Call at x activity_at a es r o) = bare_else_list o
bare_first s = refl

pub bare_second : (s : Statement) → second_list (bare_statement s) ≡ bare_block (second_list s)
bare_second (If at e a a_end b b_end) = refl
bare_second s = refl

pub bare_beside : (s : Statement) → branches_in (bare_statement s) ≡ bare_branches (branches_in s)
bare_beside (Parallel at bs end) = refl
bare_beside s = refl

-- a call's `else`, by whether it is there and its list
otherwise_alike : (o u : Otherwise) → same_flag (has_else o) (has_else u) ≡ true → bare_block (else_list o) ≡ bare_block (else_list u) → bare_otherwise o ≡ bare_otherwise u
otherwise_alike NoElse NoElse h e = refl
otherwise_alike NoElse (Else c end) h e = absurd (true≢false (sym h))
otherwise_alike (Else b end) NoElse h e = absurd (true≢false (sym h))
otherwise_alike (Else b end) (Else c end') h e = ap (λ x. Else x 0) e

-- Statements with one head and the same lists are the same.
pub statements_alike : (s s' : Statement) → same_head s s' ≡ true → bare_block (first_list s) ≡ bare_block (first_list s') → bare_block (second_list s) ≡ bare_block (second_list s') → bare_branches (branches_in s) ≡ bare_branches (branches_in s') → bare_statement s ≡ bare_statement s'
statements_alike (Let at name_at x e) (Let at' name_at' y d) h a b c =
    let s = both (bytes_eq x y) (same_expression e d) h in
    ap (λ z. Let 0 0 z (bare_expression e)) (bytes_same x y s.0) ∙ ap (Let 0 0 y) (expressions_alike e d s.1)
statements_alike (Assign at x e) (Assign at' y d) h a b c =
    let s = both (bytes_eq x y) (same_expression e d) h in
    ap (λ z. Assign 0 z (bare_expression e)) (bytes_same x y s.0) ∙ ap (Assign 0 y) (expressions_alike e d s.1)
statements_alike (Call at x activity_at n es r o) (Call at' y activity_at' m ds q u) h a b c =
    let s = both (bytes_eq x y) (bytes_eq n m && (same_expressions es ds && (same_retry r q && same_flag (has_else o) (has_else u)))) h in
    let t = both (bytes_eq n m) (same_expressions es ds && (same_retry r q && same_flag (has_else o) (has_else u))) s.1 in
    let v = both (same_expressions es ds) (same_retry r q && same_flag (has_else o) (has_else u)) t.1 in
    let w = both (same_retry r q) (same_flag (has_else o) (has_else u)) v.1 in
    ap (λ z. Call 0 z 0 n (map bare_expression es) (bare_retry r) (bare_otherwise o)) (bytes_same x y s.0)
    ∙ ap (λ z. Call 0 y 0 z (map bare_expression es) (bare_retry r) (bare_otherwise o)) (bytes_same n m t.0)
    ∙ ap (λ z. Call 0 y 0 m z (bare_retry r) (bare_otherwise o)) (lists_alike es ds v.0)
    ∙ ap (λ z. Call 0 y 0 m (map bare_expression ds) z (bare_otherwise o)) (retries_alike r q w.0)
    ∙ ap (Call 0 y 0 m (map bare_expression ds) (bare_retry q)) (otherwise_alike o u w.1 a)
statements_alike (WaitSignal at x signal_at n) (WaitSignal at' y signal_at' m) h a b c =
    let s = both (bytes_eq x y) (bytes_eq n m) h in
    ap (λ z. WaitSignal 0 z 0 n) (bytes_same x y s.0) ∙ ap (WaitSignal 0 y 0) (bytes_same n m s.1)
statements_alike (WaitSignalFor at x signal_at n e l end) (WaitSignalFor at' y signal_at' m d l' end') h a b c =
    let s = both (bytes_eq x y) (bytes_eq n m && same_expression e d) h in
    let t = both (bytes_eq n m) (same_expression e d) s.1 in
    ap (λ z. WaitSignalFor 0 z 0 n (bare_expression e) (bare_block l) 0) (bytes_same x y s.0)
    ∙ ap (λ z. WaitSignalFor 0 y 0 z (bare_expression e) (bare_block l) 0) (bytes_same n m t.0)
    ∙ ap (λ z. WaitSignalFor 0 y 0 m z (bare_block l) 0) (expressions_alike e d t.1) ∙ ap (λ z. WaitSignalFor 0 y 0 m (bare_expression d) z 0) a
statements_alike (Sleep at e) (Sleep at' d) h a b c = ap (Sleep 0) (expressions_alike e d h)
statements_alike (If at e l l_end k k_end) (If at' d l' l_end' k' k_end') h a b c =
    ap (λ z. If 0 z (bare_block l) 0 (bare_block k) 0) (expressions_alike e d h) ∙ ap (λ z. If 0 (bare_expression d) z 0 (bare_block k) 0) a
    ∙ ap (λ z. If 0 (bare_expression d) (bare_block l') 0 z 0) b
statements_alike (While at e l end) (While at' d l' end') h a b c =
    ap (λ z. While 0 z (bare_block l) 0) (expressions_alike e d h) ∙ ap (λ z. While 0 (bare_expression d) z 0) a
statements_alike (Parallel at bs end) (Parallel at' cs end') h a b c = ap (λ z. Parallel 0 z 0) c
statements_alike (Patch at id_at i l l_end k k_end) (Patch at' id_at' j l' l_end' k' k_end') h a b c =
    ap (λ z. Patch 0 0 z (bare_block l) 0 (bare_block k) 0) (bytes_same i j h) ∙ ap (λ z. Patch 0 0 j z 0 (bare_block k) 0) a
    ∙ ap (λ z. Patch 0 0 j (bare_block l') 0 z 0) b
statements_alike (Deprecate at id_at i) (Deprecate at' id_at' j) h a b c = ap (Deprecate 0 0) (bytes_same i j h)
statements_alike (Return at e) (Return at' d) h a b c = ap (Return 0) (expressions_alike e d h)
statements_alike (FailWith at e) (FailWith at' d) h a b c = ap (FailWith 0) (expressions_alike e d h)
statements_alike (Continue at es) (Continue at' ds) h a b c = ap (Continue 0) (lists_alike es ds h)
statements_alike s s' h a b c = absurd (true≢false (sym h))

-- parameters and declarations
pub parameters_alike : (p q : Parameter) → same_parameter p q ≡ true → bare_parameter p ≡ bare_parameter q
parameters_alike p q h =
    let s = both (bytes_eq p.name q.name) (is_kind p.kind q.kind) h in
    ap (λ x. record { at = 0; name = x; kind = p.kind }) (bytes_same p.name q.name s.0)
    ∙ ap (λ x. record { at = 0; name = q.name; kind = x }) (kinds_same p.kind q.kind s.1)

pub parameter_self : (p q : Parameter) → bare_parameter p ≡ bare_parameter q → same_parameter p q ≡ true
parameter_self p q h =
    ap (λ (x : Parameter). same_parameter x (bare_parameter q)) h
    ∙ and_true (bytes_eq q.name q.name) (is_kind q.kind q.kind) (bytes_self q.name) (kind_self q.kind)

types_alike : (ts us : List TypeAt) → same_types ts us ≡ true → map bare_type ts ≡ map bare_type us
types_alike [] [] h = refl
types_alike [] (u ∷ us) h = absurd (true≢false (sym h))
types_alike (t ∷ ts) [] h = absurd (true≢false (sym h))
types_alike (t ∷ ts) (u ∷ us) h =
    let s = both (is_kind t.kind u.kind) (same_types ts us) h in
    ap (λ k. record { at = 0; kind = k } ∷ map bare_type ts) (kinds_same t.kind u.kind s.0) ∙ ap (λ xs. bare_type u ∷ xs) (types_alike ts us s.1)

types_self : (ts : List TypeAt) → same_types ts ts ≡ true
types_self [] = refl
types_self (t ∷ ts) = and_true (is_kind t.kind t.kind) (same_types ts ts) (kind_self t.kind) (types_self ts)

bare_types : (ts us : List TypeAt) → same_types (map bare_type ts) (map bare_type us) ≡ same_types ts us
bare_types [] [] = refl
bare_types [] (u ∷ us) = refl
bare_types (t ∷ ts) [] = refl
bare_types (t ∷ ts) (u ∷ us) = ap (λ b. is_kind t.kind u.kind && b) (bare_types ts us)

pub declared_alike : (d e : Declared) → same_declared d e ≡ true → bare_declared d ≡ bare_declared e
declared_alike (Activity at name_at n takes gives) (Activity at' name_at' m takes' gives') h =
    let s = both (bytes_eq n m) (same_types takes takes' && is_kind gives gives') h in
    let t = both (same_types takes takes') (is_kind gives gives') s.1 in
    ap (λ x. Activity 0 0 x (map bare_type takes) gives) (bytes_same n m s.0) ∙ ap (λ x. Activity 0 0 m x gives) (types_alike takes takes' t.0)
    ∙ ap (Activity 0 0 m (map bare_type takes')) (kinds_same gives gives' t.1)
declared_alike (Signal at name_at n carries) (Signal at' name_at' m carries') h =
    let s = both (bytes_eq n m) (is_kind carries carries') h in
    ap (λ x. Signal 0 0 x carries) (bytes_same n m s.0) ∙ ap (Signal 0 0 m) (kinds_same carries carries' s.1)
declared_alike d e h = absurd (true≢false (sym h))

declared_self : (d : Declared) → same_declared d d ≡ true
declared_self (Activity at name_at n takes gives) =
    and_true (bytes_eq n n) (same_types takes takes && is_kind gives gives) (bytes_self n) (and_true (same_types takes takes) (is_kind gives gives) (types_self takes) (kind_self gives))
declared_self (Signal at name_at n carries) = and_true (bytes_eq n n) (is_kind carries carries) (bytes_self n) (kind_self carries)

bare_declareds : (d e : Declared) → same_declared (bare_declared d) (bare_declared e) ≡ same_declared d e
bare_declareds (Activity at name_at n takes gives) (Activity at' name_at' m takes' gives') = ap (λ b. bytes_eq n m && (b && is_kind gives gives')) (bare_types takes takes')
bare_declareds (Signal at name_at n carries) (Signal at' name_at' m carries') = refl
bare_declareds d e = refl

pub declared_by : (d e : Declared) → bare_declared d ≡ bare_declared e → same_declared d e ≡ true
declared_by d e h = sym (bare_declareds d e) ∙ ap (λ x. same_declared x (bare_declared e)) h ∙ declared_self (bare_declared e)
