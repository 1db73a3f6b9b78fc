-- Expressions, arguments and calls: which faults are noted.
use Rattle.std.proofs.Common.{◌≡◌, ℕ, ◌+◌, ◌<◌, ◌≤◌, zero, suc, List, [], ◌∷◌, ◌++◌, length, map, drop, get_or, slice_get, Option, refl, sym, ap, ◌∙◌, append_assoc, add-one, drop-cons}
use Rattle.std.proofs.lemmas.List.{append-nil}
use Rattle.std.proofs.Math.ListN.{drop_of_length-le}
use Rattle.std.proofs.Math.Seq.{drop-length}
use Rattle.flow_base.specs.declared.code.Code.{Code}
use Rattle.flow_base.specs.declared.command.TextFault.{TextFault}
use Rattle.flow_base.specs.declared.syntax.TypeAt.{TypeAt}
use Rattle.flow_base.specs.declared.syntax.Expr.{Expr}
use Rattle.flow_base.specs.declared.syntax.Unary.{Unary}
use Rattle.flow_base.specs.declared.syntax.Binary.{Binary}
use Rattle.flow_base.specs.declared.value.Kind.{Kind}
use Rattle.flow_base.specs.declared.syntax.Branch.{Branch}
use Rattle.flow_base.specs.Shown.{shown_expr, shown_branch, branches_of}
use Rattle.flow_base.specs.Syntax.{Expression, Apply, Combine, Declared}
use Rattle.flow_model.specs.WellFormed.{Types, fault, fault_at_first, branch_places, earliest, kind_of, beginning, wrong_kind, wrong_operands, operand_kind, operands_kind, faults_of_expression, faults_of_wanted, faults_of_arguments, faults_of_declared, faults_of_declarations}
use Rattle.flow_check.specs.Tables.{faults_of_argument}
use Rattle.flow_model.proofs.FirstFault.{earliest-append}
use Rattle.flow_check.proofs.Forms.{shown_place}

pub unary_noted : (types : Types) (x e : Expression) (at b : ℕ) (op : Unary) (w : Kind) (k : Option Kind) (o o1 o2 : Option TextFault)
    → x ≡ Apply at op e → o1 ≡ earliest o (faults_of_expression types e) → k ≡ kind_of types e → w ≡ operand_kind op → b ≡ beginning e → o2 ≡ earliest o1 (wrong_kind w k b)
    → o2 ≡ earliest o (faults_of_expression types x)
unary_noted types x e at b op w k o o1 o2 is one kind wanted place two =
    rw (is, two, one, kind, wanted, place) (sym (earliest-append o (faults_of_expression types e) (wrong_kind (operand_kind op) (kind_of types e) (beginning e))))

pub binary_noted : (types : Types) (x e f : Expression) (b c : ℕ) (op : Binary) (j k : Option Kind) (o o1 o2 o3 : Option TextFault)
    → x ≡ Combine op e f → o1 ≡ earliest o (faults_of_expression types e) → o2 ≡ earliest o1 (faults_of_expression types f)
    → j ≡ kind_of types e → k ≡ kind_of types f → b ≡ beginning e → c ≡ beginning f → o3 ≡ earliest o2 (wrong_operands (operands_kind op) j k b c)
    → o3 ≡ earliest o (faults_of_expression types x)
binary_noted types x e f b c op j k o o1 o2 o3 is one two left right place other three =
    let a = faults_of_expression types e in
    let d = faults_of_expression types f in
    let w = wrong_operands (operands_kind op) (kind_of types e) (kind_of types f) (beginning e) (beginning f) in
    rw (is, three, two, one, left, right, place, other) (ap (λ (y : Option TextFault). earliest y w) (sym (earliest-append o a d)) ∙ sym (earliest-append o (a ++ d) w))

pub dropped : {X : Type 0} (xs : List X) (i : ℕ) (x : X) → i < length xs → x ≡ get_or xs i x → drop i xs ≡ x ∷ drop (i + 1) xs
dropped xs i x h k = rw add-one (drop-cons xs i x h ∙ ap (λ y. y ∷ drop (suc i) xs) (sym k))

pub first_beyond : (code : Code) (ts : List TypeAt) (n : ℕ) (t : TypeAt) → n < length ts → t ≡ get_or ts n t → fault_at_first code (map (λ (u : TypeAt). u.at) (drop n ts)) ≡ fault code t.at
first_beyond code ts n t h k = ap (λ (us : List TypeAt). fault_at_first code (map (λ (u : TypeAt). u.at) us)) (dropped ts n t h k)

pub none_beyond : (code : Code) (ts : List TypeAt) (n : ℕ) → length ts ≤ n → fault_at_first code (map (λ (u : TypeAt). u.at) (drop n ts)) ≡ []
none_beyond code ts n h = ap (λ (us : List TypeAt). fault_at_first code (map (λ (u : TypeAt). u.at) us)) (drop_of_length-le ts h)

-- where branches begin that are beyond a number
places : (bs : List Branch) (n : ℕ) → drop n (branch_places (branches_of (map shown_branch bs))) ≡ branch_places (branches_of (map shown_branch (drop n bs)))
places bs zero = refl
places [] (suc n) = refl
places (b ∷ bs) (suc n) = places bs n

pub first_branch_beyond : (code : Code) (bs : List Branch) (n : ℕ) (b : Branch) → n < length bs → b ≡ get_or bs n b
    → fault_at_first code (drop n (branch_places (branches_of (map shown_branch bs)))) ≡ fault code b.at
first_branch_beyond code bs n b h k =
    ap (fault_at_first code) (places bs n) ∙ ap (λ (cs : List Branch). fault_at_first code (branch_places (branches_of (map shown_branch cs)))) (dropped bs n b h k) ∙ ap (fault code) (shown_place b)

pub no_branch_beyond : (code : Code) (bs : List Branch) (n : ℕ) → length bs ≤ n → fault_at_first code (drop n (branch_places (branches_of (map shown_branch bs)))) ≡ []
no_branch_beyond code bs n h =
    ap (fault_at_first code) (places bs n) ∙ ap (λ (cs : List Branch). fault_at_first code (branch_places (branches_of (map shown_branch cs)))) (drop_of_length-le bs h)

-- one more argument
arguments_from : (types : Types) (ks : List Kind) (i : ℕ) (e : Expression) (es : List Expression) → faults_of_arguments types (drop i ks) (e ∷ es) ≡ faults_of_argument types (slice_get ks i) e ++ faults_of_arguments types (drop (suc i) ks) es
arguments_from types [] zero e es = refl
arguments_from types [] (suc i) e es = refl
arguments_from types (k ∷ ks) zero e es = refl
arguments_from types (k ∷ ks) (suc i) e es = arguments_from types ks i e es

pub wanted_noted : (types : Types) (e : Expression) (w : Kind) (k : Option Kind) (b : ℕ) (o o1 o2 : Option TextFault)
    → o1 ≡ earliest o (faults_of_expression types e) → k ≡ kind_of types e → b ≡ beginning e → o2 ≡ earliest o1 (wrong_kind w k b) → o2 ≡ earliest o (faults_of_wanted types w e)
wanted_noted types e w k b o o1 o2 one kind place two =
    rw (two, one, kind, place) (sym (earliest-append o (faults_of_expression types e) (wrong_kind w (kind_of types e) (beginning e))))

abbrev pub Rest : Types → List Kind → List Expr → ℕ → Option TextFault → Option TextFault
Rest types ks es i o = earliest o (faults_of_arguments types (drop i ks) (map shown_expr (drop i es)))

pub argument_more : (types : Types) (ks : List Kind) (es : List Expr) (i : ℕ) (e : Expr) (k : Option Kind) (o o1 : Option TextFault)
    → i < length es → e ≡ get_or es i e → k ≡ slice_get ks i → o1 ≡ earliest o (faults_of_argument types k (shown_expr e)) → Rest types ks es (i + 1) o1 ≡ Rest types ks es i o
argument_more types ks es i e k o o1 l is kind one =
    let rest = map shown_expr (drop (i + 1) es) in
    let a = faults_of_argument types (slice_get ks i) (shown_expr e) in
    let from : faults_of_arguments types (drop i ks) (shown_expr e ∷ rest) ≡ a ++ faults_of_arguments types (drop (i + 1) ks) rest = rw add-one (arguments_from types ks i (shown_expr e) (map shown_expr (drop (suc i) es))) in
    ap (λ (y : Option TextFault). earliest y (faults_of_arguments types (drop (i + 1) ks) rest)) (one ∙ ap (λ (j : Option Kind). earliest o (faults_of_argument types j (shown_expr e))) kind)
    ∙ sym (earliest-append o a (faults_of_arguments types (drop (i + 1) ks) rest)) ∙ ap (earliest o) (sym from)
    ∙ ap (λ (xs : List Expr). earliest o (faults_of_arguments types (drop i ks) (map shown_expr xs))) (sym (dropped es i e l is))

pub no_more_arguments : (types : Types) (ks : List Kind) (es : List Expr) (o : Option TextFault) → Rest types ks es (length es) o ≡ o
no_more_arguments types ks es o = ap (λ (xs : List Expr). earliest o (faults_of_arguments types (drop (length es) ks) (map shown_expr xs))) (drop-length es)

-- one more declaration
faults_of_declarations-append : (a b : List Declared) → faults_of_declarations (a ++ b) ≡ faults_of_declarations a ++ faults_of_declarations b
faults_of_declarations-append [] b = refl
faults_of_declarations-append (d ∷ a) b = ap (λ fs. faults_of_declared d ++ fs) (faults_of_declarations-append a b) ∙ sym (append_assoc (faults_of_declared d) (faults_of_declarations a) (faults_of_declarations b))

pub one_more_noted : (o o1 o2 : Option TextFault) (ds : List Declared) (d : Declared) (more : List Declared) → more ≡ ds ++ d ∷ [] → o1 ≡ earliest o (faults_of_declarations ds) → o2 ≡ earliest o1 (faults_of_declared d)
    → o2 ≡ earliest o (faults_of_declarations more)
one_more_noted o o1 o2 ds d more m one two =
    rw (two, one, m, faults_of_declarations-append ds (d ∷ []), append-nil (faults_of_declared d)) (sym (earliest-append o (faults_of_declarations ds) (faults_of_declared d)))
