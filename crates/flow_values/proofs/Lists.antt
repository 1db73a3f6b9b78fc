-- Lists of entries and of values, one more element at a time.
use Rattle.std.proofs.Common.{◌≡◌, ℕ, suc, ◌+◌, ◌<◌, List, [], ◌∷◌, ◌++◌, length, get_or, take, drop, set, map, refl, sym, ap, ◌∙◌, append_assoc, add-one, drop-cons, ⊎_elim, inl, inr, Some, Result, Ok, Err, Bool, true, false}
use Rattle.std.proofs.lemmas.List.{set_split}
use Rattle.std.proofs.lemmas.Bool.{true≢false}
use Rattle.std.proofs.lemmas.Bool.Decides.{same_from_decides}
use Rattle.std.specs.Cmp.Lexicographic.{bytes_decides}
use Rattle.std.specs.Prelude.{◌⊎◌, bytes_eq, if◌then◌else◌}
use Rattle.flow_base.specs.Syntax.{Bytes}
use Rattle.flow_base.specs.Shown.{shown_expr}
use Rattle.flow_base.specs.declared.value.Value.{Value}
use Rattle.flow_base.specs.declared.syntax.Expr.{Expr}
use Rattle.flow_base.specs.declared.event.Cause.{Cause}
use Rattle.flow_model.specs.Values.{Variables, with_variable, value, values, ◌>>=◌}
use Rattle.flow_values.specs.Named.{look_up, put}

-- where a name stands first, its entry is the one that changes
pub put_found : (es : List (Bytes × Value)) (i : ℕ) (name : Bytes) (v : Value) (d : Bytes × Value) → i < length es → bytes_eq (get_or es i d).0 name ≡ true → put name v es ≡ take i es ++ put name v (drop i es) → put name v es ≡ set es i ((get_or es i d).0, v)
put_found es i name v d h e p =
    p ∙ ap (λ r. take i es ++ put name v r) (drop-cons es i d h)
    ∙ ap (λ b. take i es ++ (if b then ((get_or es i d).0, v) ∷ drop (suc i) es else get_or es i d ∷ put name v (drop (suc i) es))) e
    ∙ sym (set_split es i ((get_or es i d).0, v) h)

abbrev pub onto : List Value → Result (List Value) Cause → Result (List Value) Cause
onto xs (Ok vs) = Ok (xs ++ vs)
onto xs (Err c) = Err c

onto_more : (xs : List Value) (v : Value) (r : Result (List Value) Cause) → onto xs (r >>= (λ vs. Ok (v ∷ vs))) ≡ onto (xs ++ v ∷ []) r
onto_more xs v (Ok vs) = ap Ok (sym (append_assoc xs (v ∷ []) vs))
onto_more xs v (Err c) = refl

pub values_more : (vars : Variables) (at : ℕ) (es : List Expr) (i : ℕ) (d : Expr) (xs : List Value) (v : Value) → i < length es → value vars at (shown_expr (get_or es i d)) ≡ Ok v → onto xs (values vars at (map shown_expr (drop i es))) ≡ onto (xs ++ v ∷ []) (values vars at (map shown_expr (drop (i + 1) es)))
values_more vars at es i d xs v h e =
    rw (drop-cons es i d) (rw e (rw add-one (onto_more xs v (values vars at (map shown_expr (drop (suc i) es))))))

pub values_err : (vars : Variables) (at : ℕ) (es : List Expr) (i : ℕ) (d : Expr) (xs : List Value) (c : Cause) → i < length es → value vars at (shown_expr (get_or es i d)) ≡ Err c → onto xs (values vars at (map shown_expr (drop i es))) ≡ Err c
values_err vars at es i d xs c h e = rw (drop-cons es i d) (rw e)

cases : (b : Bool) → (b ≡ true) ⊎ (b ≡ false)
cases true = inl refl
cases false = inr refl

-- two names that are one are alike to a third
alike : (x y z : Bytes) → bytes_eq y z ≡ true → bytes_eq x y ≡ bytes_eq x z
alike x y z e = ap (bytes_eq x) ((bytes_decides y z).0 e)

flipped : (x y : Bytes) → bytes_eq x y ≡ bytes_eq y x
flipped x y = same_from_decides (bytes_eq x y) (bytes_eq y x) (bytes_decides x y) ((λ e. sym ((bytes_decides y x).0 e)), (λ e. (bytes_decides y x).1 (sym e)))

same : (x : Bytes) (e : Bytes × Value) (v : Value) (es : List (Bytes × Value)) → look_up ((e.0, v) ∷ es) x ≡ (if bytes_eq x e.0 then Some v else look_up (e ∷ es) x)
same x e v es =
    elim (bytes_eq x e.0) as (λ b. (if b then Some v else look_up es x) ≡ (if b then Some v else (if b then Some e.1 else look_up es x))) [ true ↦ refl | false ↦ refl ]

other : (x name : Bytes) (e : Bytes × Value) (v : Value) (es : List (Bytes × Value)) → bytes_eq e.0 name ≡ false → (if bytes_eq x e.0 then Some e.1 else (if bytes_eq x name then Some v else look_up es x)) ≡ (if bytes_eq x name then Some v else (if bytes_eq x e.0 then Some e.1 else look_up es x))
other x name e v es t =
    ⊎_elim (λ (a : bytes_eq x e.0 ≡ true).
    ⊎_elim (λ (b : bytes_eq x name ≡ true). absurd (true≢false (sym (sym t ∙ (bytes_decides e.0 name).1 (sym ((bytes_decides x e.0).0 a) ∙ (bytes_decides x name).0 b)))))
    (λ (b : bytes_eq x name ≡ false). rw (a, b)) (cases (bytes_eq x name)))
    (λ (a : bytes_eq x e.0 ≡ false). rw a) (cases (bytes_eq x e.0))

look_put : (x name : Bytes) (v : Value) (es : List (Bytes × Value)) → look_up (put name v es) x ≡ with_variable (look_up es) name v x
look_put x name v [] = refl
look_put x name v (e ∷ es) =
    ⊎_elim (λ (t : bytes_eq e.0 name ≡ true). rw t (rw (← alike x e.0 name t) (same x e v es)))
    (λ (t : bytes_eq e.0 name ≡ false). rw t (rw (look_put x name v es) (other x name e v es t))) (cases (bytes_eq e.0 name))

pub same_variables : (name : Bytes) (v : Value) (es : List (Bytes × Value)) → look_up (put name v es) ≡ with_variable (look_up es) name v
same_variables name v es = λ i. λ x. look_put x name v es i

pub set_is : (old new : List (Bytes × Value)) (name : Bytes) (v : Value) → new ≡ put name v old → look_up new ≡ with_variable (look_up old) name v
set_is old new name v e = ap look_up e ∙ same_variables name v old

-- a variable set where the function is known
pub set_variables : (f : Variables) (old new : List (Bytes × Value)) (name : Bytes) (v : Value) → new ≡ put name v old → look_up old ≡ f → look_up new ≡ with_variable f name v
set_variables f old new name v e h = ap look_up e ∙ same_variables name v old ∙ ap (λ (g : Variables). with_variable g name v) h
