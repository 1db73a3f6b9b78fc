-- An expression without faults has a type, where the visible variables are there; and its value has that type.
use Rattle.std.proofs.Common.{◌≡◌, ℕ, ℤ, Bool, true, false, List, [], ◌∷◌, ◌++◌, length, map, Option, Some, None, Result, Ok, Err, refl, sym, ap, subst, ◌∙◌, arith, if◌then◌else◌}
use Rattle.std.specs.Prelude.{nat_eq, nat_le, ◌&&◌, neg_ℤ, ◌+ℤ◌, ◌-ℤ◌, ◌*ℤ◌}
use Rattle.std.proofs.lemmas.Bool.Decides.{nat_tests}
use Rattle.flow_base.specs.Syntax.{Bytes, Expression, Number, Literal, Variable, Now, Apply, Combine}
use Rattle.flow_base.specs.declared.value.Value.{Value}
use Rattle.flow_base.specs.declared.value.Value.TheVariants as value
use Rattle.flow_base.specs.declared.value.Kind.{Kind}
use Rattle.flow_base.specs.declared.value.Kind.TheVariants.{Int, Text}
use Rattle.flow_base.specs.declared.syntax.Unary.{Unary}
use Rattle.flow_base.specs.declared.syntax.Unary.TheVariants.{Negate, Not, TextOf, Length}
use Rattle.flow_base.specs.declared.syntax.Binary.{Binary}
use Rattle.flow_base.specs.declared.syntax.Binary.TheVariants.{Or, And, Equal, Differ, Less, AtMost, Greater, AtLeast, Add, Subtract, Join, Multiply, Divide, Remain}
use Rattle.flow_base.specs.declared.event.Cause.{Cause}
use Rattle.flow_base.specs.declared.event.Cause.TheVariants.{Arith, TextLimit}
use Rattle.flow_base.specs.declared.code.Code.TheVariants as code
use Rattle.flow_model.specs.Values.{Variables, there, number_of, whole, joined, fits_64, text_limit, flag, is_true, applied, combined, decided_by, or_else, ◌>>=◌, value as value_of, values}
use Rattle.flow_model.specs.WellFormed.{Types, is_kind, type_known, operand_kind, unary_result, operands_kind, operands_fit, binary_result, applied_kind, combined_kind, kind_of, beginning, wrong_kind, wrong_operands, not_visible, faults_of_expression, faults_of_wanted, faults_of_arguments, wrong_count, fault}
use Rattle.flow_check.specs.Typed.{type_of, IsThere, IsWanted, HasKind, HaveKinds}

-- no fault in two lists is none in either
pub none_in_both : {A : Type 0} (a b : List A) → a ++ b ≡ [] → (a ≡ []) × (b ≡ [])
none_in_both [] b h = (refl, h)
none_in_both (x ∷ a) b h = cc

-- visible variables have a type, and are there
abbrev pub Shows : Variables → Types → Type 0
Shows vars types = (x : Bytes) (o : Option Kind) → types x ≡ Some o → (k : Kind) × ((o ≡ Some k) × IsThere vars x k)

abbrev pub Known : Variables → Types → Expression → Type 0
Known vars types e = (k : Kind) × ((kind_of types e ≡ Some k) × HasKind vars e k)

pub kind_wanted : (wanted k : Kind) (at : ℕ) → wrong_kind wanted (Some k) at ≡ [] → k ≡ wanted
kind_wanted Int Int at h = refl
kind_wanted Int Text at h = cc
kind_wanted Text Int at h = cc
kind_wanted Text Text at h = refl

same_kind : (k : Kind) → is_kind k k ≡ true
same_kind Int = refl
same_kind Text = refl

pub wanted_kind : (wanted k : Kind) (o : Option Kind) (at : ℕ) → o ≡ Some k → wrong_kind wanted o at ≡ [] → k ≡ wanted
wanted_kind wanted k o at e h = kind_wanted wanted k at (subst (λ (x : Option Kind). wrong_kind wanted x at ≡ []) e h)

known_variable : (vars : Variables) (types : Types) → Shows vars types → (at : ℕ) (x : Bytes) (o : Option (Option Kind)) → types x ≡ o → not_visible o at ≡ []
    → (k : Kind) × ((type_known o ≡ Some k) × IsThere vars x k)
known_variable vars types s at x None e h = cc
known_variable vars types s at x (Some o) e h = s x o e

known_applied : (op : Unary) (o : Option Kind) (k : Kind) → o ≡ Some k → k ≡ operand_kind op → applied_kind op o ≡ Some (unary_result op)
known_applied op o k e h =
    ap (applied_kind op) (e ∙ ap Some h) ∙ ap (λ b. if b then Some (unary_result op) else None) (same_kind (operand_kind op))

operands_right : (w : Option Kind) (j k : Kind) (a b : ℕ) → wrong_operands w (Some j) (Some k) a b ≡ [] → (k ≡ j) × IsWanted w j × (operands_fit w j k ≡ true)
operands_right None j k a b h =
    let same : k ≡ j = kind_wanted j k b h in
    (same, tt, ap (λ x. is_kind x j) same ∙ same_kind j)
operands_right (Some wanted) j k a b h =
    let parts = none_in_both (wrong_kind wanted (Some j) a) (wrong_kind wanted (Some k) b) h in
    let left : j ≡ wanted = kind_wanted wanted j a parts.0 in
    let right : k ≡ wanted = kind_wanted wanted k b parts.1 in
    (right ∙ sym left, left, ap (λ x. is_kind x wanted && is_kind k wanted) left ∙ ap (λ x. is_kind wanted wanted && is_kind x wanted) right ∙ ap (λ x. x && x) (same_kind wanted))

known_combined : (op : Binary) (o u : Option Kind) (j k : Kind) → o ≡ Some j → u ≡ Some k → operands_fit (operands_kind op) j k ≡ true → combined_kind op o u ≡ Some (binary_result op)
known_combined op o u j k e g h =
    ap (λ x. combined_kind op x u) e ∙ ap (λ x. combined_kind op (Some j) x) g ∙ ap (λ b. if b then Some (binary_result op) else None) h

wrong_operands_at : (w o u : Option Kind) (j k : Kind) (a b : ℕ) → o ≡ Some j → u ≡ Some k → wrong_operands w o u a b ≡ [] → wrong_operands w (Some j) (Some k) a b ≡ []
wrong_operands_at w o u j k a b e g h =
    subst (λ (x : Option Kind). wrong_operands w (Some j) x a b ≡ []) g (subst (λ (x : Option Kind). wrong_operands w x u a b ≡ []) e h)

counted_by : (b : Bool) (at : ℕ) → (if b then [] else fault code.BadCount at) ≡ [] → b ≡ true
counted_by true at h = refl
counted_by false at h = cc

counted : (m n : ℕ) → nat_eq m n ≡ true → m ≡ n
counted m n e = grind (arith, nat_tests)

module _ (vars : Variables) (types : Types) (s : Shows vars types) where
  pub known : (e : Expression) → faults_of_expression types e ≡ [] → Known vars types e
  known (Number at z) h = (Int, (refl, refl))
  known (Literal at t) h = (Text, (refl, refl))
  known (Variable at x) h = known_variable vars types s at x (types x) refl h
  known (Now at) h = (Int, (refl, refl))
  known (Apply at op e) h =
      let parts = none_in_both (faults_of_expression types e) (wrong_kind (operand_kind op) (kind_of types e) (beginning e)) h in
      let part = known e parts.0 in
      let is : part.0 ≡ operand_kind op = wanted_kind (operand_kind op) part.0 (kind_of types e) (beginning e) part.1.0 parts.1 in
      (unary_result op, (known_applied op (kind_of types e) part.0 part.1.0 is, (subst (λ (k : Kind). HasKind vars e k) is part.1.1, refl)))
  known (Combine op e f) h =
      let parts = none_in_both (faults_of_expression types e ++ faults_of_expression types f) (wrong_operands (operands_kind op) (kind_of types e) (kind_of types f) (beginning e) (beginning f)) h in
      let both = none_in_both (faults_of_expression types e) (faults_of_expression types f) parts.0 in
      let a = known e both.0 in
      let b = known f both.1 in
      let fit = operands_right (operands_kind op) a.0 b.0 (beginning e) (beginning f)
      (wrong_operands_at (operands_kind op) (kind_of types e) (kind_of types f) a.0 b.0 (beginning e) (beginning f) a.1.0 b.1.0 parts.1) in (
        binary_result op,
        (
          known_combined op (kind_of types e) (kind_of types f) a.0 b.0 a.1.0 b.1.0 fit.2,
          ((a.0, (a.1.1, subst (λ (k : Kind). HasKind vars f k) fit.0 b.1.1, fit.1)), refl),
        ),
      )

  -- an expression that is wanted to have a type has it
  pub known_wanted : (wanted : Kind) (e : Expression) → faults_of_wanted types wanted e ≡ [] → HasKind vars e wanted
  known_wanted wanted e h =
      let parts = none_in_both (faults_of_expression types e) (wrong_kind wanted (kind_of types e) (beginning e)) h in
      let k = known e parts.0 in
      subst (λ (j : Kind). HasKind vars e j) (wanted_kind wanted k.0 (kind_of types e) (beginning e) k.1.0 parts.1) k.1.1

  known_arguments : (ks : List Kind) (es : List Expression) → length es ≡ length ks → faults_of_arguments types ks es ≡ [] → HaveKinds vars es ks
  known_arguments [] [] n h = tt
  known_arguments (k ∷ ks) [] n h = absurd (omega arith)
  known_arguments [] (e ∷ es) n h = absurd (omega arith)
  known_arguments (k ∷ ks) (e ∷ es) n h =
      let parts = none_in_both (faults_of_wanted types k e) (faults_of_arguments types ks es) h in
      (known_wanted k e parts.0, known_arguments ks es (omega arith) parts.1)

  pub known_all : (ks : List Kind) (es : List Expression) (at : ℕ) → wrong_count ks es at ≡ [] → faults_of_arguments types ks es ≡ [] → HaveKinds vars es ks
  known_all ks es at c h = known_arguments ks es (counted (length es) (length ks) (counted_by (nat_eq (length es) (length ks)) at c)) h

-- what is computed is of a type, if there is no fault
abbrev Gives : Kind → Result Value Cause → Type 0
Gives k (Ok v) = type_of v ≡ k
Gives k (Err c) = Unit {0}

abbrev GivesSome : Kind → Option Value → Type 0
GivesSome k None = Unit {0}
GivesSome k (Some v) = type_of v ≡ k

gives_then : (k : Kind) (r : Result Value Cause) (f : Value → Result Value Cause) → ((v : Value) → Gives k (f v)) → Gives k (r >>= f)
gives_then k (Ok v) f h = h v
gives_then k (Err c) f h = tt

gives_or_else : (k : Kind) (o : Option Value) (r : Result Value Cause) → GivesSome k o → Gives k r → Gives k (or_else o r)
gives_or_else k None r h g = g
gives_or_else k (Some v) r h g = h

gives_if : (k : Kind) (b : Bool) (v : Value) (c : Cause) → type_of v ≡ k → Gives k (if b then Ok v else Err c)
gives_if k true v c h = h
gives_if k false v c h = tt

gives_whole : (z : ℤ) → Gives Int (whole z)
gives_whole z = gives_if Int (fits_64 z) (value.Int z) Arith refl

gives_joined : (t : Bytes) → Gives Text (joined t)
gives_joined t = gives_if Text (nat_le (length t) text_limit) (value.Text t) TextLimit refl

flag_kind : (b : Bool) → type_of (flag b) ≡ Int
flag_kind true = refl
flag_kind false = refl

gives_divided_by : (b c : Bool) (v : Value) → type_of v ≡ Int → Gives Int (if b then Err Arith else (if c then Ok v else Err Arith))
gives_divided_by true c v h = tt
gives_divided_by false c v h = gives_if Int c v Arith h

gives_applied : (op : Unary) (v : Value) → Gives (unary_result op) (applied op v)
gives_applied Negate v = gives_whole (neg_ℤ (number_of v))
gives_applied Not v = flag_kind _
gives_applied TextOf v = gives_joined _
gives_applied Length v = refl

gives_combined : (op : Binary) (a b : Value) → Gives (binary_result op) (combined op a b)
gives_combined Or a b = flag_kind _
gives_combined And a b = flag_kind _
gives_combined Equal a b = flag_kind _
gives_combined Differ a b = flag_kind _
gives_combined Less a b = flag_kind _
gives_combined AtMost a b = flag_kind _
gives_combined Greater a b = flag_kind _
gives_combined AtLeast a b = flag_kind _
gives_combined Add a b = gives_whole (number_of a +ℤ number_of b)
gives_combined Subtract a b = gives_whole (number_of a -ℤ number_of b)
gives_combined Join a b = gives_joined _
gives_combined Multiply a b = gives_whole (number_of a *ℤ number_of b)
gives_combined Divide a b = gives_divided_by _ _ _ refl
gives_combined Remain a b = gives_divided_by _ _ _ refl

gives_or : (b : Bool) → GivesSome Int (if b then Some (flag true) else None)
gives_or true = refl
gives_or false = tt

gives_and : (b : Bool) → GivesSome Int (if b then None else Some (flag false))
gives_and true = tt
gives_and false = refl

gives_decided : (op : Binary) (a : Value) → GivesSome (binary_result op) (decided_by op a)
gives_decided Or a = gives_or (is_true a)
gives_decided And a = gives_and (is_true a)
gives_decided Equal a = tt
gives_decided Differ a = tt
gives_decided Less a = tt
gives_decided AtMost a = tt
gives_decided Greater a = tt
gives_decided AtLeast a = tt
gives_decided Add a = tt
gives_decided Subtract a = tt
gives_decided Join a = tt
gives_decided Multiply a = tt
gives_decided Divide a = tt
gives_decided Remain a = tt

gives : (vars : Variables) (at : ℕ) (e : Expression) (k : Kind) → HasKind vars e k → Gives k (value_of vars at e)
gives vars at (Number place z) k h = sym h
gives vars at (Literal place t) k h = sym h
gives vars at (Variable place x) k h = subst (λ (o : Option Value). type_of (there o) ≡ k) (sym h.1.0) h.1.1
gives vars at (Now place) k h = sym h
gives vars at (Apply place op e) k h =
    subst (λ (j : Kind). Gives j (value_of vars at e >>= applied op)) (sym h.1) (gives_then (unary_result op) (value_of vars at e) (applied op) (gives_applied op))
gives vars at (Combine op e f) k h =
    subst (λ (j : Kind). Gives j (value_of vars at e >>= (λ a. or_else (decided_by op a) (value_of vars at f >>= combined op a)))) (sym h.1)
    (gives_then (binary_result op) (value_of vars at e) (λ a. or_else (decided_by op a) (value_of vars at f >>= combined op a))
    (λ a. gives_or_else (binary_result op) (decided_by op a) (value_of vars at f >>= combined op a) (gives_decided op a)
    (gives_then (binary_result op) (value_of vars at f) (combined op a) (gives_combined op a))))

pub value_has_kind : (vars : Variables) (at : ℕ) (e : Expression) (k : Kind) (v : Value) → HasKind vars e k → value_of vars at e ≡ Ok v → type_of v ≡ k
value_has_kind vars at e k v h is = subst (Gives k) is (gives vars at e k h)

-- and so with the values of several
abbrev GivesAll : List Kind → Result (List Value) Cause → Type 0
GivesAll ks (Ok vs) = map type_of vs ≡ ks
GivesAll ks (Err c) = Unit {0}

gives_more : (k : Kind) (ks : List Kind) (v : Value) (r : Result (List Value) Cause) → type_of v ≡ k → GivesAll ks r → GivesAll (k ∷ ks) (r >>= (λ vs. Ok (v ∷ vs)))
gives_more k ks v (Ok vs) e h = ap (λ j. j ∷ map type_of vs) e ∙ ap (λ js. k ∷ js) h
gives_more k ks v (Err c) e h = tt

gives_first : (k : Kind) (ks : List Kind) (r : Result Value Cause) (u : Result (List Value) Cause) → Gives k r → GivesAll ks u → GivesAll (k ∷ ks) (r >>= (λ v. u >>= (λ vs. Ok (v ∷ vs))))
gives_first k ks (Ok v) u e h = gives_more k ks v u e h
gives_first k ks (Err c) u e h = tt

gives_all : (vars : Variables) (at : ℕ) (es : List Expression) (ks : List Kind) → HaveKinds vars es ks → GivesAll ks (values vars at es)
gives_all vars at [] [] h = refl
gives_all vars at [] (k ∷ ks) h = absurd h
gives_all vars at (e ∷ es) [] h = absurd h
gives_all vars at (e ∷ es) (k ∷ ks) h = gives_first k ks (value_of vars at e) (values vars at es) (gives vars at e k h.0) (gives_all vars at es ks h.1)

pub values_have_kinds : (vars : Variables) (at : ℕ) (es : List Expression) (ks : List Kind) (vs : List Value) → HaveKinds vars es ks → values vars at es ≡ Ok vs → map type_of vs ≡ ks
values_have_kinds vars at es ks vs h is = subst (GivesAll ks) is (gives_all vars at es ks h)
