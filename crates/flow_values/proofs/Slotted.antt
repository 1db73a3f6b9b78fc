-- Values by the numbers of names, one name at a time.
use Rattle.std.proofs.Common.{◌≡◌, ℕ, zero, suc, ◌+◌, ◌<◌, ◌≤◌, add-one, List, [], ◌∷◌, ◌++◌, length, get_or, take, drop, set, drop-cons, refl, sym, ap, ◌∙◌, subst, arith, ⊎_elim, inl, inr, Option, Some, None, Bool, true, false}
use Rattle.std.proofs.lemmas.Bool.{true≢false}
use Rattle.std.specs.Cmp.Lexicographic.{bytes_decides}
use Rattle.std.specs.Prelude.{◌⊎◌, bytes_eq, if◌then◌else◌}
use Rattle.flow_base.specs.Syntax.{Bytes}
use Rattle.flow_base.specs.declared.value.Value.{Value}
use Rattle.flow_model.specs.Values.{Variables, with_variable, none_set}
use Rattle.flow_values.specs.Slots.{number_of, one_further, slot_of, slots, value_at, written}

cases : (b : Bool) → (b ≡ true) ⊎ (b ≡ false)
cases true = inl refl
cases false = inr refl

-- two tests of which one alone can hold change places
swapped : (x name n : Bytes) (v : Value) (a b : Option Value) → bytes_eq n name ≡ false → (if bytes_eq x n then a else (if bytes_eq x name then Some v else b)) ≡ (if bytes_eq x name then Some v else (if bytes_eq x n then a else b))
swapped x name n v a b t =
    ⊎_elim (λ (p : bytes_eq x n ≡ true).
    ⊎_elim (λ (q : bytes_eq x name ≡ true). absurd (true≢false (sym (sym t ∙ (bytes_decides n name).1 (sym ((bytes_decides x n).0 p) ∙ (bytes_decides x name).0 q)))))
    (λ (q : bytes_eq x name ≡ false). rw (p, q)) (cases (bytes_eq x name)))
    (λ (p : bytes_eq x n ≡ false). rw p) (cases (bytes_eq x n))

-- a test of the same name stands before
covered : (x name n : Bytes) (v : Value) (a b : Option Value) → bytes_eq n name ≡ true → (if bytes_eq x n then Some v else b) ≡ (if bytes_eq x name then Some v else (if bytes_eq x n then a else b))
covered x name n v a b t =
    let same : bytes_eq x n ≡ bytes_eq x name = ap (bytes_eq x) ((bytes_decides n name).0 t) in
    rw same (elim (bytes_eq x name) as (λ (c : Bool). (if c then Some v else b) ≡ (if c then Some v else (if c then a else b))) [ true ↦ refl | false ↦ refl ])

-- what is known of a number by the test of the first name
first_number : (b : Bool) (o : Option ℕ) (i : ℕ) → b ≡ true → (if b then Some 0 else o) ≡ Some i → i ≡ 0
first_number true o i t e = zero_is i e
  where
    zero_is : (i : ℕ) → Some 0 ≡ Some i → i ≡ 0
    zero_is zero e = refl
    zero_is (suc i) e = cc
first_number false o i t e = absurd (true≢false (sym t))

next_number : (b : Bool) (o : Option ℕ) (i : ℕ) → b ≡ false → (if b then Some 0 else one_further o) ≡ Some i → (j : ℕ) × ((i ≡ suc j) × (o ≡ Some j))
next_number true o i t e = absurd (true≢false t)
next_number false None i t e = cc
next_number false (Some j) i t e = (j, (suc_is i e, refl))
  where
    suc_is : (i : ℕ) → Some (suc j) ≡ Some i → i ≡ suc j
    suc_is i e = cc

no_number : (b : Bool) (o : Option ℕ) → (if b then Some 0 else one_further o) ≡ None → (b ≡ false) × (o ≡ None)
no_number true o e = cc
no_number false None e = (refl, refl)
no_number false (Some j) e = cc

written_first : (x name : Bytes) (v : Value) (n : Bytes) (ns : List Bytes) (i : ℕ) → bytes_eq n name ≡ true → (vs : List (Option Value)) → i ≡ 0 → slot_of (slots (n ∷ ns) (written vs i v)) x ≡ with_variable (slot_of (slots (n ∷ ns) vs)) name v x
written_first x name v n ns i t [] z = rw z (covered x name n v None (slot_of (slots ns []) x) t)
written_first x name v n ns i t (w ∷ ws) z = rw z (covered x name n v w (slot_of (slots ns ws) x) t)

written_later : (x name : Bytes) (v : Value) (n : Bytes) (ns : List Bytes) (i : ℕ) → bytes_eq n name ≡ false → (vs : List (Option Value)) → (j : ℕ) → i ≡ suc j → ((us : List (Option Value)) → slot_of (slots ns (written us j v)) x ≡ with_variable (slot_of (slots ns us)) name v x) → slot_of (slots (n ∷ ns) (written vs i v)) x ≡ with_variable (slot_of (slots (n ∷ ns) vs)) name v x
written_later x name v n ns i t [] j h again =
    rw h (ap (λ (o : Option Value). if bytes_eq x n then None else o) (again []) ∙ swapped x name n v None (slot_of (slots ns []) x) t)
written_later x name v n ns i t (w ∷ ws) j h again =
    rw h (ap (λ (o : Option Value). if bytes_eq x n then w else o) (again ws) ∙ swapped x name n v w (slot_of (slots ns ws) x) t)

-- the value of a name's first number is that of the name
written_at : (x name : Bytes) (v : Value) (ns : List Bytes) (vs : List (Option Value)) (i : ℕ) → number_of ns name ≡ Some i → slot_of (slots ns (written vs i v)) x ≡ with_variable (slot_of (slots ns vs)) name v x
written_at x name v [] vs i e = cc
written_at x name v (n ∷ ns) vs i e =
    ⊎_elim (λ (t : bytes_eq n name ≡ true). written_first x name v n ns i t vs (first_number (bytes_eq n name) (one_further (number_of ns name)) i t e))
    (λ (t : bytes_eq n name ≡ false).
    let next = next_number (bytes_eq n name) (number_of ns name) i t e in
    written_later x name v n ns i t vs next.0 next.1.0 (λ us. written_at x name v ns us next.0 next.1.1)) (cases (bytes_eq n name))

pub written_is : (name : Bytes) (v : Value) (ns : List Bytes) (vs us : List (Option Value)) (i : ℕ) → us ≡ written vs i v → number_of ns name ≡ Some i → slot_of (slots ns us) ≡ with_variable (slot_of (slots ns vs)) name v
written_is name v ns vs us i f e = ap (λ (ws : List (Option Value)). slot_of (slots ns ws)) f ∙ (λ j. λ x. written_at x name v ns vs i e j)

appended_later : (x name : Bytes) (v : Value) (n : Bytes) (ns : List Bytes) → bytes_eq n name ≡ false → (vs : List (Option Value)) → ((us : List (Option Value)) → slot_of (slots (ns ++ (name ∷ [])) (written us (length ns) v)) x ≡ with_variable (slot_of (slots ns us)) name v x)
    → slot_of (slots ((n ∷ ns) ++ (name ∷ [])) (written vs (length (n ∷ ns)) v)) x ≡ with_variable (slot_of (slots (n ∷ ns) vs)) name v x
appended_later x name v n ns t [] again = ap (λ (o : Option Value). if bytes_eq x n then None else o) (again []) ∙ swapped x name n v None (slot_of (slots ns []) x) t
appended_later x name v n ns t (w ∷ ws) again = ap (λ (o : Option Value). if bytes_eq x n then w else o) (again ws) ∙ swapped x name n v w (slot_of (slots ns ws) x) t

-- a name behind all others
appended_at : (x name : Bytes) (v : Value) (ns : List Bytes) (vs : List (Option Value)) → number_of ns name ≡ None → slot_of (slots (ns ++ (name ∷ [])) (written vs (length ns) v)) x ≡ with_variable (slot_of (slots ns vs)) name v x
appended_at x name v [] [] e = refl
appended_at x name v [] (w ∷ ws) e = refl
appended_at x name v (n ∷ ns) vs e =
    let none = no_number (bytes_eq n name) (number_of ns name) e in
    appended_later x name v n ns none.0 vs (λ us. appended_at x name v ns us none.1)

pub appended_is : (name : Bytes) (v : Value) (ns ms : List Bytes) (vs us : List (Option Value)) (i : ℕ) → ms ≡ ns ++ (name ∷ []) → i ≡ length ns → us ≡ written vs i v → number_of ns name ≡ None → slot_of (slots ms us) ≡ with_variable (slot_of (slots ns vs)) name v
appended_is name v ns ms vs us i f g h e =
    (λ j. slot_of (slots (f j) (h j))) ∙ ap (λ k. slot_of (slots (ns ++ (name ∷ [])) (written vs k v))) g ∙ (λ j. λ x. appended_at x name v ns vs e j)

-- a value that isn't there yet
pub padded : (xs : List (Option Value)) (i : ℕ) (v : Value) → length xs ≤ i → written (xs ++ (None ∷ [])) i v ≡ written xs i v
padded [] zero v h = refl
padded [] (suc i) v h = refl
padded (x ∷ xs) zero v h = absurd (omega (arith, h))
padded (x ∷ xs) (suc i) v h = ap (λ (ys : List (Option Value)). x ∷ ys) (padded xs i v (omega (arith, h)))

pub set_written : (xs : List (Option Value)) (i : ℕ) (v : Value) → i < length xs → set xs i (Some v) ≡ written xs i v
set_written [] i v h = absurd (omega (arith, h))
set_written (x ∷ xs) zero v h = refl
set_written (x ∷ xs) (suc i) v h = ap (λ (ys : List (Option Value)). x ∷ ys) (set_written xs i v (omega (arith, h)))

-- a number that counts from further on
abbrev pub further : ℕ → Option ℕ → Option ℕ
further k None = None
further k (Some i) = Some (k + i)

pub further_none : (o : Option ℕ) → o ≡ further 0 o
further_none None = refl
further_none (Some i) = ap Some (omega arith)

further_one : (k : ℕ) (o : Option ℕ) → further k (one_further o) ≡ further (k + 1) o
further_one k None = refl
further_one k (Some i) = ap Some (omega arith)

pub number_more : (ns : List Bytes) (i : ℕ) (name d : Bytes) → i < length ns → bytes_eq (get_or ns i d) name ≡ false → number_of ns name ≡ further i (number_of (drop i ns) name) → number_of ns name ≡ further (i + 1) (number_of (drop (i + 1) ns) name)
number_more ns i name d h t e =
    e ∙ ap (λ (ms : List Bytes). further i (number_of ms name)) (drop-cons ns i d h)
    ∙ ap (λ (b : Bool). further i (if b then Some 0 else one_further (number_of (drop (suc i) ns) name))) t
    ∙ further_one i (number_of (drop (suc i) ns) name) ∙ ap (λ k. further (i + 1) (number_of (drop k ns) name)) (sym (add-one i))

pub number_here : (ns : List Bytes) (i : ℕ) (name d : Bytes) → i < length ns → bytes_eq (get_or ns i d) name ≡ true → number_of ns name ≡ further i (number_of (drop i ns) name) → Some i ≡ number_of ns name
number_here ns i name d h t e =
    sym (e ∙ ap (λ (ms : List Bytes). further i (number_of ms name)) (drop-cons ns i d h)
    ∙ ap (λ (b : Bool). further i (if b then Some 0 else one_further (number_of (drop (suc i) ns) name))) t ∙ ap Some (omega arith))

-- a look-up that goes on
values_of_slots : (n name : Bytes) (ns : List Bytes) (us : List (Option Value)) → slot_of (slots (n ∷ ns) us) name ≡ (if bytes_eq name n then value_at us 0 else slot_of (slots ns (drop 1 us)) name)
values_of_slots n name ns [] = refl
values_of_slots n name ns (u ∷ us) = refl

value_from : (vs : List (Option Value)) (i : ℕ) → value_at (drop i vs) 0 ≡ value_at vs i
value_from [] zero = refl
value_from [] (suc i) = refl
value_from (v ∷ vs) zero = refl
value_from (v ∷ vs) (suc i) = value_from vs i

drop_one_more : (vs : List (Option Value)) (i : ℕ) → drop 1 (drop i vs) ≡ drop (i + 1) vs
drop_one_more vs i = drop_suc vs i ∙ ap (λ k. drop k vs) (sym (add-one i))
  where
    drop_suc : (vs : List (Option Value)) (i : ℕ) → drop 1 (drop i vs) ≡ drop (suc i) vs
    drop_suc [] zero = refl
    drop_suc [] (suc i) = refl
    drop_suc (v ∷ vs) zero = refl
    drop_suc (v ∷ vs) (suc i) = drop_suc vs i

pub found_here : (ns : List Bytes) (vs : List (Option Value)) (i : ℕ) (name d : Bytes) → i < length ns → bytes_eq name (get_or ns i d) ≡ true → slot_of (slots ns vs) name ≡ slot_of (slots (drop i ns) (drop i vs)) name → slot_of (slots ns vs) name ≡ value_at vs i
found_here ns vs i name d h t e =
    e ∙ ap (λ (ms : List Bytes). slot_of (slots ms (drop i vs)) name) (drop-cons ns i d h)
    ∙ values_of_slots (get_or ns i d) name (drop (suc i) ns) (drop i vs)
    ∙ ap (λ (b : Bool). if b then value_at (drop i vs) 0 else slot_of (slots (drop (suc i) ns) (drop 1 (drop i vs))) name) t ∙ value_from vs i

pub found_more : (ns : List Bytes) (vs : List (Option Value)) (i : ℕ) (name d : Bytes) → i < length ns → bytes_eq name (get_or ns i d) ≡ false → slot_of (slots ns vs) name ≡ slot_of (slots (drop i ns) (drop i vs)) name → slot_of (slots ns vs) name ≡ slot_of (slots (drop (i + 1) ns) (drop (i + 1) vs)) name
found_more ns vs i name d h t e =
    e ∙ ap (λ (ms : List Bytes). slot_of (slots ms (drop i vs)) name) (drop-cons ns i d h)
    ∙ values_of_slots (get_or ns i d) name (drop (suc i) ns) (drop i vs)
    ∙ ap (λ (b : Bool). if b then value_at (drop i vs) 0 else slot_of (slots (drop (suc i) ns) (drop 1 (drop i vs))) name) t
    ∙ (λ j. slot_of (slots (drop (sym (add-one i) j) ns) (drop_one_more vs i j)) name)

pub none_slots : (ns : List Bytes) → slot_of (slots ns []) ≡ none_set
none_slots ns = λ j. λ x. none_at ns x j
  where
    none_at : (ns : List Bytes) (x : Bytes) → slot_of (slots ns []) x ≡ None
    none_at [] x = refl
    none_at (n ∷ ns) x = rw (none_at ns x) (elim (bytes_eq x n) as (λ (b : Bool). ◌≡◌ {A = Option Value} (if b then None else None) None) [ true ↦ refl | false ↦ refl ])

pub value_index : (vs : List (Option Value)) (i : ℕ) (o : Option Value) → i < length vs → o ≡ get_or vs i o → value_at vs i ≡ o
value_index [] i o h e = absurd (omega (arith, h))
value_index (v ∷ vs) zero o h e = sym e
value_index (v ∷ vs) (suc i) o h e = value_index vs i o (omega (arith, h)) e

pub value_past : (vs : List (Option Value)) (i : ℕ) → length vs ≤ i → value_at vs i ≡ None
value_past [] i h = refl
value_past (v ∷ vs) zero h = absurd (omega (arith, h))
value_past (v ∷ vs) (suc i) h = value_past vs i (omega (arith, h))
