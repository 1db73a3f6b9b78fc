-- Texts in quotes: what a scanner that goes by runs has read so far.
use Rattle.std.proofs.Common.{◌≡◌, ℕ, ◌+◌, List, [], ◌∷◌, ◌++◌, Bool, true, false, cond, ◌==◌, Option, Some, None, take, drop, get_or, one-add, append_assoc, append-nil, sym, ap, ◌∙◌, refl, subst, arith}
use Rattle.std.specs.List.{prefix_len}
use Rattle.std.proofs.lemmas.Bool.Decides.{nat_tests}
use Rattle.flow_model.specs.Tokens.{is_plain, escaped, unquoted, behind_escape, after_character, after_escape}
use Rattle.flow_tokens.specs.declared.run.Class.TheVariants.{Plain}
use Rattle.flow_tokens.specs.Classes.{has}
use Rattle.flow_tokens.specs.Quoted.{goes_on}

pub begins_empty : (o : Option (List ℕ × List ℕ)) → goes_on [] o ≡ o
begins_empty None = refl
begins_empty (Some found) = refl

pub goes_on_further : (v w : List ℕ) (o : Option (List ℕ × List ℕ)) → goes_on (v ++ w) o ≡ goes_on v (goes_on w o)
goes_on_further v w None = refl
goes_on_further v w (Some found) = ap (λ l. Some (l, found.1)) (append_assoc v w found.0)

one_more : (c : ℕ) (o : Option (List ℕ × List ℕ)) → after_character c o ≡ goes_on (c ∷ []) o
one_more c None = refl
one_more c (Some found) = refl

one_before : (c : ℕ) (v : List ℕ) (o : Option (List ℕ × List ℕ)) → after_character c (goes_on v o) ≡ goes_on (c ∷ v) o
one_before c v None = refl
one_before c v (Some found) = refl

pub plain_is_no_quote : (b : ℕ) → true ≡ is_plain b → (b == 34) ≡ false
plain_is_no_quote b h = grind (arith, nat_tests)

pub plain_is_no_escape : (b : ℕ) → true ≡ is_plain b → (b == 92) ≡ false
plain_is_no_escape b h = grind (arith, nat_tests)

pub third : {A : Type 0} (u v w : Bool) (x y z t : A) → u ≡ false → v ≡ false → w ≡ true → cond u x (cond v y (cond w z t)) ≡ z
third u v w x y z t e f g = ap (λ b. cond b x (cond v y (cond w z t))) e ∙ ap (λ b. cond b y (cond w z t)) f ∙ ap (λ b. cond b z t) g

fourth : {A : Type 0} (u v w : Bool) (x y z t : A) → u ≡ false → v ≡ false → w ≡ false → cond u x (cond v y (cond w z t)) ≡ t
fourth u v w x y z t e f g = ap (λ b. cond b x (cond v y (cond w z t))) e ∙ ap (λ b. cond b y (cond w z t)) f ∙ ap (λ b. cond b z t) g

-- the run of n plain characters, behind a first byte that is plain or not
run_step : (v : Bool) (b n : ℕ) (bs : List ℕ) → v ≡ is_plain b → unquoted bs ≡ goes_on (take n bs) (unquoted (drop n bs)) → unquoted (b ∷ bs) ≡ goes_on (take (cond v (1 + n) 0) (b ∷ bs)) (unquoted (drop (cond v (1 + n) 0) (b ∷ bs)))
run_step true b n bs e ih =
    third (b == 34) (b == 92) (is_plain b) (Some ([], bs)) (behind_escape bs) (after_character b (unquoted bs)) None (plain_is_no_quote b e) (plain_is_no_escape b e) (sym e)
    ∙ ap (after_character b) ih
    ∙ one_before b (take n bs) (unquoted (drop n bs))
    ∙ sym (ap (λ k. goes_on (take k (b ∷ bs)) (unquoted (drop k (b ∷ bs)))) (one-add n))
run_step false b n bs e ih = sym (begins_empty (unquoted (b ∷ bs)))

pub plain_run : (bs : List ℕ) → unquoted bs ≡ goes_on (take (prefix_len (has Plain) bs) bs) (unquoted (drop (prefix_len (has Plain) bs) bs))
plain_run [] = refl
plain_run (b ∷ bs) = run_step (is_plain b) b (prefix_len (has Plain) bs) bs refl (plain_run bs)

-- a run that is put behind the value
pub run_pushed : (v plain text rest : List ℕ) → plain ≡ take (prefix_len (has Plain) text) text → rest ≡ drop (prefix_len (has Plain) text) text → goes_on (v ++ plain) (unquoted rest) ≡ goes_on v (unquoted text)
run_pushed v plain text rest e f =
    goes_on_further v plain (unquoted rest)
    ∙ ap (goes_on v) (ap (λ l. goes_on l (unquoted rest)) e ∙ ap (λ l. goes_on (take (prefix_len (has Plain) text) text) (unquoted l)) f ∙ sym (plain_run text))

escape_here : (text : List ℕ) → get_or text 0 0 ≡ 92 → unquoted text ≡ behind_escape (drop 1 text)
escape_here [] e = absurd (omega (arith, e))
escape_here (b ∷ bs) e =
    let P : ℕ → Type 0 = λ x. unquoted (x ∷ bs) ≡ behind_escape bs in
    let here : P 92 = refl in
    subst P (sym e) here

behind_nothing : (bs : List ℕ) → escaped (get_or bs 0 0) ≡ None → behind_escape bs ≡ None
behind_nothing [] e = refl
behind_nothing (c ∷ bs) e = ap (λ o. after_escape o (unquoted bs)) e

behind_something : (bs : List ℕ) (c : ℕ) → escaped (get_or bs 0 0) ≡ Some c → behind_escape bs ≡ goes_on (c ∷ []) (unquoted (drop 1 bs))
behind_something [] c e = elim (no_first c e) [ ]
  where
    no_first : (c : ℕ) → escaped 0 ≡ Some c → ⊥
    no_first c e = cc
behind_something (b ∷ bs) c e = ap (λ o. after_escape o (unquoted bs)) e ∙ one_more c (unquoted bs)

pub bad_escape : (text escape : List ℕ) → get_or text 0 0 ≡ 92 → escape ≡ drop 1 text → escaped (get_or escape 0 0) ≡ None → unquoted text ≡ None
bad_escape text escape e f g = escape_here text e ∙ behind_nothing (drop 1 text) (ap (λ l. escaped (get_or l 0 0)) (sym f) ∙ g)

pub escape_pushed : (v text escape rest : List ℕ) (c : ℕ) → get_or text 0 0 ≡ 92 → escape ≡ drop 1 text → rest ≡ drop 1 escape → escaped (get_or escape 0 0) ≡ Some c → goes_on (v ++ (c ∷ [])) (unquoted rest) ≡ goes_on v (unquoted text)
escape_pushed v text escape rest c e f r g =
    goes_on_further v (c ∷ []) (unquoted rest)
    ∙ ap (goes_on v)
    (ap (λ l. goes_on (c ∷ []) (unquoted l)) (r ∙ ap (drop 1) f)
    ∙ sym (escape_here text e ∙ behind_something (drop 1 text) c (ap (λ l. escaped (get_or l 0 0)) (sym f) ∙ g)))

pub quote_here : (text : List ℕ) → get_or text 0 0 ≡ 34 → unquoted text ≡ Some ([], drop 1 text)
quote_here [] e = absurd (omega (arith, e))
quote_here (b ∷ bs) e =
    let P : ℕ → Type 0 = λ x. unquoted (x ∷ bs) ≡ Some ([], bs) in
    let here : P 34 = refl in
    subst P (sym e) here

not_plain : (b n : ℕ) → cond (is_plain b) (1 + n) 0 ≡ 0 → is_plain b ≡ false
not_plain b n h = grind (arith, nat_tests)

differs : (b k : ℕ) → (b ≡ k → ⊥) → (b == k) ≡ false
differs b k h = grind (arith, nat_tests)

pub nothing_here : (text : List ℕ) → prefix_len (has Plain) text ≡ 0 → (get_or text 0 0 ≡ 92 → ⊥) → (get_or text 0 0 ≡ 34 → ⊥) → unquoted text ≡ None
nothing_here [] none no_escape no_quote = refl
nothing_here (b ∷ bs) none no_escape no_quote =
    fourth (b == 34) (b == 92) (is_plain b) (Some ([], bs)) (behind_escape bs) (after_character b (unquoted bs)) None (differs b 34 no_quote) (differs b 92 no_escape) (not_plain b (prefix_len (has Plain) bs) none)

-- the whole, read to its closing quote
pub closed : (text value rest : List ℕ) → unquoted text ≡ goes_on value (unquoted rest) → get_or rest 0 0 ≡ 34 → unquoted text ≡ Some (value, drop 1 rest)
closed text value rest e f = e ∙ ap (goes_on value) (quote_here rest f) ∙ ap (λ l. Some (l, drop 1 rest)) (append-nil value)

pub broken : (text value rest : List ℕ) → unquoted text ≡ goes_on value (unquoted rest) → unquoted rest ≡ None → unquoted text ≡ None
broken text value rest e f = e ∙ ap (goes_on value) f
