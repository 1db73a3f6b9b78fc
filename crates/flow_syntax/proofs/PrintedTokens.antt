-- The longest token at the front of what a word spells is that word, whatever follows behind a space.
use Rattle.std.proofs.Common.{◌≡◌, ◌∙◌, ℕ, zero, suc, pos, negsuc, ◌+◌, ◌-◌, map, subst, ◌/◌, ◌%◌, ◌^◌, get_or, ◌≤◌, ◌<◌, inl, inr, Bool, true, false, cond, ◌==◌, ◌&&◌, ◌||◌, nat_le, Option, Some, None, List, [], ◌∷◌, ◌++◌, length, take, drop, one-add, refl, ap, sym, append_assoc, arith}
use Rattle.std.proofs.Math.Seq.{take-append_seam, drop-append_seam}
use Rattle.std.proofs.lemmas.Bool.Decides.{nat_tests}
use Rattle.std.proofs.lemmas.Slice.Eq.{bytes_eq-Decides}
use Rattle.std.proofs.Math.Nat.{div-add-mod}
use Rattle.std.proofs.lemmas.List.Sums.{fold-append}
use Rattle.std.proofs.lemmas.List.Folds.{list_all-append}
use Rattle.std.proofs.lemmas.Fmt.{decimal_by_steps, decimal_digit, decimal_nonempty, first_decimal}
use Rattle.std.specs.Fmt.{decimal}
use Rattle.std.specs.Prelude.{bytes_eq}
use Rattle.std.specs.List.{list_all, find, prefix_len}
use Rattle.flow_base.specs.declared.token.Mark.{Mark}
use Rattle.flow_base.specs.declared.token.Mark.TheVariants as mark
use Rattle.flow_base.specs.declared.token.Word.{Word}
use Rattle.flow_base.specs.declared.token.Word.TheVariants as word
use Rattle.flow_base.specs.declared.token.Token.{Token}
use Rattle.flow_model.specs.Lexeme.{lexemes}
use Rattle.flow_model.specs.Tokens.{spelled, is_plain, is_letter, is_digit, is_name_byte, is_letters, front, keywords, keyword_of, unquoted, behind_escape, after_character, text_word, name_word, int_word, with_rest, word_or_name, with_digit, number_of, number_word, has_leading_zero, is_blank, past_gap, past_comment, Scans}
use Rattle.flow_base.specs.Syntax.{Program}
use Rattle.flow_tokens.proofs.Relation.{reads_of_scans}
use Rattle.flow_syntax.specs.Print.{words_of, written, all_written, spelled_word, spaced, joined, listed, parameter_words, in_braces, declarations_words, block_words, program_words, IsWritable, AllWritable, IsPrintable, ArePrintable, HasTokens}

---- Marks

pub mark_at_end : (m : Mark) → front (spelled m ++ []) ≡ Some (word.Mark m, [])
unfolding keyword_of
mark_at_end mark.Workflow = refl
mark_at_end _ = refl

pub mark_before_space : (m : Mark) (r : List ℕ) → front (spelled m ++ (32 ∷ r)) ≡ Some (word.Mark m, 32 ∷ r)
unfolding keyword_of
mark_before_space mark.Workflow r = refl
mark_before_space _ r = refl

---- Texts

third : {A : Type 0} (u v w : Bool) (x y z t : A) → u ≡ false → v ≡ false → w ≡ true → cond u x (cond v y (cond w z t)) ≡ z
third u v w x y z t e f g = ap (λ b. cond b x (cond v y (cond w z t))) e ∙ ap (λ b. cond b y (cond w z t)) f ∙ ap (λ b. cond b z t) g

is_other : (b : ℕ) → false ≡ (b == 34) → false ≡ (b == 92) → false ≡ (b == 10) → IsWritable b → is_plain b ≡ true
is_other b e f g (inl h) = absurd (grind (arith, nat_tests))
is_other b e f g (inr h) = grind (arith, nat_tests)

-- the writing of a byte is read as the byte
byte_read : (u v w : Bool) (b : ℕ) (x : List ℕ) → u ≡ (b == 34) → v ≡ (b == 92) → w ≡ (b == 10) → IsWritable b
    → unquoted (cond u (92 ∷ 34 ∷ []) (cond v (92 ∷ 92 ∷ []) (cond w (92 ∷ 110 ∷ []) (b ∷ []))) ++ x) ≡ after_character b (unquoted x)
byte_read true v w b x e f g h =
    let is : 34 ≡ b = grind (arith, nat_tests) in
    ap (λ c. after_character c (unquoted x)) is
byte_read false true w b x e f g h =
    let is : 92 ≡ b = grind (arith, nat_tests) in
    ap (λ c. after_character c (unquoted x)) is
byte_read false false true b x e f g h =
    let is : 10 ≡ b = grind (arith, nat_tests) in
    ap (λ c. after_character c (unquoted x)) is
byte_read false false false b x e f g h =
    third (b == 34) (b == 92) (is_plain b) (Some ([], x)) (behind_escape x) (after_character b (unquoted x)) None (sym e) (sym f) (is_other b e f g h)

quoted_read : (t r : List ℕ) → AllWritable t → unquoted (all_written t ++ (34 ∷ r)) ≡ Some (t, r)
quoted_read [] r h = refl
quoted_read (b ∷ t) r h =
    ap unquoted (append_assoc (written b) (all_written t) (34 ∷ r))
    ∙ byte_read (b == 34) (b == 92) (b == 10) b (all_written t ++ (34 ∷ r)) refl refl refl h.0
    ∙ ap (after_character b) (quoted_read t r h.1)

pub text_before : (t r : List ℕ) → AllWritable t → length t ≤ 4096 → front (spelled_word (word.Text t) ++ r) ≡ Some (word.Text t, r)
text_before t r h short =
    let fits : nat_le (length t) 4096 ≡ true = grind (arith, nat_tests) in
    ap text_word (ap unquoted (append_assoc (all_written t) (34 ∷ []) r) ∙ quoted_read t r h) ∙ ap (λ b. cond b (Some (word.Text t, r)) None) fits

---- Names

and_true : (u v : Bool) → (u && v) ≡ true → (u ≡ true) × (v ≡ true)
and_true true v h = (refl, h)
and_true false v h = absurd (cc)

if_true : {A : Type 0} (u : Bool) (x y : A) → u ≡ true → cond u x y ≡ x
if_true u x y h = ap (λ b. cond b x y) h

-- a run of a class that ends where the rest begins
run_before : (p : ℕ → Bool) (x r : List ℕ) → list_all p x ≡ true → prefix_len p r ≡ 0 → prefix_len p (x ++ r) ≡ length x
run_before p [] r h none = none
run_before p (b ∷ bs) r h none =
    let s = and_true (p b) (list_all p bs) h in
    if_true (p b) (1 + prefix_len p (bs ++ r)) 0 s.0 ∙ ap (λ n. 1 + n) (run_before p bs r s.1 none) ∙ one-add (length bs)

spelled_by_none : (x : List ℕ) (ms : List Mark) → ((m : Mark) → x ≡ spelled m → ⊥) → find (λ m. bytes_eq (spelled m) x) ms ≡ None
spelled_by_none x [] h = refl
spelled_by_none x (m ∷ ms) h = step (bytes_eq (spelled m) x) m (find (λ (n : Mark). bytes_eq (spelled n) x) ms) (λ e. h m (sym ((bytes_eq-Decides (spelled m) x).0 e))) (spelled_by_none x ms h)
  where
    step : {A : Type 0} (u : Bool) (y : A) (o : Option A) → (u ≡ true → ⊥) → o ≡ None → cond u (Some y) o ≡ None
    step true y o h e = absurd (h refl)
    step false y o h e = e

no_keyword : (x : List ℕ) → ((m : Mark) → x ≡ spelled m → ⊥) → keyword_of x ≡ None
unfolding keyword_of
no_keyword x h = spelled_by_none x keywords h

name_of : (x r : List ℕ) (n : ℕ) → n ≡ length x → length x ≤ 64 → keyword_of x ≡ None
    → with_rest (drop n (x ++ r)) (word_or_name (take n (x ++ r)) (keyword_of (take n (x ++ r)))) ≡ Some (word.Name x, r)
name_of x r n e short none =
    let fits : nat_le (length x) 64 ≡ true = grind (arith, nat_tests) in
    ap (λ k. with_rest (drop k (x ++ r)) (word_or_name (take k (x ++ r)) (keyword_of (take k (x ++ r))))) e
    ∙ ap (λ d. with_rest d (word_or_name (take (length x) (x ++ r)) (keyword_of (take (length x) (x ++ r))))) (drop-append_seam x r)
    ∙ ap (λ t. with_rest r (word_or_name t (keyword_of t))) (take-append_seam x r)
    ∙ ap (λ o. with_rest r (word_or_name x o)) none
    ∙ ap (λ b. with_rest r (cond b (Some (word.Name x)) None)) fits

-- a name, before what no name goes on with
pub name_before : (x r : List ℕ) → is_letters x ≡ true → length x ≤ 64 → ((m : Mark) → x ≡ spelled m → ⊥) → prefix_len is_name_byte r ≡ 0 → front (x ++ r) ≡ Some (word.Name x, r)
name_before [] r h short other ends = absurd (cc)
name_before (b ∷ bs) r h short other ends =
    let s = and_true (is_letter b) (list_all is_name_byte bs) h in
    let all : list_all is_name_byte (b ∷ bs) ≡ true = ap (λ u. (u || is_digit b) && list_all is_name_byte bs) s.0 ∙ s.1 in
    if_true (is_letter b) (name_word (b ∷ (bs ++ r))) _ s.0
    ∙ name_of (b ∷ bs) r (prefix_len is_name_byte (b ∷ (bs ++ r))) (run_before is_name_byte (b ∷ bs) r all ends) short (no_keyword (b ∷ bs) other)

---- Numbers

abbrev IsDecimal : ℕ → List ℕ → Type 0
IsDecimal n ds = (list_all is_digit ds ≡ true) × (number_of ds ≡ n)

one_digit : (n : ℕ) → n < 10 → IsDecimal n ((48 + n) ∷ [])
one_digit n h = (grind (arith, nat_tests), omega arith)

one_more_digit : (n : ℕ) (ds : List ℕ) → 10 ≤ n → IsDecimal (n / 10) ds → IsDecimal n (ds ++ ((48 + n % 10) ∷ []))
one_more_digit n ds h d =
    let small : n % 10 < 10 = omega arith in
    let whole : with_digit (n / 10) (48 + n % 10) ≡ n = omega (arith, div-add-mod n 10) in (
      list_all-append is_digit ds ((48 + n % 10) ∷ []) ∙ ap (λ u. u && list_all is_digit ((48 + n % 10) ∷ [])) d.0 ∙ (one_digit (n % 10) small).0,
      fold-append with_digit 0 ds ((48 + n % 10) ∷ []) ∙ ap (λ v. with_digit v (48 + n % 10)) d.1 ∙ whole,
    )

decimal_is : (n : ℕ) → n < 2 ^ 64 → IsDecimal n (decimal n)
decimal_is n h = decimal_by_steps IsDecimal one_digit one_more_digit n h

no_zero_first : (ds : List ℕ) → 48 < get_or ds 0 0 → has_leading_zero ds ≡ false
no_zero_first [] h = refl
no_zero_first (b ∷ []) h = refl
no_zero_first (b ∷ c ∷ bs) h = grind (arith, nat_tests)

no_leading_zero : (n : ℕ) → n < 2 ^ 64 → has_leading_zero (decimal n) ≡ false
no_leading_zero zero h = ap has_leading_zero (decimal_digit 0 (omega arith))
no_leading_zero (suc n) h = no_zero_first (decimal (suc n)) (first_decimal (suc n) (omega arith) h)

int_of : (x r : List ℕ) (k n : ℕ) → k ≡ length x → has_leading_zero x ≡ false → number_of x ≡ n → n ≤ 9223372036854775807
    → with_rest (drop k (x ++ r)) (number_word (take k (x ++ r))) ≡ Some (word.Int (pos n), r)
int_of x r k n e none is h =
    let fits : nat_le n 9223372036854775807 ≡ true = grind (arith, nat_tests) in
    ap (λ j. with_rest (drop j (x ++ r)) (number_word (take j (x ++ r)))) e
    ∙ ap (λ d. with_rest d (number_word (take (length x) (x ++ r)))) (drop-append_seam x r)
    ∙ ap (λ t. with_rest r (number_word t)) (take-append_seam x r)
    ∙ ap (λ b. with_rest r (cond b None (cond (nat_le (number_of x) 9223372036854775807) (Some (word.Int (pos (number_of x)))) None))) none
    ∙ ap (λ m. with_rest r (cond (nat_le m 9223372036854775807) (Some (word.Int (pos m))) None)) is
    ∙ ap (λ b. with_rest r (cond b (Some (word.Int (pos n))) None)) fits

if_false : {A : Type 0} (u : Bool) (x y : A) → u ≡ false → cond u x y ≡ y
if_false u x y h = ap (λ b. cond b x y) h

no_letter : (b : ℕ) → is_digit b ≡ true → is_letter b ≡ false
no_letter b h = grind (arith, nat_tests)

digits_before : (x r : List ℕ) (n : ℕ) → list_all is_digit x ≡ true → 0 < length x → has_leading_zero x ≡ false → number_of x ≡ n → n ≤ 9223372036854775807 → prefix_len is_digit r ≡ 0 → front (x ++ r) ≡ Some (word.Int (pos n), r)
digits_before [] r n all some none is h ends = absurd (omega arith)
digits_before (b ∷ bs) r n all some none is h ends =
    let s = and_true (is_digit b) (list_all is_digit bs) all in
    if_false (is_letter b) _ _ (no_letter b s.0)
    ∙ if_true (is_digit b) (int_word (b ∷ (bs ++ r))) _ s.0
    ∙ int_of (b ∷ bs) r (prefix_len is_digit (b ∷ (bs ++ r))) n (run_before is_digit (b ∷ bs) r all ends) none is h

-- a number, before what no number goes on with
pub number_before : (n : ℕ) (r : List ℕ) → n ≤ 9223372036854775807 → prefix_len is_digit r ≡ 0 → front (spelled_word (word.Int (pos n)) ++ r) ≡ Some (word.Int (pos n), r)
number_before n r h ends =
    let small : n < 2 ^ 64 = omega arith in
    let d = decimal_is n small in
    digits_before (decimal n) r n d.0 (decimal_nonempty n small) (no_leading_zero n small) d.1 h ends

---- A whole text

ends_here : (p : ℕ → Bool) (ws : List Word) → p 32 ≡ false → prefix_len p (spaced ws) ≡ 0
unfolding spaced
ends_here p [] h = refl
ends_here p (w ∷ ws) h = if_false (p 32) (1 + prefix_len p (spelled_word w ++ spaced ws)) 0 h

mark_before : (m : Mark) (ws : List Word) → front (spelled m ++ spaced ws) ≡ Some (word.Mark m, spaced ws)
unfolding spaced
mark_before m [] = mark_at_end m
mark_before m (v ∷ vs) = mark_before_space m (spelled_word v ++ spaced vs)

pub word_before : (w : Word) (ws : List Word) → IsPrintable w → front (spelled_word w ++ spaced ws) ≡ Some (w, spaced ws)
word_before (word.Name x) ws h = name_before x (spaced ws) h.0 h.1.0 h.1.1 (ends_here is_name_byte ws refl)
word_before (word.Int (pos n)) ws h = number_before n (spaced ws) h (ends_here is_digit ws refl)
word_before (word.Int (negsuc n)) ws h = absurd h
word_before (word.Text t) ws h = text_before t (spaced ws) h.0 h.1
word_before (word.Mark m) ws h = mark_before m ws

-- a byte with which no token begins
other_byte : (k b : ℕ) (bs : List ℕ) (p : Word × List ℕ) → front (k ∷ bs) ≡ None → front (b ∷ bs) ≡ Some p → b ≡ k → ⊥
other_byte k b bs p none h e =
    let no : None ≡ Some p = sym none ∙ ap (λ c. front (c ∷ bs)) (sym e) ∙ h in
    absurd (cc)

-- no blank and no comment stands before a token
solid : (text : List ℕ) (p : Word × List ℕ) → front text ≡ Some p → past_gap text ≡ text
solid [] p h = refl
solid (b ∷ bs) p h =
    let no_space : b ≡ 32 → ⊥ = other_byte 32 b bs p refl h in
    let no_tab : b ≡ 9 → ⊥ = other_byte 9 b bs p refl h in
    let no_feed : b ≡ 10 → ⊥ = other_byte 10 b bs p refl h in
    let no_return : b ≡ 13 → ⊥ = other_byte 13 b bs p refl h in
    let no_hash : b ≡ 35 → ⊥ = other_byte 35 b bs p refl h in
    let blank : is_blank b ≡ false = grind (arith, nat_tests) in
    let comment : (b == 35) ≡ false = grind (arith, nat_tests) in
    if_false (is_blank b) (past_gap bs) (cond (b == 35) (past_comment bs) (b ∷ bs)) blank ∙ if_false (b == 35) (past_comment bs) (b ∷ bs) comment

abbrev Spelled : ℕ → List ℕ → List Word → Type 0
Spelled whole text ws = (ts : List Token) × (Scans whole text ts None) × (words_of (lexemes ts) ≡ ws)

-- words joined by one space are the tokens of the text
pub words_scanned : (whole : ℕ) (w : Word) (ws : List Word) → ArePrintable (w ∷ ws) → Spelled whole (spelled_word w ++ spaced ws) (w ∷ ws)
unfolding spaced
words_scanned whole w [] h =
    (record { word = w; from = whole - length (spelled_word w ++ []); to = whole - 0 } ∷ [], ([], (word_before w [] h.0, refl, refl, refl)), refl)
words_scanned whole w (v ∷ vs) h =
    let behind = words_scanned whole v vs h.1 in
    let rest : List ℕ = 32 ∷ (spelled_word v ++ spaced vs) in
    let t : Token = record { word = w; from = whole - length (spelled_word w ++ rest); to = whole - length rest } in (
      t ∷ behind.0,
      (rest, (word_before w (v ∷ vs) h.0, refl, refl, subst (λ x. Scans whole x behind.0 None) (sym (solid (spelled_word v ++ spaced vs) (v, spaced vs) (word_before v vs h.1.0))) behind.1)),
      ap (λ x. w ∷ x) behind.2,
    )

words_are_tokens : (w : Word) (ws : List Word) → ArePrintable (w ∷ ws) → HasTokens (joined (w ∷ ws)) (w ∷ ws)
words_are_tokens w ws h =
    let text : List ℕ = spelled_word w ++ spaced ws in
    let found = words_scanned (length text) w ws h in
    let scanned = subst (λ x. Scans (length text) x found.0 None) (sym (solid text (w, spaced ws) (word_before w ws h.0))) found.1 in
    (found.0, reads_of_scans (length text) (past_gap text) found.0 None scanned, found.2)

-- the tokens of what a program prints as are its words
pub program_scanned : (p : Program) → ArePrintable (program_words p) → HasTokens (joined (program_words p)) (program_words p)
program_scanned p h =
    words_are_tokens (word.Mark mark.Workflow) (word.Name p.name ∷ (listed (map parameter_words p.parameters) ++ in_braces (declarations_words p.declarations ++ block_words p.body))) h
