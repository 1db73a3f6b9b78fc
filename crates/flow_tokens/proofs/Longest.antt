-- What may stand at the front of a text is told by its first byte; and two longest tokens of one text are the same.
use Rattle.std.proofs.Common.{◌≡◌, ℕ, ◌<◌, ◌≤◌, [], ◌∷◌, ◌++◌, Bool, true, false, cond, ◌==◌, length, get_or, take, drop, ⊎_elim, sym, ap, ◌∙◌, refl, subst, arith}
use Rattle.std.proofs.lemmas.Bool.{true≢false, and_parts}
use Rattle.std.proofs.lemmas.Bool.Decides.{nat_tests}
use Rattle.std.proofs.Math.Seq.{take-append_seam, drop-append_seam}
use Rattle.flow_base.specs.Syntax.{Bytes}
use Rattle.flow_base.specs.declared.token.Mark.{Mark}
use Rattle.flow_base.specs.declared.token.Mark.TheVariants as mark
use Rattle.flow_base.specs.declared.token.Word.{Word}
use Rattle.flow_base.specs.declared.token.Word.TheVariants as word
use Rattle.flow_model.specs.Tokens.{is_letter, is_digit, is_letters, is_digits, is_keyword, spelled, Quotes, Spells, LooksLikeToken, IsLongest}

-- the forms of tokens: names and keywords, numbers, texts in quotes, marks
pub data Form : Type 0 where
  letters : Form
  digits : Form
  quotes : Form
  signs : Form

abbrev pub form_of : ℕ → Form
form_of b = cond (is_letter b) letters (cond (is_digit b) digits (cond (b == 34) quotes signs))

-- the form of what begins with the first byte of the text
abbrev pub form_at : Bytes → Form
form_at text = form_of (get_or text 0 0)

abbrev pub Looks : Form → Bytes → Type 0
Looks letters bs = is_letters bs ≡ true
Looks digits bs = is_digits bs ≡ true
Looks quotes bs = (value : Bytes) × Quotes bs value
Looks signs bs = (m : Mark) × ((is_keyword m ≡ false) × (bs ≡ spelled m))

abbrev pub mark_form : Bool → Form
mark_form v = cond v letters signs

abbrev pub word_form : Word → Form
word_form (word.Name name) = letters
word_form (word.Int z) = digits
word_form (word.Text value) = quotes
word_form (word.Mark m) = mark_form (is_keyword m)

---- From a byte to its form, and back

no_letter : (b : ℕ) → is_digit b ≡ true → is_letter b ≡ false
no_letter b h = grind (arith, nat_tests)

letter_form : (b : ℕ) → is_letter b ≡ true → form_of b ≡ letters
letter_form b h = ap (λ v. cond v letters (cond (is_digit b) digits (cond (b == 34) quotes signs))) h

digit_form : (b : ℕ) → is_digit b ≡ true → form_of b ≡ digits
digit_form b h =
    ap (λ v. cond v letters (cond (is_digit b) digits (cond (b == 34) quotes signs))) (no_letter b h)
    ∙ ap (λ v. cond v digits (cond (b == 34) quotes signs)) h

letter_of_form : (u v w : Bool) → cond u letters (cond v digits (cond w quotes signs)) ≡ letters → u ≡ true
letter_of_form true v w h = refl
letter_of_form false true w h = absurd (cc)
letter_of_form false false true h = absurd (cc)
letter_of_form false false false h = absurd (cc)

digit_of_form : (u v w : Bool) → cond u letters (cond v digits (cond w quotes signs)) ≡ digits → v ≡ true
digit_of_form true v w h = absurd (cc)
digit_of_form false true w h = refl
digit_of_form false false true h = absurd (cc)
digit_of_form false false false h = absurd (cc)

quote_of_form : (u v w : Bool) → cond u letters (cond v digits (cond w quotes signs)) ≡ quotes → w ≡ true
quote_of_form true v w h = absurd (cc)
quote_of_form false true w h = absurd (cc)
quote_of_form false false true h = refl
quote_of_form false false false h = absurd (cc)

pub form_letter : (b : ℕ) → form_of b ≡ letters → is_letter b ≡ true
form_letter b h = letter_of_form (is_letter b) (is_digit b) (b == 34) h

pub form_digit : (b : ℕ) → form_of b ≡ digits → is_digit b ≡ true
form_digit b h = digit_of_form (is_letter b) (is_digit b) (b == 34) h

is_quote : (b : ℕ) → (b == 34) ≡ true → b ≡ 34
is_quote b h = grind (arith, nat_tests)

pub form_quote : (b : ℕ) → form_of b ≡ quotes → b ≡ 34
form_quote b h = is_quote b (quote_of_form (is_letter b) (is_digit b) (b == 34) h)

---- What looks like a token has the form of its first byte

pub letters_begin : (bs : Bytes) → is_letters bs ≡ true → form_at bs ≡ letters
letters_begin [] h = absurd (true≢false (sym h))
letters_begin (b ∷ bs) h = letter_form b (and_parts _ _ h).0

pub digits_begin : (bs : Bytes) → is_digits bs ≡ true → form_at bs ≡ digits
digits_begin [] h = absurd (true≢false (sym h))
digits_begin (b ∷ bs) h = digit_form b (and_parts _ _ h).0

pub quotes_begin : (bs value : Bytes) → Quotes bs value → form_at bs ≡ quotes
quotes_begin bs value q = ap form_at q.1.0

spelled_begins : (m : Mark) → form_at (spelled m) ≡ mark_form (is_keyword m)
spelled_begins mark.Workflow = refl
spelled_begins _ = refl

mark_begins : (bs : Bytes) (m : Mark) → bs ≡ spelled m → form_at bs ≡ mark_form (is_keyword m)
mark_begins bs m h = ap form_at h ∙ spelled_begins m

signs_begin : (bs : Bytes) (m : Mark) → is_keyword m ≡ false → bs ≡ spelled m → form_at bs ≡ signs
signs_begin bs m k h = mark_begins bs m h ∙ ap mark_form k

looks_here : (bs : Bytes) → LooksLikeToken bs → Looks (form_at bs) bs
looks_here bs l =
    ⊎_elim (λ h. subst (λ k. Looks k bs) (sym (letters_begin bs h)) h)
    (λ more.
    ⊎_elim (λ h. subst (λ k. Looks k bs) (sym (digits_begin bs h)) h)
    (λ rest.
    ⊎_elim (λ h. subst (λ k. Looks k bs) (sym (quotes_begin bs h.0 h.1)) h)
    (λ h. subst (λ k. Looks k bs) (sym (signs_begin bs h.0 h.1.0 h.1.1)) h) rest) more) l

pub spells_form : (bs : Bytes) (w : Word) → Spells bs w → form_at bs ≡ word_form w
spells_form bs (word.Name name) s = letters_begin bs s.1
spells_form bs (word.Int z) s = digits_begin bs s.0
spells_form bs (word.Text value) s = quotes_begin bs value s.0
spells_form bs (word.Mark m) s = mark_begins bs m s

---- A front of a text

spelled_some : (m : Mark) → 0 < length (spelled m)
spelled_some mark.Workflow = omega arith
spelled_some _ = omega arith

some_letters : (bs : Bytes) → is_letters bs ≡ true → 0 < length bs
some_letters [] h = absurd (true≢false (sym h))
some_letters (b ∷ bs) h = omega arith

some_digits : (bs : Bytes) → is_digits bs ≡ true → 0 < length bs
some_digits [] h = absurd (true≢false (sym h))
some_digits (b ∷ bs) h = omega arith

some_quotes : (bs value : Bytes) → Quotes bs value → 0 < length bs
some_quotes bs value q = let h : length bs ≡ length (34 ∷ (q.0 ++ 34 ∷ [])) = ap length q.1.0 in omega arith

-- a token has a byte
pub some_token : (bs : Bytes) → LooksLikeToken bs → 0 < length bs
some_token bs l =
    ⊎_elim (some_letters bs)
    (λ more.
    ⊎_elim (some_digits bs) (λ rest. ⊎_elim (λ h. some_quotes bs h.0 h.1) (λ h. subst (λ l. 0 < length l) (sym h.1.1) (spelled_some h.0)) rest) more) l

same_form : (text front behind : Bytes) → text ≡ front ++ behind → 0 < length front → form_at front ≡ form_at text
same_form text [] behind e some = absurd (omega (arith, some))
same_form text (b ∷ bs) behind e some = sym (ap form_at e)

-- what looks like a token at the front of a text has the form of the text's first byte
pub looks_at : (text front behind : Bytes) → text ≡ front ++ behind → LooksLikeToken front → Looks (form_at text) front
looks_at text front behind e l = subst (λ k. Looks k front) (same_form text front behind e (some_token front l)) (looks_here front l)

pub spells_at : (text token rest : Bytes) (w : Word) → text ≡ token ++ rest → LooksLikeToken token → Spells token w → form_at text ≡ word_form w
spells_at text token rest w e l s = sym (same_form text token rest e (some_token token l)) ∙ spells_form token w s

---- The longest token is one

same_length : (text t r u s : Bytes) → text ≡ t ++ r → text ≡ u ++ s → IsLongest t text → IsLongest u text → length t ≡ length u
same_length text t r u s e f l k =
    let up : length u ≤ length t = l.1 u s f k.0 in
    let down : length t ≤ length u = k.1 t r e l.0 in
    omega arith

pub one_longest : (text t r u s : Bytes) → text ≡ t ++ r → text ≡ u ++ s → IsLongest t text → IsLongest u text → (t ≡ u) × (r ≡ s)
one_longest text t r u s e f l k =
    let n = same_length text t r u s e f l k in
    let one : t ≡ u = sym (take-append_seam t r) ∙ ap (take (length t)) (sym e ∙ f) ∙ ap (λ i. take i (u ++ s)) n ∙ take-append_seam u s in
    let other : r ≡ s = sym (drop-append_seam t r) ∙ ap (drop (length t)) (sym e ∙ f) ∙ ap (λ i. drop i (u ++ s)) n ∙ drop-append_seam u s in (
      one,
      other,
    )
