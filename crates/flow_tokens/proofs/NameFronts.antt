-- Names and keywords: the run of letters, digits and _ at the front is the longest token there.
use Rattle.std.proofs.Common.{◌≡◌, ℕ, ◌+◌, ◌≤◌, List, [], ◌∷◌, ◌++◌, Bool, true, false, cond, ◌||◌, nat_le, Option, Some, None, length, get_or, take, drop, take-append-drop, one-add, inl, sym, ap, ◌∙◌, refl, subst, arith}
use Rattle.std.specs.Prelude.{bytes_eq}
use Rattle.std.specs.List.{list_all, find, prefix_len}
use Rattle.std.specs.Cmp.Lexicographic.{bytes_decides}
use Rattle.std.proofs.lemmas.Bool.{true≢false, and_parts, and_from}
use Rattle.std.proofs.lemmas.Bool.Decides.{nat_tests}
use Rattle.std.proofs.lemmas.Option.{none-some, same_Some, cond_some}
use Rattle.std.proofs.lemmas.List.Folds.{length-prefix_len}
use Rattle.flow_base.specs.Syntax.{Bytes}
use Rattle.flow_base.specs.declared.token.Mark.{Mark}
use Rattle.flow_base.specs.declared.token.Mark.TheVariants as mark
use Rattle.flow_base.specs.declared.token.Word.{Word}
use Rattle.flow_base.specs.declared.token.Word.TheVariants as word
use Rattle.flow_model.specs.Tokens.{is_letter, is_digit, is_name_byte, is_letters, is_keyword, spelled, keywords, keyword_of, word_or_name, with_rest, name_word, Spells, IsLongest, Begins}
use Rattle.flow_tokens.proofs.Longest.{letters, digits, quotes, form_at, mark_form, Looks, form_letter, letters_begin, spells_form, looks_at, one_longest}

---- Runs

run_all_step : (p : ℕ → Bool) (v : Bool) (b n : ℕ) (bs : Bytes) → v ≡ p b → list_all p (take n bs) ≡ true → list_all p (take (cond v (1 + n) 0) (b ∷ bs)) ≡ true
run_all_step p true b n bs e h =
    ap (λ k. list_all p (take k (b ∷ bs))) (one-add n) ∙ and_from (p b) (list_all p (take n bs)) (sym e) h
run_all_step p false b n bs e h = refl

-- all of a run pass
pub run_all : (p : ℕ → Bool) (bs : Bytes) → list_all p (take (prefix_len p bs) bs) ≡ true
run_all p [] = refl
run_all p (b ∷ bs) = run_all_step p (p b) b (prefix_len p bs) bs refl (run_all p bs)

-- a run that begins at all
pub run_begins : (p : ℕ → Bool) (b : ℕ) (bs : Bytes) → p b ≡ true → take (prefix_len p (b ∷ bs)) (b ∷ bs) ≡ b ∷ take (prefix_len p bs) bs
run_begins p b bs e =
    ap (λ v. take (cond v (1 + prefix_len p bs) 0) (b ∷ bs)) e ∙ ap (λ k. take k (b ∷ bs)) (one-add (prefix_len p bs))

-- no front that passes is longer than the run
pub run_longest : (p : ℕ → Bool) (front behind : Bytes) → list_all p front ≡ true → length front ≤ prefix_len p (front ++ behind)
run_longest p [] behind h = omega arith
run_longest p (b ∷ bs) behind h =
    let parts = and_parts (p b) (list_all p bs) h in
    let more : length bs ≤ prefix_len p (bs ++ behind) = run_longest p bs behind parts.1 in
    let one : prefix_len p (b ∷ (bs ++ behind)) ≡ 1 + prefix_len p (bs ++ behind) = ap (λ v. cond v (1 + prefix_len p (bs ++ behind)) 0) parts.0 in
    omega (arith, more, one)

pub run_is_longest : (p : ℕ → Bool) (text front behind : Bytes) → text ≡ front ++ behind → list_all p front ≡ true → length front ≤ length (take (prefix_len p text) text)
run_is_longest p text front behind e h =
    let most : length front ≤ prefix_len p (front ++ behind) = run_longest p front behind h in
    let same : prefix_len p text ≡ prefix_len p (front ++ behind) = ap (prefix_len p) e in
    omega (arith, most, same, length-prefix_len p text)

---- The letters of a name

abbrev name_end : Bytes → ℕ
name_end text = prefix_len is_name_byte text

letter_in_name : (b : ℕ) → is_letter b ≡ true → is_name_byte b ≡ true
letter_in_name b h = ap (λ v. v || is_digit b) h

letters_in_name : (bs : Bytes) → is_letters bs ≡ true → list_all is_name_byte bs ≡ true
letters_in_name [] h = refl
letters_in_name (b ∷ bs) h =
    let parts = and_parts (is_letter b) (list_all is_name_byte bs) h in
    and_from (is_name_byte b) (list_all is_name_byte bs) (letter_in_name b parts.0) parts.1

name_letters : (text : Bytes) → is_letter (get_or text 0 0) ≡ true → is_letters (take (name_end text) text) ≡ true
name_letters [] h = absurd (true≢false (sym h))
name_letters (b ∷ bs) h =
    ap is_letters (run_begins is_name_byte b bs (letter_in_name b h)) ∙ and_from (is_letter b) (list_all is_name_byte (take (name_end bs) bs)) h (run_all is_name_byte bs)

name_longest : (text : Bytes) → form_at text ≡ letters → IsLongest (take (name_end text) text) text
name_longest text f = (
  inl (name_letters text (form_letter (get_or text 0 0) f)),
  λ front behind e l.
      let h : is_letters front ≡ true = subst (λ k. Looks k front) f (looks_at text front behind e l) in
      run_is_longest is_name_byte text front behind e (letters_in_name front h),
)

---- Keywords

found_step : {A : Type 0} (p : A → Bool) (v : Bool) (x y : A) (o : Option A) → v ≡ p y → cond v (Some y) o ≡ Some x → (o ≡ Some x → p x ≡ true) → p x ≡ true
found_step p true x y o e h later = subst (λ z. p z ≡ true) (same_Some y x h) (sym e)
found_step p false x y o e h later = later h

found_passes : {A : Type 0} (p : A → Bool) (xs : List A) (x : A) → find p xs ≡ Some x → p x ≡ true
found_passes p [] x h = absurd (none-some x h)
found_passes p (y ∷ ys) x h = found_step p (p y) x y (find p ys) refl h (found_passes p ys x)

keyword_is : (bs : Bytes) (m : Mark) → keyword_of bs ≡ Some m → bs ≡ spelled m
unfolding keyword_of
keyword_is bs m h = sym ((bytes_decides (spelled m) bs).0 (found_passes (λ k. bytes_eq (spelled k) bs) keywords m h))

keyword_found : (m : Mark) → is_keyword m ≡ true → keyword_of (spelled m) ≡ Some m
unfolding keyword_of
keyword_found mark.Open h = absurd (true≢false (sym h))
keyword_found mark.Close h = absurd (true≢false (sym h))
keyword_found mark.BraceOpen h = absurd (true≢false (sym h))
keyword_found mark.BraceClose h = absurd (true≢false (sym h))
keyword_found mark.Comma h = absurd (true≢false (sym h))
keyword_found mark.Semicolon h = absurd (true≢false (sym h))
keyword_found mark.Colon h = absurd (true≢false (sym h))
keyword_found mark.Assign h = absurd (true≢false (sym h))
keyword_found mark.Equal h = absurd (true≢false (sym h))
keyword_found mark.Differ h = absurd (true≢false (sym h))
keyword_found mark.Less h = absurd (true≢false (sym h))
keyword_found mark.AtMost h = absurd (true≢false (sym h))
keyword_found mark.Greater h = absurd (true≢false (sym h))
keyword_found mark.AtLeast h = absurd (true≢false (sym h))
keyword_found mark.Arrow h = absurd (true≢false (sym h))
keyword_found mark.Plus h = absurd (true≢false (sym h))
keyword_found mark.Join h = absurd (true≢false (sym h))
keyword_found mark.Minus h = absurd (true≢false (sym h))
keyword_found mark.Times h = absurd (true≢false (sym h))
keyword_found mark.Over h = absurd (true≢false (sym h))
keyword_found mark.Percent h = absurd (true≢false (sym h))
keyword_found _ h = refl

---- Letters and the word that they spell

pub le_of_test : (a b : ℕ) → nat_le a b ≡ true → a ≤ b
le_of_test a b h = grind (arith, nat_tests)

pub test_of_le : (a b : ℕ) → a ≤ b → nat_le a b ≡ true
test_of_le a b h = grind (arith, nat_tests)

letters_mark : (v : Bool) → letters ≡ mark_form v → v ≡ true
letters_mark true h = refl
letters_mark false h = absurd (cc)

-- letters that spell a mark spell a keyword
mark_is_keyword : (bs : Bytes) (m : Mark) → is_letters bs ≡ true → bs ≡ spelled m → is_keyword m ≡ true
mark_is_keyword bs m l h = letters_mark (is_keyword m) (sym (letters_begin bs l) ∙ spells_form bs (word.Mark m) h)

mark_is_found : (bs : Bytes) (m : Mark) → is_letters bs ≡ true → bs ≡ spelled m → keyword_of bs ≡ Some m
mark_is_found bs m l h = ap keyword_of h ∙ keyword_found m (mark_is_keyword bs m l h)

module _ (bs : Bytes) (l : is_letters bs ≡ true) where
  word_spelled_by : (w : Word) (o : Option Mark) → keyword_of bs ≡ o → word_or_name bs o ≡ Some w → Spells bs w
  word_spelled_by w (Some m) k e = subst (Spells bs) (same_Some _ _ e) (keyword_is bs m k)
  word_spelled_by w None k e =
      let parts = cond_some (nat_le (length bs) 64) (word.Name bs) w e in
      let name : Spells bs (word.Name bs) = (refl, l, le_of_test _ _ parts.0, λ m h. none-some m (sym k ∙ mark_is_found bs m l h)) in
      subst (Spells bs) parts.1 name

  word_spelled : (w : Word) → word_or_name bs (keyword_of bs) ≡ Some w → Spells bs w
  word_spelled w e = word_spelled_by w (keyword_of bs) refl e

  name_found_by : (name : Bytes) (o : Option Mark) → keyword_of bs ≡ o → Spells bs (word.Name name) → word_or_name bs o ≡ Some (word.Name name)
  name_found_by name (Some m) k s = absurd (s.3 m (keyword_is bs m k))
  name_found_by name None k s =
      ap (λ v. cond v (Some (word.Name bs)) None) (test_of_le _ _ s.2) ∙ ap (λ n. Some (word.Name n)) (sym s.0)

  word_found : (w : Word) → Spells bs w → word_or_name bs (keyword_of bs) ≡ Some w
  word_found (word.Name name) s = name_found_by name (keyword_of bs) refl s
  word_found (word.Int z) s = let h : letters ≡ digits = sym (letters_begin bs l) ∙ spells_form bs (word.Int z) s in absurd (cc)
  word_found (word.Text value) s = let h : letters ≡ quotes = sym (letters_begin bs l) ∙ spells_form bs (word.Text value) s in absurd (cc)
  word_found (word.Mark m) s = ap (word_or_name bs) (mark_is_found bs m l s)

---- The front

pub with_rest_parts : (rest after : Bytes) (o : Option Word) (w : Word) → with_rest rest o ≡ Some (w, after) → (o ≡ Some w) × (rest ≡ after)
with_rest_parts rest after None w e = absurd (none-some (w, after) e)
with_rest_parts rest after (Some v) w e =
    let same = same_Some (v, rest) (w, after) e in (ap (λ p. Some p.0) same, ap (λ p. p.1) same)

pub name_begins : (text after : Bytes) (w : Word) → form_at text ≡ letters → name_word text ≡ Some (w, after) → Begins text w after
name_begins text after w f e =
    let n = name_end text in
    let parts = with_rest_parts (drop n text) after (word_or_name (take n text) (keyword_of (take n text))) w e in (
      take n text,
      (
        sym (take-append-drop n text) ∙ ap (λ r. take n text ++ r) parts.1,
        name_longest text f,
        word_spelled (take n text) (name_letters text (form_letter (get_or text 0 0) f)) w parts.0,
      ),
    )

pub begins_name : (text after : Bytes) (w : Word) → form_at text ≡ letters → Begins text w after → name_word text ≡ Some (w, after)
begins_name text after w f b =
    let n = name_end text in
    let same = one_longest text (take n text) (drop n text) b.0 after (sym (take-append-drop n text)) b.1.0 (name_longest text f) b.1.1 in
    let s : Spells (take n text) w = subst (λ t. Spells t w) (sym same.0) b.1.2 in
    ap (with_rest (drop n text)) (word_found (take n text) (name_letters text (form_letter (get_or text 0 0) f)) w s) ∙ ap (λ r. Some (w, r)) same.1
