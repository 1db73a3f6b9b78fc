-- Numbers: the run of digits at the front is the longest token there.
use Rattle.std.proofs.Common.{◌≡◌, ℕ, [], ◌∷◌, ◌++◌, Bool, true, false, cond, nat_le, Option, Some, None, pos, get_or, take, drop, take-append-drop, inl, inr, sym, ap, ◌∙◌, refl, subst}
use Rattle.std.specs.List.{list_all, prefix_len}
use Rattle.std.proofs.lemmas.Bool.{true≢false, and_from}
use Rattle.std.proofs.lemmas.Option.{none-some, cond_some}
use Rattle.flow_base.specs.Syntax.{Bytes}
use Rattle.flow_base.specs.declared.token.Word.{Word}
use Rattle.flow_base.specs.declared.token.Word.TheVariants as word
use Rattle.flow_model.specs.Tokens.{is_digit, is_digits, is_keyword, number_of, number_word, has_leading_zero, with_rest, int_word, Spells, IsLongest, Begins}
use Rattle.flow_tokens.proofs.Digits.{in_range}
use Rattle.flow_tokens.proofs.Longest.{letters, digits, quotes, form_at, mark_form, Looks, form_digit, digits_begin, spells_form, looks_at, one_longest}
use Rattle.flow_tokens.proofs.NameFronts.{run_all, run_begins, run_is_longest, le_of_test, with_rest_parts}

abbrev number_end : Bytes → ℕ
number_end text = prefix_len is_digit text

all_digits : (bs : Bytes) → is_digits bs ≡ true → list_all is_digit bs ≡ true
all_digits [] h = refl
all_digits (b ∷ bs) h = h

number_digits : (text : Bytes) → is_digit (get_or text 0 0) ≡ true → is_digits (take (number_end text) text) ≡ true
number_digits [] h = absurd (true≢false (sym h))
number_digits (b ∷ bs) h =
    ap is_digits (run_begins is_digit b bs h) ∙ and_from (is_digit b) (list_all is_digit (take (number_end bs) bs)) h (run_all is_digit bs)

number_longest : (text : Bytes) → form_at text ≡ digits → IsLongest (take (number_end text) text) text
number_longest text f = (
  inr (inl (number_digits text (form_digit (get_or text 0 0) f))),
  λ front behind e l.
      let h : is_digits front ≡ true = subst (λ k. Looks k front) f (looks_at text front behind e l) in
      run_is_longest is_digit text front behind e (all_digits front h),
)

no_zero_before : {A : Type 0} (v : Bool) (o : Option A) (x : A) → cond v None o ≡ Some x → (v ≡ false) × (o ≡ Some x)
no_zero_before true o x e = absurd (none-some x e)
no_zero_before false o x e = (refl, e)

no_mark : (v : Bool) → digits ≡ mark_form v → ⊥
no_mark true h = cc
no_mark false h = cc

module _ (bs : Bytes) (l : is_digits bs ≡ true) where
  number_spelled : (w : Word) → number_word bs ≡ Some w → Spells bs w
  number_spelled w e =
      let parts = no_zero_before (has_leading_zero bs) _ w e in
      let more = cond_some (nat_le (number_of bs) 9223372036854775807) (word.Int (pos (number_of bs))) w parts.1 in
      let number : Spells bs (word.Int (pos (number_of bs))) = (l, parts.0, le_of_test _ _ more.0, refl) in
      subst (Spells bs) more.1 number

  number_found : (w : Word) → Spells bs w → number_word bs ≡ Some w
  number_found (word.Int z) s = in_range bs s.1 s.2 ∙ ap (λ n. Some (word.Int n)) (sym s.3)
  number_found (word.Name name) s = let h : digits ≡ letters = sym (digits_begin bs l) ∙ spells_form bs (word.Name name) s in absurd (cc)
  number_found (word.Text value) s = let h : digits ≡ quotes = sym (digits_begin bs l) ∙ spells_form bs (word.Text value) s in absurd (cc)
  number_found (word.Mark m) s = absurd (no_mark (is_keyword m) (sym (digits_begin bs l) ∙ spells_form bs (word.Mark m) s))

pub number_begins : (text after : Bytes) (w : Word) → form_at text ≡ digits → int_word text ≡ Some (w, after) → Begins text w after
number_begins text after w f e =
    let n = number_end text in
    let parts = with_rest_parts (drop n text) after (number_word (take n text)) w e in (
      take n text,
      (
        sym (take-append-drop n text) ∙ ap (λ r. take n text ++ r) parts.1,
        number_longest text f,
        number_spelled (take n text) (number_digits text (form_digit (get_or text 0 0) f)) w parts.0,
      ),
    )

pub begins_number : (text after : Bytes) (w : Word) → form_at text ≡ digits → Begins text w after → int_word text ≡ Some (w, after)
begins_number text after w f b =
    let n = number_end text in
    let same = one_longest text (take n text) (drop n text) b.0 after (sym (take-append-drop n text)) b.1.0 (number_longest text f) b.1.1 in
    let s : Spells (take n text) w = subst (λ t. Spells t w) (sym same.0) b.1.2 in
    ap (with_rest (drop n text)) (number_found (take n text) (number_digits text (form_digit (get_or text 0 0) f)) w s) ∙ ap (λ r. Some (w, r)) same.1
