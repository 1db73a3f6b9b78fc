-- A text may be cut where a run of a class ends: one of the two bytes there is ASCII.
use Rattle.std.proofs.Common.{◌≡◌, ℕ, ◌+◌, ◌-◌, ◌<◌, ◌≤◌, List, [], ◌∷◌, length, get_or, true, false, ⊎_elim, sym, ap, ◌∙◌, subst, take, get_or-take, arith}
use Rattle.std.specs.List.{prefix_len}
use Rattle.std.specs.Str.{IsCharBoundary, IsUtf8}
use Rattle.std.proofs.lemmas.Str.{IsCharBoundary-end, IsCharBoundary-start, IsCharBoundary-before_ascii, IsCharBoundary-after_ascii}
use Rattle.std.proofs.lemmas.List.Sums.{prefix_len-le-length, prefix_len_passes, prefix_len_stops}
use Rattle.std.proofs.lemmas.List.Folds.{length-prefix_len}
use Rattle.std.proofs.str.Laws.{order}
use Rattle.std.proofs.lemmas.Bool.Decides.{nat_tests}
use Rattle.flow_model.specs.Tokens.{is_blank, is_inside_comment, is_name_byte, is_digit, is_plain}
use Rattle.flow_tokens.specs.declared.run.Class.{Class}
use Rattle.flow_tokens.specs.declared.run.Class.TheVariants.{Blank, Comment, Word, Digit, Plain}
use Rattle.flow_tokens.specs.Classes.{has}

blank_is_ascii : (b : ℕ) → is_blank b ≡ true → b < 128
blank_is_ascii b h = grind (arith, nat_tests)

name_is_ascii : (b : ℕ) → is_name_byte b ≡ true → b < 128
name_is_ascii b h = grind (arith, nat_tests)

digit_is_ascii : (b : ℕ) → is_digit b ≡ true → b < 128
digit_is_ascii b h = grind (arith, nat_tests)

comment_end_is_ascii : (b : ℕ) → is_inside_comment b ≡ false → b < 128
comment_end_is_ascii b h = grind (arith, nat_tests)

plain_end_is_ascii : (b : ℕ) → is_plain b ≡ false → b < 128
plain_end_is_ascii b h = grind (arith, nat_tests)

module _ (bs : List ℕ) (utf8 : IsUtf8 bs) where
  -- the byte behind the run is ASCII
  ends_before_ascii : (k : Class) → ((b : ℕ) → has k b ≡ false → b < 128) → prefix_len (has k) bs < length bs → IsCharBoundary bs (prefix_len (has k) bs)
  ends_before_ascii k ends inside =
      IsCharBoundary-before_ascii bs (prefix_len (has k) bs) inside (ends _ (prefix_len_stops (has k) bs 0 inside))

  -- the last byte of the run is ASCII
  ends_after_ascii : (k : Class) → ((b : ℕ) → has k b ≡ true → b < 128) → prefix_len (has k) bs < length bs → IsCharBoundary bs (prefix_len (has k) bs)
  ends_after_ascii k passes inside =
      ⊎_elim
      (λ some.
      let last : prefix_len (has k) bs - 1 < prefix_len (has k) bs = omega (arith, some) in
      let back : prefix_len (has k) bs - 1 + 1 ≡ prefix_len (has k) bs = omega (arith, some) in
      subst (IsCharBoundary bs) back
      (IsCharBoundary-after_ascii bs (prefix_len (has k) bs - 1) utf8 (omega (arith, last, inside)) (passes _ (prefix_len_passes (has k) bs _ 0 last))))
      (λ none. subst (IsCharBoundary bs) (omega (arith, none)) (IsCharBoundary-start bs utf8))
      (order 0 (prefix_len (has k) bs))

  ends_inside : (k : Class) → prefix_len (has k) bs < length bs → IsCharBoundary bs (prefix_len (has k) bs)
  ends_inside Blank inside = ends_after_ascii Blank blank_is_ascii inside
  ends_inside Comment inside = ends_before_ascii Comment comment_end_is_ascii inside
  ends_inside Word inside = ends_after_ascii Word name_is_ascii inside
  ends_inside Digit inside = ends_after_ascii Digit digit_is_ascii inside
  ends_inside Plain inside = ends_before_ascii Plain plain_end_is_ascii inside

  pub cut_behind_run : (k : Class) → IsCharBoundary bs (prefix_len (has k) bs)
  cut_behind_run k =
      ⊎_elim
      (λ inside. ends_inside k inside)
      (λ whole.
      let all : length bs ≡ prefix_len (has k) bs = omega (arith, whole, prefix_len-le-length (has k) bs) in
      subst (IsCharBoundary bs) all (IsCharBoundary-end bs))
      (order (prefix_len (has k) bs) (length bs))

-- a comment's first byte belongs to it
pub comment_begins : (bs : List ℕ) → get_or bs 0 0 ≡ 35 → 1 ≤ prefix_len (has Comment) bs
comment_begins [] e = absurd (omega (arith, e))
comment_begins (b ∷ bs) e =
    let P : ℕ → Type 0 = λ x. 1 ≤ prefix_len (has Comment) (x ∷ bs) in
    let here : P 35 = omega arith in
    subst P (sym e) here

-- a text with a first byte that isn't 0 has one
pub some_begins : (bs : List ℕ) → 0 < get_or bs 0 0 → 0 < length bs
some_begins [] h = absurd (omega (arith, h))
some_begins (b ∷ bs) h = omega arith

-- all bytes of a run pass
pub run_passes : (k : Class) (bs run : List ℕ) → run ≡ take (prefix_len (has k) bs) bs → (i : ℕ) → i < length run → has k (get_or run i 0) ≡ true
run_passes k bs run e i inside =
    let long : length run ≡ prefix_len (has k) bs = ap length e ∙ length-prefix_len (has k) bs in
    let before : i < prefix_len (has k) bs = omega (arith, inside, long) in
    ap (λ l. has k (get_or l i 0)) e ∙ ap (has k) (get_or-take (prefix_len (has k) bs) bs i 0 before) ∙ prefix_len_passes (has k) bs i 0 before

pub digits_pass : (bs run : List ℕ) → run ≡ take (prefix_len (has Digit) bs) bs → (i : ℕ) → i < length run → is_digit (get_or run i 0) ≡ true
digits_pass bs run e i inside = run_passes Digit bs run e i inside
