-- Marks: the one or two bytes that the plain program takes are the longest token there.
use Rattle.std.proofs.Common.{◌≡◌, ℕ, ◌<◌, ◌≤◌, [], ◌∷◌, ◌++◌, Bool, true, false, cond, ◌==◌, ◌&&◌, Option, Some, None, length, get_or, drop, ⊎_elim, inl, inr, sym, ap, ◌∙◌, refl, subst, arith}
use Rattle.std.specs.Prelude.{◌⊎◌}
use Rattle.std.proofs.lemmas.Bool.{true≢false, and_parts}
use Rattle.std.proofs.lemmas.Bool.Decides.{nat_tests}
use Rattle.std.proofs.lemmas.Option.{none-some, same_Some}
use Rattle.flow_base.specs.Syntax.{Bytes}
use Rattle.flow_base.specs.declared.token.Mark.{Mark}
use Rattle.flow_base.specs.declared.token.Mark.TheVariants as mark
use Rattle.flow_base.specs.declared.token.Word.{Word}
use Rattle.flow_base.specs.declared.token.Word.TheVariants as word
use Rattle.flow_model.specs.Tokens.{is_keyword, spelled, long_mark, short_mark, short_word, mark_word, LooksLikeToken, IsLongest, Begins}
use Rattle.flow_tokens.proofs.Longest.{letters, digits, quotes, signs, form_at, mark_form, Looks, spells_at, looks_at}

---- The marks, and the bytes at which the plain program finds them

abbrev IsLong : Mark → Type 0
IsLong m = (a : ℕ) × ((b : ℕ) × ((spelled m ≡ a ∷ b ∷ []) × (long_mark a b ≡ Some m)))

abbrev IsShort : Mark → Type 0
IsShort m = (a : ℕ) × ((spelled m ≡ a ∷ []) × (short_mark a ≡ Some m))

long_or_short : (m : Mark) → is_keyword m ≡ false → IsLong m ⊎ IsShort m
long_or_short mark.Open h = inr (40, (refl, refl))
long_or_short mark.Close h = inr (41, (refl, refl))
long_or_short mark.BraceOpen h = inr (123, (refl, refl))
long_or_short mark.BraceClose h = inr (125, (refl, refl))
long_or_short mark.Comma h = inr (44, (refl, refl))
long_or_short mark.Semicolon h = inr (59, (refl, refl))
long_or_short mark.Colon h = inr (58, (refl, refl))
long_or_short mark.Assign h = inr (61, (refl, refl))
long_or_short mark.Equal h = inl (61, (61, (refl, refl)))
long_or_short mark.Differ h = inl (33, (61, (refl, refl)))
long_or_short mark.Less h = inr (60, (refl, refl))
long_or_short mark.AtMost h = inl (60, (61, (refl, refl)))
long_or_short mark.Greater h = inr (62, (refl, refl))
long_or_short mark.AtLeast h = inl (62, (61, (refl, refl)))
long_or_short mark.Arrow h = inl (45, (62, (refl, refl)))
long_or_short mark.Plus h = inr (43, (refl, refl))
long_or_short mark.Join h = inl (43, (43, (refl, refl)))
long_or_short mark.Minus h = inr (45, (refl, refl))
long_or_short mark.Times h = inr (42, (refl, refl))
long_or_short mark.Over h = inr (47, (refl, refl))
long_or_short mark.Percent h = inr (37, (refl, refl))
long_or_short _ h = absurd (true≢false h)

-- one test of a chain of tests
chain : {A : Type 0} (P : A → Type 0) (v : Bool) (x y : A) (o : Option A) → cond v (Some x) o ≡ Some y → (v ≡ true → P x) → (o ≡ Some y → P y) → P y
chain P true x y o e here later = subst P (same_Some x y e) (here refl)
chain P false x y o e here later = later e

abbrev LongAt : ℕ → ℕ → Mark → Type 0
LongAt a b m = (spelled m ≡ a ∷ b ∷ []) × (is_keyword m ≡ false) × (0 < b)

abbrev ShortAt : ℕ → Mark → Type 0
ShortAt a m = (spelled m ≡ a ∷ []) × (is_keyword m ≡ false) × (0 < a)

is_byte : (b k : ℕ) → (b == k) ≡ true → k ≡ b
is_byte b k h = grind (arith, nat_tests)

long_here : (a b k l : ℕ) (m : Mark) → LongAt k l m → (a == k && b == l) ≡ true → LongAt a b m
long_here a b k l m at h =
    let both = and_parts (a == k) (b == l) h in
    subst (λ x. LongAt x b m) (is_byte a k both.0) (subst (λ y. LongAt k y m) (is_byte b l both.1) at)

short_here : (a k : ℕ) (m : Mark) → ShortAt k m → (a == k) ≡ true → ShortAt a m
short_here a k m at h = subst (λ x. ShortAt x m) (is_byte a k h) at

long_mark_at : (a b : ℕ) (m : Mark) → long_mark a b ≡ Some m → LongAt a b m
long_mark_at a b m e =
    chain (LongAt a b) _ mark.Equal m _ e (long_here a b 61 61 mark.Equal (refl, refl, omega arith)) λ e.
    chain (LongAt a b) _ mark.Differ m _ e (long_here a b 33 61 mark.Differ (refl, refl, omega arith)) λ e.
    chain (LongAt a b) _ mark.AtMost m _ e (long_here a b 60 61 mark.AtMost (refl, refl, omega arith)) λ e.
    chain (LongAt a b) _ mark.AtLeast m _ e (long_here a b 62 61 mark.AtLeast (refl, refl, omega arith)) λ e.
    chain (LongAt a b) _ mark.Arrow m _ e (long_here a b 45 62 mark.Arrow (refl, refl, omega arith)) λ e.
    chain (LongAt a b) _ mark.Join m _ e (long_here a b 43 43 mark.Join (refl, refl, omega arith)) λ e. absurd (none-some m e)

short_mark_at : (a : ℕ) (m : Mark) → short_mark a ≡ Some m → ShortAt a m
short_mark_at a m e =
    chain (ShortAt a) _ mark.Open m _ e (short_here a 40 mark.Open (refl, refl, omega arith)) λ e.
    chain (ShortAt a) _ mark.Close m _ e (short_here a 41 mark.Close (refl, refl, omega arith)) λ e.
    chain (ShortAt a) _ mark.BraceOpen m _ e (short_here a 123 mark.BraceOpen (refl, refl, omega arith)) λ e.
    chain (ShortAt a) _ mark.BraceClose m _ e (short_here a 125 mark.BraceClose (refl, refl, omega arith)) λ e.
    chain (ShortAt a) _ mark.Comma m _ e (short_here a 44 mark.Comma (refl, refl, omega arith)) λ e.
    chain (ShortAt a) _ mark.Semicolon m _ e (short_here a 59 mark.Semicolon (refl, refl, omega arith)) λ e.
    chain (ShortAt a) _ mark.Colon m _ e (short_here a 58 mark.Colon (refl, refl, omega arith)) λ e.
    chain (ShortAt a) _ mark.Assign m _ e (short_here a 61 mark.Assign (refl, refl, omega arith)) λ e.
    chain (ShortAt a) _ mark.Less m _ e (short_here a 60 mark.Less (refl, refl, omega arith)) λ e.
    chain (ShortAt a) _ mark.Greater m _ e (short_here a 62 mark.Greater (refl, refl, omega arith)) λ e.
    chain (ShortAt a) _ mark.Plus m _ e (short_here a 43 mark.Plus (refl, refl, omega arith)) λ e.
    chain (ShortAt a) _ mark.Minus m _ e (short_here a 45 mark.Minus (refl, refl, omega arith)) λ e.
    chain (ShortAt a) _ mark.Times m _ e (short_here a 42 mark.Times (refl, refl, omega arith)) λ e.
    chain (ShortAt a) _ mark.Over m _ e (short_here a 47 mark.Over (refl, refl, omega arith)) λ e.
    chain (ShortAt a) _ mark.Percent m _ e (short_here a 37 mark.Percent (refl, refl, omega arith)) λ e. absurd (none-some m e)

---- How long a mark at the front may be

at_most_two : (bs : Bytes) → Looks signs bs → length bs ≤ 2
at_most_two bs l =
    ⊎_elim (λ long. let h : length bs ≡ 2 = ap length (l.1.1 ∙ long.1.1.0) in omega arith)
    (λ short. let h : length bs ≡ 1 = ap length (l.1.1 ∙ short.1.0) in omega arith) (long_or_short l.0 l.1.0)

-- where the first two bytes are no mark
at_most_one : (text front behind : Bytes) → long_mark (get_or text 0 0) (get_or text 1 0) ≡ None → text ≡ front ++ behind → Looks signs front → length front ≤ 1
at_most_one text front behind none e l =
    ⊎_elim (λ long.
    let whole : text ≡ long.0 ∷ long.1.0 ∷ behind = e ∙ ap (λ x. x ++ behind) (l.1.1 ∙ long.1.1.0) in
    absurd (none-some l.0 (sym none ∙ ap (λ x. long_mark (get_or x 0 0) (get_or x 1 0)) whole ∙ long.1.1.1)))
    (λ short. let h : length front ≡ 1 = ap length (l.1.1 ∙ short.1.0) in omega arith) (long_or_short l.0 l.1.0)

mark_looks : (bs : Bytes) (m : Mark) → is_keyword m ≡ false → spelled m ≡ bs → LooksLikeToken bs
mark_looks bs m k e = inr (inr (inr (m, (k, sym e))))

---- The front

two_bytes : (text : Bytes) → 0 < get_or text 1 0 → text ≡ get_or text 0 0 ∷ get_or text 1 0 ∷ drop 1 (drop 1 text)
two_bytes [] h = absurd (omega (arith, h))
two_bytes (a ∷ []) h = absurd (omega (arith, h))
two_bytes (a ∷ b ∷ bs) h = refl

one_byte : (text : Bytes) → 0 < get_or text 0 0 → text ≡ get_or text 0 0 ∷ drop 1 text
one_byte [] h = absurd (omega (arith, h))
one_byte (a ∷ bs) h = refl

module _ (text : Bytes) (f : form_at text ≡ signs) where
  long_begins : (m : Mark) → long_mark (get_or text 0 0) (get_or text 1 0) ≡ Some m → Begins text (word.Mark m) (drop 1 (drop 1 text))
  long_begins m e =
      let at = long_mark_at (get_or text 0 0) (get_or text 1 0) m e in (
        get_or text 0 0 ∷ get_or text 1 0 ∷ [],
        (
          two_bytes text at.2,
          (
            mark_looks _ m at.1 at.0,
            λ front behind g l. at_most_two front (subst (λ k. Looks k front) f (looks_at text front behind g l)),
          ),
          sym at.0,
        ),
      )

  short_begins : (m : Mark) → long_mark (get_or text 0 0) (get_or text 1 0) ≡ None → short_mark (get_or text 0 0) ≡ Some m → Begins text (word.Mark m) (drop 1 text)
  short_begins m none e =
      let at = short_mark_at (get_or text 0 0) m e in (
        get_or text 0 0 ∷ [],
        (
          one_byte text at.2,
          (
            mark_looks _ m at.1 at.0,
            λ front behind g l. at_most_one text front behind none g (subst (λ k. Looks k front) f (looks_at text front behind g l)),
          ),
          sym at.0,
        ),
      )

  short_word_begins : (after : Bytes) (w : Word) (o : Option Mark) → long_mark (get_or text 0 0) (get_or text 1 0) ≡ None → short_mark (get_or text 0 0) ≡ o → short_word text o ≡ Some (w, after) → Begins text w after
  short_word_begins after w None none h e = absurd (none-some (w, after) e)
  short_word_begins after w (Some m) none h e =
      let same = same_Some (word.Mark m, drop 1 text) (w, after) e in
      subst (λ x. Begins text x.0 x.1) same (short_begins m none h)

  mark_word_begins : (after : Bytes) (w : Word) (o : Option Mark) → long_mark (get_or text 0 0) (get_or text 1 0) ≡ o → mark_word text o ≡ Some (w, after) → Begins text w after
  mark_word_begins after w (Some m) h e =
      let same = same_Some (word.Mark m, drop 1 (drop 1 text)) (w, after) e in
      subst (λ x. Begins text x.0 x.1) same (long_begins m h)
  mark_word_begins after w None h e = short_word_begins after w (short_mark (get_or text 0 0)) h refl e

pub mark_begins : (text after : Bytes) (w : Word) → form_at text ≡ signs → mark_word text (long_mark (get_or text 0 0) (get_or text 1 0)) ≡ Some (w, after) → Begins text w after
mark_begins text after w f e = mark_word_begins text f after w (long_mark (get_or text 0 0) (get_or text 1 0)) refl e

no_keyword : (v : Bool) → signs ≡ mark_form v → v ≡ false
no_keyword true h = absurd (cc)
no_keyword false h = refl

-- no mark of two bytes stands where one of one byte is the longest token
no_longer : (text token after : Bytes) → text ≡ token ++ after → IsLongest token text → length token ≡ 1 → (o : Option Mark) → long_mark (get_or text 0 0) (get_or text 1 0) ≡ o → o ≡ None
no_longer text token after e l one None h = refl
no_longer text token after e l one (Some m) h =
    let at = long_mark_at (get_or text 0 0) (get_or text 1 0) m h in
    let two : 2 ≤ length token = l.1 (get_or text 0 0 ∷ get_or text 1 0 ∷ []) (drop 1 (drop 1 text)) (two_bytes text at.2) (mark_looks _ m at.1 at.0) in
    absurd (omega (arith, two, one))

mark_found : (text token after : Bytes) (m : Mark) → text ≡ token ++ after → IsLongest token text → token ≡ spelled m → IsLong m ⊎ IsShort m → mark_word text (long_mark (get_or text 0 0) (get_or text 1 0)) ≡ Some (word.Mark m, after)
mark_found text token after m e l s (inl long) =
    let whole : text ≡ long.0 ∷ long.1.0 ∷ after = e ∙ ap (λ x. x ++ after) (s ∙ long.1.1.0) in
    ap (λ x. mark_word x (long_mark (get_or x 0 0) (get_or x 1 0))) whole ∙ ap (mark_word (long.0 ∷ long.1.0 ∷ after)) long.1.1.1
mark_found text token after m e l s (inr short) =
    let whole : text ≡ short.0 ∷ after = e ∙ ap (λ x. x ++ after) (s ∙ short.1.0) in
    ap (mark_word text) (no_longer text token after e l (ap length (s ∙ short.1.0)) (long_mark (get_or text 0 0) (get_or text 1 0)) refl)
    ∙ ap (λ x. short_word x (short_mark (get_or x 0 0))) whole
    ∙ ap (short_word (short.0 ∷ after)) short.1.1

pub begins_mark : (text after : Bytes) (w : Word) → form_at text ≡ signs → Begins text w after → mark_word text (long_mark (get_or text 0 0) (get_or text 1 0)) ≡ Some (w, after)
begins_mark text after (word.Mark m) f b =
    let k : is_keyword m ≡ false = no_keyword (is_keyword m) (sym f ∙ spells_at text b.0 after (word.Mark m) b.1.0 b.1.1.0 b.1.2) in
    mark_found text b.0 after m b.1.0 b.1.1 b.1.2 (long_or_short m k)
begins_mark text after (word.Name name) f b = let h : signs ≡ letters = sym f ∙ spells_at text b.0 after (word.Name name) b.1.0 b.1.1.0 b.1.2 in absurd (cc)
begins_mark text after (word.Int z) f b = let h : signs ≡ digits = sym f ∙ spells_at text b.0 after (word.Int z) b.1.0 b.1.1.0 b.1.2 in absurd (cc)
begins_mark text after (word.Text value) f b = let h : signs ≡ quotes = sym f ∙ spells_at text b.0 after (word.Text value) b.1.0 b.1.1.0 b.1.2 in absurd (cc)
