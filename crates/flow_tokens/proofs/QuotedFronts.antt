-- Texts in quotes: what stands up to the first quote that no \ escapes is the longest token there.
use Rattle.std.proofs.Common.{◌≡◌, ℕ, ◌+◌, ◌≤◌, [], ◌∷◌, ◌++◌, Bool, true, false, cond, ◌==◌, nat_le, Option, Some, None, length, drop, append_assoc, inl, inr, sym, ap, ◌∙◌, refl, subst, arith}
use Rattle.std.proofs.lemmas.Bool.Decides.{nat_tests}
use Rattle.std.proofs.lemmas.List.{length-append}
use Rattle.std.proofs.lemmas.Option.{none-some, same_Some, cond_some}
use Rattle.flow_base.specs.Syntax.{Bytes}
use Rattle.flow_base.specs.declared.token.Word.{Word}
use Rattle.flow_base.specs.declared.token.Word.TheVariants as word
use Rattle.flow_model.specs.Tokens.{is_plain, escaped, is_keyword, unquoted, behind_escape, after_character, after_escape, text_word, Writes, nothing, itself, escape, Quotes, Spells, IsLongest, Begins}
use Rattle.flow_tokens.proofs.Quotes.{plain_is_no_quote, plain_is_no_escape, third}
use Rattle.flow_tokens.proofs.Longest.{letters, digits, quotes, signs, form_at, mark_form, Looks, form_quote, spells_at, looks_at}
use Rattle.flow_tokens.proofs.NameFronts.{le_of_test, test_of_le}

---- What `unquoted` finds is written there

abbrev Found : Bytes → Option (Bytes × Bytes) → Type 0
Found bs None = Unit {0}
Found bs (Some found) = (inside : Bytes) × ((bs ≡ inside ++ 34 ∷ found.1) × Writes inside found.0)

found_plain : (b : ℕ) (bs : Bytes) (o : Option (Bytes × Bytes)) → is_plain b ≡ true → Found bs o → Found (b ∷ bs) (after_character b o)
found_plain b bs None p f = tt
found_plain b bs (Some found) p f = (b ∷ f.0, (ap (λ l. b ∷ l) f.1.0, itself p f.1.1))

found_escaped : (b : ℕ) (bs : Bytes) (e : Option ℕ) (o : Option (Bytes × Bytes)) → escaped b ≡ e → Found bs o → Found (92 ∷ b ∷ bs) (after_escape e o)
found_escaped b bs None o h f = tt
found_escaped b bs (Some c) None h f = tt
found_escaped b bs (Some c) (Some found) h f = (92 ∷ b ∷ f.0, (ap (λ l. 92 ∷ b ∷ l) f.1.0, escape h f.1.1))

is_byte : (b k : ℕ) → true ≡ (b == k) → k ≡ b
is_byte b k h = grind (arith, nat_tests)

found_next : (u v w : Bool) (b : ℕ) (bs : Bytes) → u ≡ (b == 34) → v ≡ (b == 92) → w ≡ is_plain b → Found bs (unquoted bs) → Found (92 ∷ bs) (behind_escape bs) → Found (b ∷ bs) (cond u (Some ([], bs)) (cond v (behind_escape bs) (cond w (after_character b (unquoted bs)) None)))
found_next true v w b bs e g h f k = ([], (ap (λ x. x ∷ bs) (sym (is_byte b 34 e)), nothing))
found_next false true w b bs e g h f k = subst (λ x. Found (x ∷ bs) (behind_escape bs)) (is_byte b 92 g) k
found_next false false true b bs e g h f k = found_plain b bs (unquoted bs) (sym h) f
found_next false false false b bs e g h f k = tt

mutual
  is_found : (bs : Bytes) → Found bs (unquoted bs)
  is_found [] = tt
  is_found (b ∷ bs) = found_next (b == 34) (b == 92) (is_plain b) b bs refl refl refl (is_found bs) (is_found_behind bs)

  is_found_behind : (bs : Bytes) → Found (92 ∷ bs) (behind_escape bs)
  is_found_behind [] = tt
  is_found_behind (c ∷ bs) = found_escaped c bs (escaped c) (unquoted bs) refl (is_found bs)

---- What is written `unquoted` finds

finds : (inside value after : Bytes) → Writes inside value → unquoted (inside ++ 34 ∷ after) ≡ Some (value, after)
finds _ _ after nothing = refl
finds _ _ after (itself {b} {bs} {value} p w) =
    third (b == 34) (b == 92) (is_plain b) (Some ([], bs ++ 34 ∷ after)) (behind_escape (bs ++ 34 ∷ after)) (after_character b (unquoted (bs ++ 34 ∷ after))) None (plain_is_no_quote b (sym p)) (plain_is_no_escape b (sym p)) p
    ∙ ap (after_character b) (finds bs value after w)
finds _ _ after (escape {b} {c} {bs} {value} h w) =
    ap (λ e. after_escape e (unquoted (bs ++ 34 ∷ after))) h ∙ ap (after_character c) (finds bs value after w)

-- a front in quotes is what `unquoted` finds behind the first quote
quotes_find : (text front behind value : Bytes) → text ≡ front ++ behind → Quotes front value → unquoted (drop 1 text) ≡ Some (value, behind)
quotes_find text front behind value e q =
    let whole : drop 1 text ≡ q.0 ++ 34 ∷ behind = ap (drop 1) (e ∙ ap (λ l. l ++ behind) q.1.0) ∙ append_assoc q.0 (34 ∷ []) behind in
    ap unquoted whole ∙ finds q.0 value behind q.1.1

---- The front

text_word_parts : (o : Option (Bytes × Bytes)) (w : Word) (after : Bytes) → text_word o ≡ Some (w, after) → (value : Bytes) × ((o ≡ Some (value, after)) × (length value ≤ 4096) × (word.Text value ≡ w))
text_word_parts None w after e = absurd (none-some (w, after) e)
text_word_parts (Some found) w after e =
    let parts = cond_some (nat_le (length found.0) 4096) (word.Text found.0, found.1) (w, after) e in
    (found.0, (ap (λ p. Some (found.0, p.1)) parts.1, le_of_test _ _ parts.0, ap (λ p. p.0) parts.1))

opens : (text : Bytes) → form_at text ≡ quotes → text ≡ 34 ∷ drop 1 text
opens [] f = let h : signs ≡ quotes = f in absurd (cc)
opens (b ∷ bs) f = ap (λ x. x ∷ bs) (form_quote b f)

quoted_longest : (text token value after : Bytes) → form_at text ≡ quotes → text ≡ token ++ after → Quotes token value → IsLongest token text
quoted_longest text token value after f e q = (
  inr (inr (inl (value, q))),
  λ front behind g l.
      let other : Looks quotes front = subst (λ k. Looks k front) f (looks_at text front behind g l) in
      let same = same_Some _ _ (sym (quotes_find text front behind other.0 g other.1) ∙ quotes_find text token after value e q) in
      let lefts : length behind ≡ length after = ap (λ p. length p.1) same in
      let sizes : length front + length behind ≡ length token + length after =
      sym (length-append front behind) ∙ ap length (sym g ∙ e) ∙ length-append token after in
      omega (arith, lefts, sizes),
)

pub quoted_begins : (text after : Bytes) (w : Word) → form_at text ≡ quotes → text_word (unquoted (drop 1 text)) ≡ Some (w, after) → Begins text w after
quoted_begins text after w f e =
    let parts = text_word_parts (unquoted (drop 1 text)) w after e in
    let found : Found (drop 1 text) (Some (parts.0, after)) = subst (Found (drop 1 text)) parts.1.0 (is_found (drop 1 text)) in
    let token = 34 ∷ (found.0 ++ 34 ∷ []) in
    let q : Quotes token parts.0 = (found.0, (refl, found.1.1)) in
    let whole : text ≡ token ++ after = opens text f ∙ ap (λ l. 34 ∷ l) (found.1.0 ∙ sym (append_assoc found.0 (34 ∷ []) after)) in
    let spells : Spells token (word.Text parts.0) = (q, parts.1.1) in
    (token, (whole, quoted_longest text token parts.0 after f whole q, subst (Spells token) parts.1.2 spells))

no_mark : (v : Bool) → quotes ≡ mark_form v → ⊥
no_mark true h = cc
no_mark false h = cc

pub begins_quoted : (text after : Bytes) (w : Word) → form_at text ≡ quotes → Begins text w after → text_word (unquoted (drop 1 text)) ≡ Some (w, after)
begins_quoted text after (word.Text value) f b =
    ap text_word (quotes_find text b.0 after value b.1.0 b.1.2.0) ∙ ap (λ v. cond v (Some (word.Text value, after)) None) (test_of_le _ _ b.1.2.1)
begins_quoted text after (word.Name name) f b = let h : quotes ≡ letters = sym f ∙ spells_at text b.0 after (word.Name name) b.1.0 b.1.1.0 b.1.2 in absurd (cc)
begins_quoted text after (word.Int z) f b = let h : quotes ≡ digits = sym f ∙ spells_at text b.0 after (word.Int z) b.1.0 b.1.1.0 b.1.2 in absurd (cc)
begins_quoted text after (word.Mark m) f b = absurd (no_mark (is_keyword m) (sym f ∙ spells_at text b.0 after (word.Mark m) b.1.0 b.1.1.0 b.1.2))
