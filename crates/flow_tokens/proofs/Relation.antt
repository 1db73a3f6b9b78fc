-- The relation `TokensOf` and the plain program are the same; so each text has one list of tokens and one fault, or none.
use Rattle.std.proofs.Common.{◌≡◌, ℕ, zero, suc, ◌+◌, ◌-◌, ◌<◌, ◌≤◌, List, [], ◌∷◌, Bool, true, false, cond, ◌==◌, Option, Some, None, length, sym, ap, ◌∙◌, refl, subst, arith}
use Rattle.std.proofs.lemmas.List.{length-append}
use Rattle.std.proofs.lemmas.Option.{none-some, same_Some}
use Rattle.flow_base.specs.Syntax.{Bytes}
use Rattle.flow_base.specs.declared.token.Token.{Token}
use Rattle.flow_base.specs.declared.token.Word.{Word}
use Rattle.flow_model.specs.Tokens.{is_blank, is_inside_comment, front, past_gap, past_comment, Begins, Reads, Scans, TokensOf}
use Rattle.flow_tokens.specs.Scan.{Scanned, before, scan_from, scan}
use Rattle.flow_tokens.proofs.Longest.{some_token}
use Rattle.flow_tokens.proofs.Fronts.{front_begins, begins_front}

---- The relation and the plain program

pub reads_of_scans : (whole : ℕ) (rest : Bytes) (ts : List Token) (fault : Option ℕ) → Scans whole rest ts fault → Reads whole rest ts fault
reads_of_scans whole rest [] None s = s
reads_of_scans whole rest [] (Some place) s = (s.0, (λ w after b. none-some (w, after) (sym s.1 ∙ begins_front rest w after b)), s.2)
reads_of_scans whole rest (t ∷ ts) fault s =
    (s.0, (front_begins rest t.word s.0 s.1.0, s.1.1, s.1.2, reads_of_scans whole (past_gap s.0) ts fault s.1.3))

nothing_begins : (rest : Bytes) → ((w : Word) (after : Bytes) → Begins rest w after → ⊥) → (o : Option (Word × Bytes)) → front rest ≡ o → front rest ≡ None
nothing_begins rest none None e = e
nothing_begins rest none (Some found) e = absurd (none found.0 found.1 (front_begins rest found.0 found.1 e))

pub scans_of_reads : (whole : ℕ) (rest : Bytes) (ts : List Token) (fault : Option ℕ) → Reads whole rest ts fault → Scans whole rest ts fault
scans_of_reads whole rest [] None r = r
scans_of_reads whole rest [] (Some place) r = (r.0, nothing_begins rest r.1 (front rest) refl, r.2)
scans_of_reads whole rest (t ∷ ts) fault r =
    (r.0, (begins_front rest t.word r.0 r.1.0, r.1.1, r.1.2, scans_of_reads whole (past_gap r.0) ts fault r.1.3))

---- There is one list of tokens

nothing_before : (rest after : Bytes) (w : Word) → rest ≡ [] → front rest ≡ Some (w, after) → ⊥
nothing_before rest after w none e = none-some (w, after) (sym (ap front none) ∙ e)

same_token : (t u : Token) → t.word ≡ u.word → t.from ≡ u.from → t.to ≡ u.to → t ≡ u
same_token t u w from to = λ i. record { word = w i; from = from i; to = to i }

scans_once : (whole : ℕ) (rest : Bytes) (ts us : List Token) (f g : Option ℕ) → Scans whole rest ts f → Scans whole rest us g → (ts ≡ us) × (f ≡ g)
scans_once whole rest [] [] None None s r = (refl, refl)
scans_once whole rest [] [] None (Some q) s r = absurd (r.0 s)
scans_once whole rest [] [] (Some p) None s r = absurd (s.0 r)
scans_once whole rest [] [] (Some p) (Some q) s r = (refl, ap Some (s.2 ∙ sym r.2))
scans_once whole rest [] (u ∷ us) None g s r = absurd (nothing_before rest r.0 u.word s r.1.0)
scans_once whole rest [] (u ∷ us) (Some p) g s r = absurd (none-some (u.word, r.0) (sym s.1 ∙ r.1.0))
scans_once whole rest (t ∷ ts) [] f None s r = absurd (nothing_before rest s.0 t.word r s.1.0)
scans_once whole rest (t ∷ ts) [] f (Some q) s r = absurd (none-some (t.word, s.0) (sym r.1 ∙ s.1.0))
scans_once whole rest (t ∷ ts) (u ∷ us) f g s r =
    let same = same_Some (t.word, s.0) (u.word, r.0) (sym s.1.0 ∙ r.1.0) in
    let after : s.0 ≡ r.0 = ap (λ p. p.1) same in
    let one : t ≡ u = same_token t u (ap (λ p. p.0) same) (s.1.1 ∙ sym r.1.1) (s.1.2 ∙ ap (λ l. whole - length l) after ∙ sym r.1.2) in
    let more = scans_once whole (past_gap r.0) ts us f g (subst (λ l. Scans whole (past_gap l) ts f) after s.1.3) r.1.3 in
    ((λ i. one i ∷ more.0 i), more.1)

pub tokens_once : (text : Bytes) (ts us : List Token) (f g : Option ℕ) → TokensOf text ts f → TokensOf text us g → (ts ≡ us) × (f ≡ g)
tokens_once text ts us f g r s =
    scans_once (length text) (past_gap text) ts us f g (scans_of_reads (length text) (past_gap text) ts f r)
    (scans_of_reads (length text) (past_gap text) us g s)

---- There is a list of tokens

gap_step : (u v : Bool) (b : ℕ) (bs : Bytes) → length (past_gap bs) ≤ length bs → length (past_comment bs) ≤ length bs → length (cond u (past_gap bs) (cond v (past_comment bs) (b ∷ bs))) ≤ length (b ∷ bs)
gap_step true v b bs g c = omega (arith, g)
gap_step false true b bs g c = omega (arith, c)
gap_step false false b bs g c = omega arith

comment_step : (u : Bool) (b : ℕ) (bs : Bytes) → length (past_gap bs) ≤ length bs → length (past_comment bs) ≤ length bs → length (cond u (past_comment bs) (past_gap bs)) ≤ length (b ∷ bs)
comment_step true b bs g c = omega (arith, c)
comment_step false b bs g c = omega (arith, g)

mutual
  gap_shortens : (bs : Bytes) → length (past_gap bs) ≤ length bs
  gap_shortens [] = omega arith
  gap_shortens (b ∷ bs) = gap_step (is_blank b) (b == 35) b bs (gap_shortens bs) (comment_shortens bs)

  comment_shortens : (bs : Bytes) → length (past_comment bs) ≤ length bs
  comment_shortens [] = omega arith
  comment_shortens (b ∷ bs) = comment_step (is_inside_comment b) b bs (gap_shortens bs) (comment_shortens bs)

front_shortens : (rest after : Bytes) (w : Word) → front rest ≡ Some (w, after) → length after < length rest
front_shortens rest after w e =
    let b = front_begins rest w after e in
    let some : 0 < length b.0 = some_token b.0 b.1.1.0 in
    let sizes : length rest ≡ length b.0 + length after = ap length b.1.0 ∙ length-append b.0 after in
    omega (arith, some, sizes)

before_scans : (whole : ℕ) (rest : Bytes) (later : Bytes → Scanned) → 0 < length rest → ((after : Bytes) → length after < length rest → Scans whole (past_gap after) (later (past_gap after)).0 (later (past_gap after)).1) → (o : Option (Word × Bytes)) → front rest ≡ o → Scans whole rest (before whole rest o later).0 (before whole rest o later).1
before_scans whole rest later some goes None e = ((λ none. let h : length rest ≡ 0 = ap length none in omega (arith, h, some)), e, refl)
before_scans whole rest later some goes (Some found) e = (found.1, (e, refl, refl, goes found.1 (front_shortens rest found.1 found.0 e)))

scan_from_scans : (steps whole : ℕ) (rest : Bytes) → length rest ≤ steps → Scans whole rest (scan_from steps whole rest).0 (scan_from steps whole rest).1
scan_from_scans zero whole [] enough = refl
scan_from_scans zero whole (b ∷ bs) enough = absurd (omega (arith, enough))
scan_from_scans (suc steps) whole [] enough = refl
scan_from_scans (suc steps) whole (b ∷ bs) enough =
    before_scans whole (b ∷ bs) (scan_from steps whole) (omega arith)
    (λ after shorter. scan_from_scans steps whole (past_gap after) (omega (arith, shorter, gap_shortens after, enough))) (front (b ∷ bs)) refl

pub scanned : (text : Bytes) → TokensOf text (scan text).0 (scan text).1
unfolding scan
scanned text =
    reads_of_scans (length text) (past_gap text) _ _ (scan_from_scans (length text) (length text) (past_gap text) (gap_shortens text))
