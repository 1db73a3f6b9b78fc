-- A text means one thing at most.
use Rattle.std.proofs.Common.{◌≡◌, ◌∙◌, ◌⊎◌, inl, inr, ℕ, List, [], ◌∷◌, ◌++◌, Option, Some, None, Result, Ok, Err, length, refl, ap, sym, subst, append_assoc, arith}
use Rattle.std.proofs.lemmas.List.{append-nil}
use Rattle.flow_base.specs.Codes.{code_number}
use Rattle.flow_base.specs.Syntax.{Bytes, Program}
use Rattle.flow_base.specs.declared.command.TextFault.{TextFault}
use Rattle.flow_base.specs.declared.token.Token.{Token}
use Rattle.flow_model.specs.Lexeme.{Lexeme, lexemes}
use Rattle.flow_model.specs.Grammar.{Reads, Begins}
use Rattle.flow_model.specs.Limits.{Within}
use Rattle.flow_model.specs.Parse.{IsFirstUnfit, IsFirstDeep}
use Rattle.flow_model.specs.WellFormed.{WellFormed, IsFirstFault, IsNoLater}
use Rattle.flow_model.specs.Meaning.{IsProgramOf, IsFaultOf, unfit, ends_early, too_deep, bad_token, IsTextFault, Means}
use Rattle.flow_tokens.proofs.Relation.{tokens_once}
use Rattle.flow_syntax.proofs.Codes.{same_code}
use Rattle.flow_syntax.proofs.Faults.{within_prefix}
use Rattle.flow_syntax.proofs.Unique.{one_program}

-- Two ways to cut a list at a token: at the same one, or one before the other.
splits : (x y a b : List Lexeme) (t u : Lexeme) → x ++ (t ∷ a) ≡ y ++ (u ∷ b) → ((x ≡ y) × (t ≡ u)) ⊎ (((c : List Lexeme) × (x ≡ (y ++ (u ∷ [])) ++ c)) ⊎ ((c : List Lexeme) × (y ≡ (x ++ (t ∷ [])) ++ c)))
splits [] [] a b t u h = let k : t ≡ u = cc in inl (refl, k)
splits [] (z ∷ y) a b t u h = let k : z ≡ t = cc in inr (inr (y, ap (λ v. v ∷ y) k))
splits (z ∷ x) [] a b t u h = let k : z ≡ u = cc in inr (inl (x, ap (λ v. v ∷ x) k))
splits (z ∷ x) (w ∷ y) a b t u h =
    let k : z ≡ w = cc in
    let e : x ++ (t ∷ a) ≡ y ++ (u ∷ b) = cc in
    elim (splits x y a b t u e) [
      | inl q ↦ inl (ap (λ v. v ∷ x) k ∙ ap (λ v. w ∷ v) q.0, q.1)
      | inr q ↦ inr (elim q [ inl c ↦ inl (c.0, ap (λ v. v ∷ x) k ∙ ap (λ v. w ∷ v) c.1) | inr c ↦ inr (c.0, ap (λ v. v ∷ y) (sym k) ∙ ap (λ v. z ∷ v) c.1) ])
    ]

-- a program begins so, within the limits
abbrev Good : List Lexeme → Type 0
Good x = Within x × Begins x

pub begins_prefix : (ts x y : List Lexeme) → ts ≡ x ++ y → Begins ts → Begins x
begins_prefix ts x y e b = (b.0, y ++ b.1, b.2 ∙ ap (λ v. v ++ b.1) e ∙ append_assoc x y b.1)

pub read_begins : (ts : List Lexeme) (p : Program) → Reads ts p → Begins ts
read_begins ts p r = (r.0, [], r.1 ∙ sym (append-nil ts))

good_prefix : (ts x y : List Lexeme) → ts ≡ x ++ y → Good ts → Good x
good_prefix ts x y e g = (within_prefix ts x y e g.0, begins_prefix ts x y e g.1)

-- the tokens are good to before this one
abbrev IsBreak : List Lexeme → List Lexeme → Lexeme → Type 0
IsBreak ts x t = (a : List Lexeme) × (ts ≡ x ++ (t ∷ a)) × Good x × (Good (x ++ (t ∷ [])) → ⊥)

break_once : (ts x y : List Lexeme) (t u : Lexeme) → IsBreak ts x t → IsBreak ts y u → (x ≡ y) × (t ≡ u)
break_once ts x y t u p q =
    elim (splits x y p.0 q.0 t u (sym p.1 ∙ q.1)) [
      | inl e ↦ e
      | inr e ↦ absurd (elim e [ inl c ↦ q.3 (good_prefix x (y ++ (u ∷ [])) c.0 c.1 p.2) | inr c ↦ p.3 (good_prefix y (x ++ (t ∷ [])) c.0 c.1 q.2) ])
    ]

no_break : (ts x : List Lexeme) (t : Lexeme) → IsBreak ts x t → Good ts → ⊥
no_break ts x t p g = p.3 (good_prefix ts (x ++ (t ∷ [])) p.0 (p.1 ∙ sym (append_assoc x (t ∷ []) p.0)) g)

unfit_break : (ts : List Lexeme) (at : ℕ) (h : IsFirstUnfit ts at) → IsBreak ts h.0 h.1
unfit_break ts at h = (h.2, h.3, (h.4, h.5), λ g. h.6 g.1)

deep_break : (ts : List Lexeme) (at : ℕ) (h : IsFirstDeep ts at) → IsBreak ts h.0 h.1
deep_break ts at h = (h.2, h.3, (h.4, begins_prefix (h.0 ++ (h.1 ∷ [])) h.0 (h.1 ∷ []) refl h.6), λ g. h.5 g.0)

-- where a token is unfit, none passes a limit
unfit_or_deep : (ts : List Lexeme) (at place : ℕ) → IsFirstUnfit ts at → IsFirstDeep ts place → ⊥
unfit_or_deep ts at place h k =
    let e = break_once ts h.0 k.0 h.1 k.1 (unfit_break ts at h) (deep_break ts place k) in
    let w : h.0 ++ (h.1 ∷ []) ≡ k.0 ++ (k.1 ∷ []) = ap (λ v. v ++ (h.1 ∷ [])) e.0 ∙ ap (λ v. k.0 ++ (v ∷ [])) e.1 in
    h.6 (subst Begins (sym w) k.6)

unfit_once : (ts : List Lexeme) (at place : ℕ) → IsFirstUnfit ts at → IsFirstUnfit ts place → at ≡ place
unfit_once ts at place h k =
    let e = break_once ts h.0 k.0 h.1 k.1 (unfit_break ts at h) (unfit_break ts place k) in h.7 ∙ ap (λ (t : Lexeme). t.at) e.1 ∙ sym k.7

deep_once : (ts : List Lexeme) (at place : ℕ) → IsFirstDeep ts at → IsFirstDeep ts place → at ≡ place
deep_once ts at place h k =
    let e = break_once ts h.0 k.0 h.1 k.1 (deep_break ts at h) (deep_break ts place k) in h.7 ∙ ap (λ (t : Lexeme). t.at) e.1 ∙ sym k.7

same_fault : (f g : TextFault) → f.code ≡ g.code → f.at ≡ g.at → f ≡ g
same_fault f g c a = λ i. record { code = c i; at = a i }

some_place : (bad : Option ℕ) (at place : ℕ) → bad ≡ Some at → bad ≡ Some place → at ≡ place
some_place bad at place h k = cc

none_or_some : (bad : Option ℕ) (at : ℕ) → bad ≡ None → bad ≡ Some at → ⊥
none_or_some bad at h k = absurd (cc)

pub faults_once : (ts : List Lexeme) (bad : Option ℕ) (end : ℕ) (f g : TextFault) → IsFaultOf ts bad end f → IsFaultOf ts bad end g → f ≡ g
faults_once ts bad end f g (unfit c h) (unfit d k) = same_fault f g (c ∙ sym d) (unfit_once ts f.at g.at h k)
faults_once ts bad end f g (unfit c h) (too_deep d k) = absurd (unfit_or_deep ts f.at g.at h k)
faults_once ts bad end f g (unfit c h) (ends_early d b e a) = absurd (no_break ts h.0 h.1 (unfit_break ts f.at h) (e.0, e.1))
faults_once ts bad end f g (unfit c h) (bad_token d b w s) = absurd (no_break ts h.0 h.1 (unfit_break ts f.at h) (w, s))
faults_once ts bad end f g (too_deep c h) (unfit d k) = absurd (unfit_or_deep ts g.at f.at k h)
faults_once ts bad end f g (too_deep c h) (too_deep d k) = same_fault f g (c ∙ sym d) (deep_once ts f.at g.at h k)
faults_once ts bad end f g (too_deep c h) (ends_early d b e a) = absurd (no_break ts h.0 h.1 (deep_break ts f.at h) (e.0, e.1))
faults_once ts bad end f g (too_deep c h) (bad_token d b w s) = absurd (no_break ts h.0 h.1 (deep_break ts f.at h) (w, s))
faults_once ts bad end f g (ends_early c b e a) (unfit d k) = absurd (no_break ts k.0 k.1 (unfit_break ts g.at k) (e.0, e.1))
faults_once ts bad end f g (ends_early c b e a) (too_deep d k) = absurd (no_break ts k.0 k.1 (deep_break ts g.at k) (e.0, e.1))
faults_once ts bad end f g (ends_early c b e a) (ends_early d b' e' a') = same_fault f g (c ∙ sym d) (a ∙ sym a')
faults_once ts bad end f g (ends_early c b e a) (bad_token d b' w s) = absurd (none_or_some bad g.at b b')
faults_once ts bad end f g (bad_token c b w s) (unfit d k) = absurd (no_break ts k.0 k.1 (unfit_break ts g.at k) (w, s))
faults_once ts bad end f g (bad_token c b w s) (too_deep d k) = absurd (no_break ts k.0 k.1 (deep_break ts g.at k) (w, s))
faults_once ts bad end f g (bad_token c b w s) (ends_early d b' e a) = absurd (none_or_some bad f.at b' b)
faults_once ts bad end f g (bad_token c b w s) (bad_token d b' w' s') = same_fault f g (c ∙ sym d) (some_place bad f.at g.at b b')

-- a program has no fault
no_fault : (ts : List Lexeme) (p : Program) (end : ℕ) (f : TextFault) → Reads ts p → Within ts → IsFaultOf ts None end f → ⊥
no_fault ts p end f r w (unfit c h) = no_break ts h.0 h.1 (unfit_break ts f.at h) (w, read_begins ts p r)
no_fault ts p end f r w (too_deep c h) = no_break ts h.0 h.1 (deep_break ts f.at h) (w, read_begins ts p r)
no_fault ts p end f r w (ends_early c b e a) = e.2 p r
no_fault ts p end f r w (bad_token c b w' s) = none_or_some None f.at refl b

-- the first rule that a program breaks

no_later_both : (f g : TextFault) → IsNoLater f g → IsNoLater g f → (f.at ≡ g.at) × (code_number f.code ≡ code_number g.code)
no_later_both f g (inl p) (inl q) = absurd (omega (arith, p, q))
no_later_both f g (inl p) (inr q) = absurd (omega (arith, p, q.0))
no_later_both f g (inr p) (inl q) = absurd (omega (arith, p.0, q))
no_later_both f g (inr p) (inr q) = (p.0, omega (arith, p.1, q.1))

pub first_fault_once : (p : Program) (f g : TextFault) → IsFirstFault p f → IsFirstFault p g → f ≡ g
first_fault_once p f g h k =
    let e = no_later_both f g (h.1 g.code g.at k.0) (k.1 f.code f.at h.0) in same_fault f g (same_code f.code g.code e.1) e.0

-- texts, of which each has one list of tokens

moved : (ts us : List Token) (bad worse : Option ℕ) (end : ℕ) (f : TextFault) → ts ≡ us → bad ≡ worse → IsFaultOf (lexemes ts) bad end f → IsFaultOf (lexemes us) worse end f
moved ts us bad worse end f e b h =
    let P : List Token → Type 0 = λ v. IsFaultOf (lexemes v) bad end f in
    let Q : Option ℕ → Type 0 = λ v. IsFaultOf (lexemes us) v end f in
    subst Q b (subst P e h)

pub programs_once : (text : Bytes) (p q : Program) → IsProgramOf text p → IsProgramOf text q → p ≡ q
programs_once text p q h k =
    let e = tokens_once text h.1 k.1 None None h.2 k.2 in
    let P : List Token → Type 0 = λ v. Reads (lexemes v) p in
    one_program (lexemes k.1) p q (subst P e.0 h.3) k.3

pub text_faults_once : (text : Bytes) (f g : TextFault) → IsTextFault text f → IsTextFault text g → f ≡ g
text_faults_once text f g (inl h) (inl k) = h.1 ∙ sym k.1
text_faults_once text f g (inl h) (inr k) = absurd (omega (arith, h.0, k.0))
text_faults_once text f g (inr h) (inl k) = absurd (omega (arith, h.0, k.0))
text_faults_once text f g (inr h) (inr k) =
    let e = tokens_once text h.1 k.1 h.2 k.2 h.3 k.3 in
    faults_once (lexemes k.1) k.2 (length text) f g (moved h.1 k.1 h.2 k.2 (length text) f e.0 e.1 h.4) k.4

pub program_or_fault : (text : Bytes) (p : Program) (f : TextFault) → IsProgramOf text p → IsTextFault text f → ⊥
program_or_fault text p f h (inl k) = omega (arith, h.0, k.0)
program_or_fault text p f h (inr k) =
    let e = tokens_once text k.1 h.1 k.2 None k.3 h.2 in
    no_fault (lexemes h.1) p (length text) f h.3 h.4 (moved k.1 h.1 k.2 None (length text) f e.0 e.1 k.4)

keeps_or_breaks : (text : Bytes) (p : Program) (f : TextFault) → Means text (Ok p) → Means text (Err f) → ⊥
keeps_or_breaks text p f h (inl k) = program_or_fault text p f h.0 k
keeps_or_breaks text p f h (inr k) = subst WellFormed (programs_once text p k.0 h.0 k.1) h.1 f.code f.at k.2.0

one_fault : (text : Bytes) (f g : TextFault) → Means text (Err f) → Means text (Err g) → f ≡ g
one_fault text f g (inl h) (inl k) = text_faults_once text f g h k
one_fault text f g (inl h) (inr k) = absurd (program_or_fault text k.0 f k.1 h)
one_fault text f g (inr h) (inl k) = absurd (program_or_fault text h.0 g h.1 k)
one_fault text f g (inr h) (inr k) =
    let P : Program → Type 0 = λ v. IsFirstFault v f in
    first_fault_once k.0 f g (subst P (programs_once text h.0 k.0 h.1 k.1) h.2) k.2

-- a text means one thing at most
pub means_once : (text : Bytes) (r s : Result Program TextFault) → Means text r → Means text s → r ≡ s
means_once text (Ok p) (Ok q) h k = ap (λ v. Ok v) (programs_once text p q h.0 k.0)
means_once text (Ok p) (Err g) h k = absurd (keeps_or_breaks text p g h k)
means_once text (Err f) (Ok q) h k = absurd (keeps_or_breaks text q f k h)
means_once text (Err f) (Err g) h k = ap (λ v. Err v) (one_fault text f g h k)
