-- From what the machine says to the first fault.
use Rattle.std.proofs.Common.{◌≡◌, ◌∙◌, inl, inr, ℕ, ◌≤◌, ◌-◌, List, [], ◌∷◌, ◌++◌, Some, length, drop, take, refl, ap, sym, subst, append_assoc, length-append, length-drop, arith}
use Rattle.std.proofs.lemmas.List.{append-nil, length-map, take_all, take-append-le, take-map, drop-map}
use Rattle.flow_base.specs.Syntax as tree
use Rattle.flow_base.specs.declared.token.Token.{Token}
use Rattle.flow_syntax.specs.declared.fault.ParseFault.{ParseFault}
use Rattle.flow_syntax.specs.declared.fault.ParseFault.TheVariants.{NoMemory, BadToken, Unexpected, TooDeep}
use Rattle.flow_model.specs.Lexeme.{Lexeme, lexeme, lexemes}
use Rattle.flow_model.specs.Grammar.{Reads, Begins, Stops}
use Rattle.flow_model.specs.Limits.{Within, WithinFrom, brackets_after, operators_after}
use Rattle.flow_syntax.specs.Machine.{fault}
use Rattle.flow_syntax.specs.Machine as m
use Rattle.flow_syntax.specs.Parsing.{place_of}
use Rattle.flow_syntax.specs.Faults.{IsDeepFault, IsFault, IsFaultBefore, IsUnfit, IsFaultOf, IsFirstOf, IsCut, WithinSoFar}
use Rattle.flow_syntax.proofs.Stops.{first_bad, left_bound}

-- counting along the tokens

pub within_begins : (ts : List Lexeme) → WithinSoFar ts 0 0 ts
within_begins ts = ([], refl, λ x. (λ h. h, λ h. h))

within_more : (ts rest after : List Lexeme) (b o : ℕ) (t : Lexeme) → WithinSoFar ts b o rest → rest ≡ t ∷ after → brackets_after b t.word ≤ 64 → operators_after o t.word ≤ 64 → WithinSoFar ts (brackets_after b t.word) (operators_after o t.word) after
within_more ts rest after b o t w h hb ho = (
  w.0 ++ (t ∷ []),
  w.1 ∙ ap (λ y. w.0 ++ y) h ∙ sym (append_assoc w.0 (t ∷ []) after),
  λ x. (λ g. subst Within (sym (append_assoc w.0 (t ∷ []) x)) ((w.2 (t ∷ x)).0 (hb, ho, g)), λ g. ((w.2 (t ∷ x)).1 (subst Within (append_assoc w.0 (t ∷ []) x) g)).2),
)

pub within_next : (ts rest after : List Lexeme) (b o b' o' : ℕ) (t : Lexeme) → WithinSoFar ts b o rest → rest ≡ t ∷ after → b' ≡ brackets_after b t.word → o' ≡ operators_after o t.word → b' ≤ 64 → o' ≤ 64 → WithinSoFar ts b' o' after
within_next ts rest after b o b' o' t w h eb eo lb lo = rw (eb, eo) (within_more ts rest after b o t w h (rw (← eb) lb) (rw (← eo) lo))

pub within_ends : (ts rest : List Lexeme) (b o : ℕ) → WithinSoFar ts b o rest → rest ≡ [] → Within ts
within_ends ts rest b o w h = subst Within (sym (w.1 ∙ ap (λ y. w.0 ++ y) h)) ((w.2 []).0 tt)

pub is_cut : (ts rest after : List Lexeme) (b o b' o' left : ℕ) (t : Lexeme) → WithinSoFar ts b o rest → rest ≡ t ∷ after → b' ≡ brackets_after b t.word → o' ≡ operators_after o t.word → length after ≡ left → (b' ≤ 64 → o' ≤ 64 → ⊥) → IsCut ts t.at left
is_cut ts rest after b o b' o' left t w h eb eo l bad = (
  w.0,
  t,
  after,
  w.1 ∙ ap (λ y. w.0 ++ y) h,
  l,
  refl,
  subst Within (append-nil w.0) ((w.2 []).0 tt),
  λ g. let p = (w.2 (t ∷ [])).1 g in bad (rw eb p.0) (rw eo p.1),
)

within_from_prefix : (x y : List Lexeme) (b o : ℕ) → WithinFrom b o (x ++ y) → WithinFrom b o x
within_from_prefix [] y b o h = tt
within_from_prefix (t ∷ x) y b o h = (h.0, h.1, within_from_prefix x y (brackets_after b t.word) (operators_after o t.word) h.2)

pub within_prefix : (ts x y : List Lexeme) → ts ≡ x ++ y → Within ts → Within x
within_prefix ts x y e h = within_from_prefix x y 0 0 (subst Within e h)

-- where the machine stops

at_end : (before : List Lexeme) (end at : ℕ) (after : List Lexeme) → after ≡ [] → Stops before after end at → (p : tree.Program) → Reads before p → ⊥
at_end before end at [] h s = s.0
at_end before end at (t ∷ after) h s = absurd (cc)

pub stops_at_end : (ts : List Lexeme) (left : ℕ) → fault (m.program ∷ []) ts ≡ Some left → drop (length ts - left) ts ≡ [] → Begins ts × ((p : tree.Program) → Reads ts p → ⊥)
stops_at_end ts left e h =
    let b = first_bad ts 0 left e in
    let a : b.1 ≡ [] = sym b.6 ∙ h in
    let w : b.0 ≡ ts = sym (append-nil b.0) ∙ ap (λ y. b.0 ++ y) (sym a) ∙ sym b.2 in
    let P : List Lexeme → Type 0 = λ v. (p : tree.Program) → Reads v p → ⊥ in
    (subst Begins w b.4, subst P w (at_end b.0 0 (place_of 0 (drop (length ts - left) ts)) b.1 a b.5))

at_token : (before : List Lexeme) (end at : ℕ) (after : List Lexeme) (t : Lexeme) (more : List Lexeme) → after ≡ t ∷ more → Stops before after end at → Begins (before ++ (t ∷ [])) → ⊥
at_token before end at [] t more h s = absurd (cc)
at_token before end at (u ∷ after) t more h s = let e : t ≡ u = cc in rw e s.0

pub stops_at_token : (ts : List Lexeme) (left : ℕ) (t : Lexeme) (more : List Lexeme) → fault (m.program ∷ []) ts ≡ Some left → drop (length ts - left) ts ≡ t ∷ more → IsUnfit ts t.at
stops_at_token ts left t more e h =
    let b = first_bad ts 0 left e in
    let a : b.1 ≡ t ∷ more = sym b.6 ∙ h in
    (b.0, t, more, b.2 ∙ ap (λ y. b.0 ++ y) a, b.4, at_token b.0 0 (place_of 0 (drop (length ts - left) ts)) b.1 t more a b.5, refl)

-- the first fault

pub fault_without_cut : (ts : List Lexeme) (end : ℕ) (f : ParseFault) → Within ts → IsFaultOf ts (Unexpected end) f → IsFault ts end f
fault_without_cut ts end f w (inl h) = rw h tt
fault_without_cut ts end f w (inr (inl h)) = rw h.1 (inl (h.2.0, h.2.1, h.2.2, h.2.3, within_prefix ts h.2.0 (h.2.1 ∷ h.2.2) h.2.3 w, h.2.4, h.2.5, h.2.6))
fault_without_cut ts end f w (inr (inr h)) = rw h.0 (inr ((w, h.1, h.2), refl))

pub fault_before_bad : (ts : List Lexeme) (bad : ℕ) (f : ParseFault) → Within ts → IsFirstOf ts (BadToken bad) f → IsFaultBefore ts bad f
fault_before_bad ts bad f w (inl h) = rw h tt
fault_before_bad ts bad f w (inr (inl h)) = rw h.1 (h.2.0, h.2.1, h.2.2, h.2.3, within_prefix ts h.2.0 (h.2.1 ∷ h.2.2) h.2.3 w, h.2.4, h.2.5, h.2.6)
fault_before_bad ts bad f w (inr (inr h)) = rw h.0 (w, h.1, refl)

nothing_behind : (x : List Lexeme) (u : Lexeme) (a : List Lexeme) → [] ≡ x ++ (u ∷ a) → ⊥
nothing_behind [] u a h = cc
nothing_behind (y ∷ x) u a h = cc

-- what stands before a token of a list stands before its last one
pub before_last : (x : List Lexeme) (u : Lexeme) (a before : List Lexeme) (t : Lexeme) → before ++ (t ∷ []) ≡ x ++ (u ∷ a) → (c : List Lexeme) × (before ≡ x ++ c)
before_last [] u a before t h = (before, refl)
before_last (y ∷ x) u a [] t h = absurd (nothing_behind x u a (let e : [] ≡ x ++ (u ∷ a) = cc in e))
before_last (y ∷ x) u a (z ∷ before) t h =
    let e : before ++ (t ∷ []) ≡ x ++ (u ∷ a) = cc in
    let k : z ≡ y = cc in
    let c = before_last x u a before t e in
    (c.0, ap (λ v. v ∷ before) k ∙ ap (λ v. y ∷ v) c.1)

pub fault_at_cut : (ts before : List Lexeme) (t : Lexeme) (after : List Lexeme) (f : ParseFault) → ts ≡ before ++ (t ∷ after) → Within before → (Within (before ++ (t ∷ [])) → ⊥) → IsFirstOf (before ++ (t ∷ [])) (TooDeep t.at) f → IsDeepFault ts f
fault_at_cut ts before t after f e w n (inl h) = rw h tt
fault_at_cut ts before t after f e w n (inr (inl h)) =
    let c = before_last h.2.0 h.2.1 h.2.2 before t h.2.3 in
    rw h.1 (h.2.0, h.2.1, h.2.2 ++ after, e ∙ sym (append_assoc before (t ∷ []) after) ∙ ap (λ y. y ++ after) h.2.3 ∙ append_assoc h.2.0 (h.2.1 ∷ h.2.2) after, within_prefix before h.2.0 c.0 c.1 w, h.2.4, h.2.5, h.2.6)
fault_at_cut ts before t after f e w n (inr (inr h)) = rw h.0 (before, t, after, e, w, n, h.1, refl)

pub deep_is_fault : (ts : List Lexeme) (end : ℕ) (f : ParseFault) → IsDeepFault ts f → IsFault ts end f
deep_is_fault ts end (NoMemory _) h = tt
deep_is_fault ts end (Unexpected at) h = inl h
deep_is_fault ts end (TooDeep at) h = h
deep_is_fault ts end _ h = absurd h

pub deep_is_before : (ts : List Lexeme) (bad : ℕ) (f : ParseFault) → IsDeepFault ts f → IsFaultBefore ts bad f
deep_is_before ts bad (NoMemory _) h = tt
deep_is_before ts bad (Unexpected at) h = h
deep_is_before ts bad (TooDeep at) h = h
deep_is_before ts bad _ h = absurd h

-- a program whose tokens pass a limit is none within
pub cut_passes : (ts : List Lexeme) (at left : ℕ) → IsCut ts at left → Within ts → ⊥
cut_passes ts at left c w = c.7 (within_prefix ts (c.0 ++ (c.1 ∷ [])) c.2 (c.3 ∙ sym (append_assoc c.0 (c.1 ∷ []) c.2)) w)

-- lists of tokens and of lexemes

pub slice_end : (ts : List Token) (left : ℕ) → drop (length (lexemes ts) - left) (lexemes ts) ≡ lexemes (take (length ts - (length ts - left)) (drop (length ts - left) ts))
slice_end ts left =
    let long : length (drop (length ts - left) ts) ≤ length ts - (length ts - left) = omega (arith, length-drop (length ts - left) ts) in
    ap (λ n. drop (n - left) (lexemes ts)) (length-map ts lexeme) ∙ drop-map lexeme (length ts - left) ts ∙ ap lexemes (sym (take_all (length ts - (length ts - left)) (drop (length ts - left) ts) long))

take_front : (x y : List Lexeme) → take (length x) (x ++ y) ≡ x
take_front x y = take-append-le (length x) x y (omega arith) ∙ take_all (length x) x (omega arith)

slice_start : (ts : List Token) (k at left : ℕ) (c : IsCut (lexemes ts) at left) → k ≡ length ts - left → lexemes (take k ts) ≡ c.0 ++ (c.1 ∷ [])
slice_start ts k at left c h =
    let e : lexemes ts ≡ (c.0 ++ (c.1 ∷ [])) ++ c.2 = c.3 ∙ sym (append_assoc c.0 (c.1 ∷ []) c.2) in
    let n : k ≡ length (c.0 ++ (c.1 ∷ [])) = omega (arith, h, length-map ts lexeme, ap length e, length-append (c.0 ++ (c.1 ∷ [])) c.2, c.4) in
    sym (take-map lexeme k ts) ∙ ap (λ j. take j (lexemes ts)) n ∙ ap (take (length (c.0 ++ (c.1 ∷ [])))) e ∙ take_front (c.0 ++ (c.1 ∷ [])) c.2

pub deep_at_cut : (ts : List Token) (k at left : ℕ) (f : ParseFault) (c : IsCut (lexemes ts) at left) → IsFirstOf (lexemes (take k ts)) (TooDeep at) f → k ≡ length ts - left → IsDeepFault (lexemes ts) f
deep_at_cut ts k at left f c g h =
    let P : List Lexeme → Type 0 = λ v. IsFirstOf v (TooDeep at) f in
    let Q : ℕ → Type 0 = λ v. IsFirstOf (c.0 ++ (c.1 ∷ [])) (TooDeep v) f in
    fault_at_cut (lexemes ts) c.0 c.1 c.2 f c.3 c.6 c.7 (subst Q c.5 (subst P (slice_start ts k at left c h) g))

pub cut_left : (ts : List Token) (at left : ℕ) → IsCut (lexemes ts) at left → left ≤ length ts
cut_left ts at left c = omega (arith, length-map ts lexeme, ap length c.3, length-append c.0 (c.1 ∷ c.2), c.4)

pub stop_left : (ts : List Token) (left : ℕ) → fault (m.program ∷ []) (lexemes ts) ≡ Some left → left ≤ length ts
stop_left ts left e = omega (arith, left_bound (lexemes ts) left e, length-map ts lexeme)

-- tokens that are a program have no fault but the want of memory
pub memory_alone : (ts : List Lexeme) (p : tree.Program) (behind f : ParseFault) → Reads ts p → IsFaultOf ts behind f → f ≡ NoMemory _
memory_alone ts p behind f r (inl h) = h
memory_alone ts p behind f r (inr (inl h)) = absurd (h.2.5 (r.0, h.2.2, r.1 ∙ h.2.3 ∙ sym (append_assoc h.2.0 (h.2.1 ∷ []) h.2.2)))
memory_alone ts p behind f r (inr (inr h)) = absurd (h.2 p r)

-- with a fault behind them, tokens that are read have that one
pub read_first : (ts : List Lexeme) (p : tree.Program) (behind : ParseFault) → Reads ts p → IsFirstOf ts behind behind
read_first ts p behind r = inr (inr (refl, (r.0, [], r.1 ∙ sym (append-nil ts))))

pub fault_first : (ts : List Lexeme) (behind f : ParseFault) → IsFaultOf ts behind f → IsFirstOf ts behind f
fault_first ts behind f (inl h) = inl h
fault_first ts behind f (inr (inl h)) = inr (inl h)
fault_first ts behind f (inr (inr h)) = inr (inr (h.0, h.1))
