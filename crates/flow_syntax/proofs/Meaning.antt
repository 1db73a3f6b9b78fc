-- Each text means something: what it means, constructed.
use Rattle.std.proofs.Common.{◌≡◌, ◌∙◌, ◌⊎◌, inl, inr, ℕ, ◌<◌, ◌≤◌, ◌-◌, Bool, true, false, nat_lt, List, [], ◌∷◌, ◌++◌, Option, Some, None, Result, Ok, Err, length, drop, refl, ap, sym, subst, append_assoc, arith}
use Rattle.std.proofs.lemmas.Bool.{ltb-true}
use Rattle.std.proofs.lemmas.Bool.Decides.{nat_tests}
use Rattle.flow_base.specs.Syntax.{Bytes, Program}
use Rattle.flow_base.specs.declared.code.Code.TheVariants as code
use Rattle.flow_base.specs.declared.command.TextFault.{TextFault}
use Rattle.flow_base.specs.declared.token.Token.{Token}
use Rattle.flow_model.specs.Tokens.{TokensOf}
use Rattle.flow_model.specs.Lexeme.{Lexeme, lexemes}
use Rattle.flow_model.specs.Grammar.{Reads, Begins, program_of}
use Rattle.flow_model.specs.Limits.{Within, WithinFrom, brackets_after, operators_after}
use Rattle.flow_model.specs.WellFormed.{first_fault}
use Rattle.flow_model.proofs.FirstFault.{well_formed, first_is}
use Rattle.flow_tokens.specs.Scan.{scan}
use Rattle.flow_tokens.proofs.Relation.{scanned}
use Rattle.flow_syntax.specs.Machine.{fault}
use Rattle.flow_syntax.specs.Machine as m
use Rattle.flow_syntax.specs.Faults.{IsUnfit}
use Rattle.flow_model.specs.Meaning.{IsProgramOf, IsFaultOf, unfit, ends_early, too_deep, bad_token, Means}
use Rattle.flow_syntax.proofs.Stops.{accepted}
use Rattle.flow_syntax.proofs.Faults.{within_prefix, before_last, stops_at_end, stops_at_token}
use Rattle.flow_syntax.proofs.MeansOnce.{read_begins}

at_most_by : (n k : ℕ) (v : Bool) → nat_lt k n ≡ v → (n ≤ k) ⊎ (k < n)
at_most_by n k true e = inr (ltb-true k n e)
at_most_by n k false e = inl (grind (arith, nat_tests))

at_most : (n k : ℕ) → (n ≤ k) ⊎ (k < n)
at_most n k = at_most_by n k (nat_lt k n) refl

-- the first token that passes a limit

abbrev Passes : ℕ → ℕ → List Lexeme → Type 0
Passes b o ts = (x : List Lexeme) × (t : Lexeme) × (a : List Lexeme) × (ts ≡ x ++ (t ∷ a)) × WithinFrom b o x × (WithinFrom b o (x ++ (t ∷ [])) → ⊥)

passes_by : (b o : ℕ) (t : Lexeme) (ts : List Lexeme) (c p : ℕ) → brackets_after b t.word ≡ c → operators_after o t.word ≡ p → (c ≤ 64) ⊎ (64 < c) → (p ≤ 64) ⊎ (64 < p) → WithinFrom (brackets_after b t.word) (operators_after o t.word) ts ⊎ Passes (brackets_after b t.word) (operators_after o t.word) ts → WithinFrom b o (t ∷ ts) ⊎ Passes b o (t ∷ ts)
passes_by b o t ts c p ec ep (inr h) k r = inr ([], t, ts, refl, tt, λ g. omega (arith, h, ec, g.0))
passes_by b o t ts c p ec ep (inl h) (inr k) r = inr ([], t, ts, refl, tt, λ g. omega (arith, k, ep, g.1))
passes_by b o t ts c p ec ep (inl h) (inl k) (inl r) = inl (omega (arith, h, ec), omega (arith, k, ep), r)
passes_by b o t ts c p ec ep (inl h) (inl k) (inr r) = inr (t ∷ r.0, r.1, r.2, ap (λ v. t ∷ v) r.3, (omega (arith, h, ec), omega (arith, k, ep), r.4), λ g. r.5 g.2)

passes : (b o : ℕ) (ts : List Lexeme) → WithinFrom b o ts ⊎ Passes b o ts
passes b o [] = inl tt
passes b o (t ∷ ts) =
    passes_by b o t ts (brackets_after b t.word) (operators_after o t.word) refl refl (at_most (brackets_after b t.word) 64) (at_most (operators_after o t.word) 64) (passes (brackets_after b t.word) (operators_after o t.word) ts)

-- what the machine says, in terms of the grammar

abbrev Judged : List Lexeme → Type 0
Judged ts = ((p : Program) × Reads ts p) ⊎ ((Begins ts × ((p : Program) → Reads ts p → ⊥)) ⊎ ((at : ℕ) × IsUnfit ts at))

judged_at : (ts : List Lexeme) (n : ℕ) → fault (m.program ∷ []) ts ≡ Some n → (rest : List Lexeme) → drop (length ts - n) ts ≡ rest → Judged ts
judged_at ts n e [] h = inr (inl (stops_at_end ts n e h))
judged_at ts n e (t ∷ more) h = inr (inr (t.at, stops_at_token ts n t more e h))

judged_by : (ts : List Lexeme) (n : Option ℕ) → fault (m.program ∷ []) ts ≡ n → Judged ts
judged_by ts None e = let r = accepted ts e in inl (program_of r.0, (r.0, r.1, refl))
judged_by ts (Some n) e = judged_at ts n e (drop (length ts - n) ts) refl

judged : (ts : List Lexeme) → Judged ts
judged ts = judged_by ts (fault (m.program ∷ []) ts) refl

-- the tokens are a program, or have a first fault

abbrev Found : List Lexeme → Option ℕ → ℕ → Type 0
Found ts bad end = ((bad ≡ None) × (p : Program) × Reads ts p × Within ts) ⊎ ((f : TextFault) × IsFaultOf ts bad end f)

in_whole : (ts : List Lexeme) (bad : Option ℕ) (end : ℕ) → Within ts → Judged ts → Found ts bad end
in_whole ts None end w (inl r) = inl (refl, r.0, r.1, w)
in_whole ts (Some at) end w (inl r) = inr (record { code = code.BadToken; at = at }, bad_token refl refl w (read_begins ts r.0 r.1))
in_whole ts None end w (inr (inl r)) = inr (record { code = code.Unexpected; at = end }, ends_early refl refl (w, r.0, r.1) refl)
in_whole ts (Some at) end w (inr (inl r)) = inr (record { code = code.BadToken; at = at }, bad_token refl refl w r.0)
in_whole ts bad end w (inr (inr r)) =
    let u = r.1 in
    inr (record { code = code.Unexpected; at = r.0 }, unfit refl (u.0, u.1, u.2, u.3, within_prefix ts u.0 (u.1 ∷ u.2) u.3 w, u.4, u.5, u.6))

deep_here : (ts : List Lexeme) (bad : Option ℕ) (end : ℕ) (c : Passes 0 0 ts) → Begins (c.0 ++ (c.1 ∷ [])) → Found ts bad end
deep_here ts bad end c b = inr (record { code = code.TooDeep; at = c.1.at }, too_deep refl (c.0, c.1, c.2, c.3, c.4, c.5, b, refl))

in_front : (ts : List Lexeme) (bad : Option ℕ) (end : ℕ) (c : Passes 0 0 ts) → Judged (c.0 ++ (c.1 ∷ [])) → Found ts bad end
in_front ts bad end c (inl r) = deep_here ts bad end c (read_begins (c.0 ++ (c.1 ∷ [])) r.0 r.1)
in_front ts bad end c (inr (inl r)) = deep_here ts bad end c r.0
in_front ts bad end c (inr (inr r)) =
    let u = r.1 in
    let l = before_last u.0 u.1 u.2 c.0 c.1 u.3 in
    let e : ts ≡ u.0 ++ (u.1 ∷ (u.2 ++ c.2)) = c.3 ∙ sym (append_assoc c.0 (c.1 ∷ []) c.2) ∙ ap (λ y. y ++ c.2) u.3 ∙ append_assoc u.0 (u.1 ∷ u.2) c.2 in
    inr (record { code = code.Unexpected; at = r.0 }, unfit refl (u.0, u.1, u.2 ++ c.2, e, within_prefix c.0 u.0 l.0 l.1 c.4, u.4, u.5, u.6))

found_by : (ts : List Lexeme) (bad : Option ℕ) (end : ℕ) → Within ts ⊎ Passes 0 0 ts → Found ts bad end
found_by ts bad end (inl w) = in_whole ts bad end w (judged ts)
found_by ts bad end (inr c) = in_front ts bad end c (judged (c.0 ++ (c.1 ∷ [])))

found : (ts : List Lexeme) (bad : Option ℕ) (end : ℕ) → Found ts bad end
found ts bad end = found_by ts bad end (passes 0 0 ts)

-- what a text means

abbrev pub Meant : Bytes → Type 0
Meant text = (r : Result Program TextFault) × Means text r

checked : (text : Bytes) (p : Program) → IsProgramOf text p → (o : Option TextFault) → first_fault p ≡ o → Meant text
checked text p is None e = (Ok p, (is, well_formed p e))
checked text p is (Some f) e = (Err f, inr (p, is, first_is p f e))

parsed : (text : Bytes) (ts : List Token) (bad : Option ℕ) → TokensOf text ts bad → length text ≤ 65536 → Found (lexemes ts) bad (length text) → Meant text
parsed text ts bad t l (inl h) = let P : Option ℕ → Type 0 = λ v. TokensOf text ts v in checked text h.1 (l, ts, subst P h.0 t, h.2, h.3) (first_fault h.1) refl
parsed text ts bad t l (inr h) = (Err h.0, inl (inr (l, ts, bad, t, h.1)))

meant_by : (text : Bytes) (ts : List Token) (bad : Option ℕ) → TokensOf text ts bad → (length text ≤ 65536) ⊎ (65536 < length text) → Meant text
meant_by text ts bad t (inl l) = parsed text ts bad t l (found (lexemes ts) bad (length text))
meant_by text ts bad t (inr l) = (Err (record { code = code.TextTooLong; at = 65536 }), inl (inl (l, refl)))

-- each text means something
pub meant : (text : Bytes) → Meant text
meant text = let s = scan text in meant_by text s.0 s.1 (scanned text) (at_most (length text) 65536)
