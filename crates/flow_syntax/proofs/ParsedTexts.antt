-- From the tokens of a text to the text.
use Rattle.std.proofs.Common.{◌≡◌, inl, inr, ℕ, ◌<◌, ◌≤◌, List, Some, None, length, refl, subst}
use Rattle.flow_base.specs.Syntax.{Bytes, Program}
use Rattle.flow_base.specs.declared.code.Code.{Code}
use Rattle.flow_base.specs.declared.code.Code.TheVariants as code
use Rattle.flow_base.specs.declared.token.Token.{Token}
use Rattle.flow_syntax.specs.declared.fault.ParseFault.{ParseFault}
use Rattle.flow_syntax.specs.declared.fault.ParseFault.TheVariants.{NoMemory, BadToken, Unexpected, TextTooLong, TooDeep}
use Rattle.flow_model.specs.Tokens.{TokensOf}
use Rattle.flow_model.specs.Lexeme.{lexemes}
use Rattle.flow_model.specs.Grammar.{Reads}
use Rattle.flow_model.specs.Limits.{Within}
use Rattle.flow_tokens.proofs.Relation.{tokens_once}
use Rattle.flow_syntax.specs.Faults.{IsFault, IsFaultBefore, IsParseFault}
use Rattle.flow_model.specs.Meaning.{IsProgramOf, IsTextFault, unfit, ends_early, too_deep, bad_token}

no_place : (text : Bytes) → IsParseFault text (NoMemory _)
no_place text = λ at h. absurd (cc)

at_place : (text : Bytes) (c : Code) (place at : ℕ) → Some place ≡ Some at → IsTextFault text (record { code = c; at = place }) → IsTextFault text (record { code = c; at = at })
at_place text c place at h k =
    let e : place ≡ at = cc in
    let P : ℕ → Type 0 = λ v. IsTextFault text (record { code = c; at = v }) in
    subst P e k

pub too_long : (text : Bytes) → 65536 < length text → IsParseFault text TextTooLong
too_long text l = λ at h. at_place text code.TextTooLong 65536 at h (inl (l, refl))

pub fault_of_whole : (text : Bytes) (ts : List Token) (fault : ParseFault) → length text ≤ 65536 → TokensOf text ts None → IsFault (lexemes ts) (length text) fault → IsParseFault text fault
fault_of_whole text ts (NoMemory _) l t f = no_place text
fault_of_whole text ts (Unexpected place) l t (inl f) = λ at h. at_place text code.Unexpected place at h (inr (l, ts, None, t, unfit refl f))
fault_of_whole text ts (Unexpected place) l t (inr f) = λ at h. at_place text code.Unexpected place at h (inr (l, ts, None, t, ends_early refl refl f.0 f.1))
fault_of_whole text ts (TooDeep place) l t f = λ at h. at_place text code.TooDeep place at h (inr (l, ts, None, t, too_deep refl f))
fault_of_whole text ts _ l t f = absurd f

pub fault_of_front : (text : Bytes) (ts : List Token) (bad : ℕ) (fault : ParseFault) → length text ≤ 65536 → TokensOf text ts (Some bad) → IsFaultBefore (lexemes ts) bad fault → IsParseFault text fault
fault_of_front text ts bad (NoMemory _) l t f = no_place text
fault_of_front text ts bad (Unexpected place) l t f = λ at h. at_place text code.Unexpected place at h (inr (l, ts, Some bad, t, unfit refl f))
fault_of_front text ts bad (TooDeep place) l t f = λ at h. at_place text code.TooDeep place at h (inr (l, ts, Some bad, t, too_deep refl f))
fault_of_front text ts bad (BadToken place) l t f =
    λ at h. at_place text code.BadToken place at h (inr (l, ts, Some bad, t, bad_token refl (let e : Some bad ≡ Some place = cc in e) f.0 f.1))
fault_of_front text ts bad _ l t f = absurd f

-- the tokens of a text are read as the program that it is
pub program_of_tokens : (text : Bytes) (ts : List Token) (p : Program) → TokensOf text ts None → IsProgramOf text p → Reads (lexemes ts) p × Within (lexemes ts)
program_of_tokens text ts p t h =
    let e : h.1 ≡ ts = (tokens_once text h.1 ts None None h.2 t).0 in
    (subst (λ v. Reads (lexemes v) p) e h.3, subst (λ v. Within (lexemes v)) e h.4)

-- a text with a byte at which no token begins is no program
pub no_program_before : (text : Bytes) (ts : List Token) (bad : ℕ) (p : Program) → TokensOf text ts (Some bad) → IsProgramOf text p → ⊥
no_program_before text ts bad p t h =
    let e : None ≡ Some bad = (tokens_once text h.1 ts None (Some bad) h.2 t).1 in
    absurd (cc)
