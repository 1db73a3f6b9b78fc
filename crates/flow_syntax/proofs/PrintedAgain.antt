-- What is printed of a program of some text is a text of this program, up to places, and has no more tokens than any other.
use Rattle.std.proofs.Common.{◌≡◌, inl, inr, ℕ, ◌≤◌, Bool, true, false, cond, ◌==◌, Option, Some, None, List, [], ◌∷◌, length, refl, ap, sym, subst, arith}
use Rattle.std.proofs.lemmas.Bool.Decides.{nat_tests}
use Rattle.std.proofs.lemmas.List.{append-nil}
use Rattle.flow_base.specs.Syntax as tree
use Rattle.flow_base.specs.Syntax.{Bytes}
use Rattle.flow_base.specs.declared.token.Word.{Word}
use Rattle.flow_base.specs.declared.token.Word.TheVariants as word
use Rattle.flow_base.specs.declared.token.Token.{Token}
use Rattle.flow_model.specs.Lexeme.{Lexeme, lexemes}
use Rattle.flow_model.specs.Grammar.{program_tokens, Reads}
use Rattle.flow_model.specs.Limits.{brackets_after, operators_after, WithinFrom, Within}
use Rattle.flow_model.specs.Tokens.{is_plain, Writes, nothing, itself, escape, Spells, Reads as Tokenized, past_gap}
use Rattle.flow_model.specs.Meaning.{IsProgramOf}
use Rattle.flow_syntax.specs.Print.{words_of, AreReadable, program_words, joined, IsWritable, AllWritable, IsPrintable, ArePrintable, HasTokens, IsProgramAgain, HasLeastWords}
use Rattle.flow_syntax.proofs.Fewer.{Good, Fewer}
use Rattle.flow_syntax.proofs.FewerParentheses.{program_fewer}
use Rattle.flow_syntax.proofs.BareWords.{same_words}
use Rattle.flow_syntax.proofs.PrintedPrograms.{program_read}
use Rattle.flow_syntax.proofs.PrintedTokens.{program_scanned}

---- Words of a text

-- what an escape stands for
escape_writable : (b c : ℕ) → (u v w : Bool) → u ≡ (b == 34) → v ≡ (b == 92) → w ≡ (b == 110) → cond u (Some 34) (cond v (Some 92) (cond w (Some 10) None)) ≡ Some c → IsWritable c
escape_writable b c true v w e f g h = let is : 34 ≡ c = cc in inr (omega (arith, is))
escape_writable b c false true w e f g h = let is : 92 ≡ c = cc in inr (omega (arith, is))
escape_writable b c false false true e f g h = let is : 10 ≡ c = cc in inl (sym is)
escape_writable b c false false false e f g h = absurd (cc)

plain_writable : (b : ℕ) → is_plain b ≡ true → IsWritable b
plain_writable b h = inr (grind (arith, nat_tests))

written_writable : (inside of : Bytes) → Writes inside of → AllWritable of
written_writable inside of nothing = tt
written_writable inside of (itself {b} {bs} {value} h w) = (plain_writable b h, written_writable bs value w)
written_writable inside of (escape {b} {c} {bs} {value} h w) = (escape_writable b c (b == 34) (b == 92) (b == 110) refl refl refl h, written_writable bs value w)

spelled_printable : (bs : Bytes) (w : Word) → Spells bs w → IsPrintable w
spelled_printable bs (word.Name x) s = subst (λ v. IsPrintable (word.Name v)) (sym s.0) (s.1, (s.2, s.3))
spelled_printable bs (word.Int z) s = subst (λ v. IsPrintable (word.Int v)) (sym s.3) s.2
spelled_printable bs (word.Text t) s = (written_writable s.0.0 t s.0.1.1, s.1)
spelled_printable bs (word.Mark m) s = tt

tokens_printable : (whole : ℕ) (rest : Bytes) (ts : List Token) (fault : Option ℕ) → Tokenized whole rest ts fault → ArePrintable (words_of (lexemes ts))
tokens_printable whole rest [] fault r = tt
tokens_printable whole rest (t ∷ ts) fault r = (spelled_printable r.1.0.0 t.word r.1.0.1.2, tokens_printable whole (past_gap r.0) ts fault r.1.3)

---- Words within the limits

good : (b o : ℕ) (ts : List Lexeme) → ArePrintable (words_of ts) → WithinFrom b o ts → Good b o (words_of ts)
good b o [] h w = tt
good b o (t ∷ ts) h w = (h.0, w.0, w.1, good (brackets_after b t.word) (operators_after o t.word) ts h.1 w.2)

good_printable : (b o : ℕ) (ws : List Word) → Good b o ws → ArePrintable ws
good_printable b o [] g = tt
good_printable b o (w ∷ ws) g = (g.0, good_printable (brackets_after b w) (operators_after o w) ws g.3)

good_within : (b o : ℕ) (ts : List Lexeme) → Good b o (words_of ts) → WithinFrom b o ts
good_within b o [] g = tt
good_within b o (t ∷ ts) g = (g.1, g.2, good_within (brackets_after b t.word) (operators_after o t.word) ts g.3)

---- Programs

read_fewer : (ts : List Lexeme) (p : tree.Program) → Reads ts p → Fewer (program_words p) ts
read_fewer ts p r = subst (λ v. Fewer (program_words p) v) r.1 (subst (λ v. Fewer (program_words v) (program_tokens r.0)) r.2 (program_fewer r.0))

-- the words of a program of some text are such as a text may have, and within the limits
program_good : (source : Bytes) (p : tree.Program) → IsProgramOf source p → Good 0 0 (program_words p)
program_good source p h =
    let f = read_fewer (lexemes h.1) p h.3 in
    let g : Good 0 0 (words_of (lexemes h.1)) = good 0 0 (lexemes h.1) (tokens_printable (length source) (past_gap source) h.1 None h.2) h.4 in
    subst (Good 0 0) (append-nil (program_words p))
    (f.good 0 0 0 0 [] [] (omega arith) (omega arith) (subst (λ v. Good 0 0 (words_of v)) (sym (append-nil (lexemes h.1))) g) (λ n m l k. tt))

pub program_printable : (source : Bytes) (p : tree.Program) → IsProgramOf source p → ArePrintable (program_words p)
program_printable source p h = good_printable 0 0 (program_words p) (program_good source p h)

-- the printed text is a text of the program
pub program_again : (p : tree.Program) → AreReadable p.body → (source text : Bytes) → text ≡ joined (program_words p) → IsProgramOf source p → length text ≤ 65536 → IsProgramAgain text p
program_again p can source text is h short =
    let ws : List Word = program_words p in
    let g : Good 0 0 ws = program_good source p h in
    let found : HasTokens text ws = subst (λ v. HasTokens v ws) (sym is) (program_scanned p (good_printable 0 0 ws g)) in
    let read = program_read p can (lexemes found.0) found.2 in
    let within : Within (lexemes found.0) = good_within 0 0 (lexemes found.0) (subst (Good 0 0) (sym found.2) g) in
    (read.0, (short, found.0, found.1, read.1, within), read.2)

-- no tokens that are read as the program are fewer
pub program_least : (p : tree.Program) → HasLeastWords p
program_least p ts q r same =
    let f = read_fewer ts q r in
    omega (arith, ap length (same_words p q same), f.least)
