-- Words that are some tokens but for what may be left out: they are no more, and where the tokens are such as a text has,
-- and pass no limit, so are the words.
use Rattle.std.proofs.Common.{◌≡◌, ℕ, ℤ, pos, negsuc, ◌+◌, ◌-◌, ◌≤◌, List, [], ◌∷◌, ◌++◌, length, length-append, append_assoc, refl, sym, subst, arith}
use Rattle.flow_base.specs.declared.token.Mark.{Mark}
use Rattle.flow_base.specs.declared.token.Mark.TheVariants as mark
use Rattle.flow_base.specs.declared.token.Word.{Word}
use Rattle.flow_base.specs.declared.token.Word.TheVariants as word
use Rattle.flow_model.specs.Lexeme.{Lexeme}
use Rattle.flow_model.specs.Grammar.{marked, numbered, whole}
use Rattle.flow_model.specs.Limits.{brackets_after, operators_behind, operators_after}
use Rattle.flow_syntax.specs.Print.{words_of, IsPrintable}

-- from so many open brackets and operators on, a text may have each word, and none passes a limit
abbrev pub Good : ℕ → ℕ → List Word → Type 0
Good b o [] = Unit {0}
Good b o (w ∷ ws) = IsPrintable w × (brackets_after b w ≤ 64) × (operators_after o w ≤ 64) × Good (brackets_after b w) (operators_after o w) ws

-- The words are no more than the tokens. They count from fewer brackets and operators on, both leave as many brackets open
-- as they found, and whatever is good behind both makes the words good where the tokens are.
pub record Fewer (ws : List Word) (ts : List Lexeme) : Type 0 where
  pub good : (b o c p : ℕ) (more : List Lexeme) (end : List Word) → c ≤ b → p ≤ o → Good b o (words_of (ts ++ more)) → ((n m : ℕ) → m ≤ n → Good b n (words_of more) → Good c m end) → Good c p (ws ++ end)
  pub least : length ws ≤ length ts

-- the same up to the parenthesis behind them, which closes one more
pub record Closed (ws : List Word) (ts : List Lexeme) : Type 0 where
  pub good : (b o c p : ℕ) (more : List Lexeme) (end : List Word) → c ≤ b → p ≤ o → Good (b + 1) o (words_of (ts ++ more)) → ((n m : ℕ) → m ≤ n → Good b n (words_of more) → Good c m end) → Good (c + 1) p (ws ++ end)
  pub least : length ws ≤ length ts

-- The same up to the brace behind them. It ends an outermost expression, so what follows is asked for from no operator on:
-- an `else { }` can be left out there alone, since its braces end one too.
pub record Shut (ws : List Word) (ts : List Lexeme) : Type 0 where
  pub good : (b o c p : ℕ) (more : List Lexeme) (end : List Word) → c ≤ b → p ≤ o → Good (b + 1) o (words_of (ts ++ more)) → (Good b 0 (words_of more) → Good c 0 end) → Good (c + 1) p (ws ++ end)
  pub least : length ws ≤ length ts

-- a word that is no bracket
abbrev pub IsFlat : Word → Type 0
IsFlat w = (b : ℕ) → brackets_after b w ≡ b

fewer_behind_mark : (m : Mark) (o p : ℕ) → p ≤ o → operators_behind p m ≤ operators_behind o m
fewer_behind_mark mark.Workflow o p h = h
fewer_behind_mark _ o p h = omega (arith, h)

fewer_behind : (w : Word) (o p : ℕ) → p ≤ o → operators_after p w ≤ operators_after o w
fewer_behind (word.Mark m) o p h = fewer_behind_mark m o p h
fewer_behind _ o p h = h

pub no_word : Fewer [] []
no_word = record { good = λ b o c p more end lb lo h k. k o p lo h; least = omega arith }

-- a word that is kept
pub kept : (t : Lexeme) (ws : List Word) (ts : List Lexeme) → IsFlat t.word → Fewer ws ts → Fewer (t.word ∷ ws) (t ∷ ts)
kept t ws ts flat f =
    record {
      good = λ b o c p more end lb lo h k.
          let one : operators_after p t.word ≤ operators_after o t.word = fewer_behind t.word o p lo in
          let tail : Good b (operators_after o t.word) (words_of (ts ++ more)) = subst (λ v. Good v (operators_after o t.word) (words_of (ts ++ more))) (flat b) h.3 in (
            h.0,
            omega (arith, flat b, flat c, lb, h.1),
            omega (arith, one, h.2),
            subst (λ v. Good v (operators_after p t.word) (ws ++ end)) (sym (flat c)) (f.good b (operators_after o t.word) c (operators_after p t.word) more end lb one tail k),
          );
      least = omega (arith, f.least);
    }

-- a number that is kept: no text has a negative one
pub number_kept : (at : ℕ) (z : ℤ) (ws : List Word) (ts : List Lexeme) → Fewer ws ts → Fewer (word.Int (pos (whole z)) ∷ ws) (numbered at z ∷ ts)
number_kept at (pos n) ws ts f = kept (numbered at (pos n)) ws ts (λ b. refl) f
number_kept at (negsuc n) ws ts f = record { good = λ b o c p more end lb lo h k. absurd h.0; least = omega (arith, f.least) }

-- a word that is left out: it is no bracket and no operator, and no expression ends at it
pub left_out : (t : Lexeme) (ws : List Word) (ts : List Lexeme) → IsFlat t.word → ((o : ℕ) → operators_after o t.word ≡ o) → Fewer ws ts → Fewer ws (t ∷ ts)
left_out t ws ts flat still f =
    record {
      good = λ b o c p more end lb lo h k.
          f.good b o c p more end lb lo (subst (λ v. Good v o (words_of (ts ++ more))) (flat b) (subst (λ v. Good (brackets_after b t.word) v (words_of (ts ++ more))) (still o) h.3)) k;
      least = omega (arith, f.least);
    }

pub together : (us ws : List Word) (xs ts : List Lexeme) → Fewer us xs → Fewer ws ts → Fewer (us ++ ws) (xs ++ ts)
together us ws xs ts f g =
    record {
      good = λ b o c p more end lb lo h k.
          subst (Good c p) (sym (append_assoc us ws end))
          (f.good b o c p (ts ++ more) (ws ++ end) lb lo (subst (λ v. Good b o (words_of v)) (append_assoc xs ts more) h) (λ n m l r. g.good b n c m more end lb l r k));
      least = omega (arith, length-append us ws, length-append xs ts, f.least, g.least);
    }

pub together_closed : (us ws : List Word) (xs ts : List Lexeme) → Fewer us xs → Closed ws ts → Closed (us ++ ws) (xs ++ ts)
together_closed us ws xs ts f g =
    record {
      good = λ b o c p more end lb lo h k.
          subst (Good (c + 1) p) (sym (append_assoc us ws end))
          (f.good (b + 1) o (c + 1) p (ts ++ more) (ws ++ end) (omega (arith, lb)) lo (subst (λ v. Good (b + 1) o (words_of v)) (append_assoc xs ts more) h) (λ n m l r. g.good b n c m more end lb l r k));
      least = omega (arith, length-append us ws, length-append xs ts, f.least, g.least);
    }

pub together_shut : (us ws : List Word) (xs ts : List Lexeme) → Fewer us xs → Shut ws ts → Shut (us ++ ws) (xs ++ ts)
together_shut us ws xs ts f g =
    record {
      good = λ b o c p more end lb lo h k.
          subst (Good (c + 1) p) (sym (append_assoc us ws end))
          (f.good (b + 1) o (c + 1) p (ts ++ more) (ws ++ end) (omega (arith, lb)) lo (subst (λ v. Good (b + 1) o (words_of v)) (append_assoc xs ts more) h) (λ n m l r. g.good b n c m more end lb l r k));
      least = omega (arith, length-append us ws, length-append xs ts, f.least, g.least);
    }

pub kept_closed : (t : Lexeme) (ws : List Word) (ts : List Lexeme) → IsFlat t.word → Closed ws ts → Closed (t.word ∷ ws) (t ∷ ts)
kept_closed t ws ts flat f = together_closed (t.word ∷ []) ws (t ∷ []) ts (kept t [] [] flat no_word) f

pub kept_shut : (t : Lexeme) (ws : List Word) (ts : List Lexeme) → IsFlat t.word → Shut ws ts → Shut (t.word ∷ ws) (t ∷ ts)
kept_shut t ws ts flat f = together_shut (t.word ∷ []) ws (t ∷ []) ts (kept t [] [] flat no_word) f

less_one : (b : ℕ) → b + 1 - 1 ≡ b
less_one b = omega arith

-- brackets that are kept

pub opened : (at : ℕ) (ws : List Word) (ts : List Lexeme) → Closed ws ts → Fewer (word.Mark mark.Open ∷ ws) (marked at mark.Open ∷ ts)
opened at ws ts f =
    record {
      good = λ b o c p more end lb lo h k. (tt, omega (arith, lb, h.1), omega (arith, lo, h.2), f.good b o c p more end lb lo h.3 k);
      least = omega (arith, f.least);
    }

pub brace_opened : (at : ℕ) (ws : List Word) (ts : List Lexeme) → Shut ws ts → Fewer (word.Mark mark.BraceOpen ∷ ws) (marked at mark.BraceOpen ∷ ts)
brace_opened at ws ts f =
    record {
      good = λ b o c p more end lb lo h k. (tt, omega (arith, lb, h.1), omega arith, f.good b 0 c 0 more end lb (omega arith) h.3 (k 0 0 (omega arith)));
      least = omega (arith, f.least);
    }

pub closing : (to : ℕ) → Closed (word.Mark mark.Close ∷ []) (marked to mark.Close ∷ [])
closing to =
    record {
      good = λ b o c p more end lb lo h k. (
        tt,
        omega (arith, lb, h.1),
        omega (arith, lo, h.2),
        subst (λ v. Good v p end) (sym (less_one c)) (k o p lo (subst (λ v. Good v o (words_of more)) (less_one b) h.3)),
      );
      least = omega arith;
    }

pub brace_closing : (to : ℕ) → Shut (word.Mark mark.BraceClose ∷ []) (marked to mark.BraceClose ∷ [])
brace_closing to =
    record {
      good = λ b o c p more end lb lo h k. (
        tt,
        omega (arith, lb, h.1),
        omega arith,
        subst (λ v. Good v 0 end) (sym (less_one c)) (k (subst (λ v. Good v 0 (words_of more)) (less_one b) h.3)),
      );
      least = omega arith;
    }

-- parentheses that are left out
pub dropped : (at to : ℕ) (ws : List Word) (ts : List Lexeme) → Fewer ws ts → Fewer ws (marked at mark.Open ∷ (ts ++ (marked to mark.Close ∷ [])))
dropped at to ws ts f =
    record {
      good = λ b o c p more end lb lo h k.
          f.good (b + 1) o c p (marked to mark.Close ∷ more) end (omega (arith, lb)) lo
          (subst (λ v. Good (b + 1) o (words_of v)) (append_assoc ts (marked to mark.Close ∷ []) more) h.3)
          (λ n m l r. k n m l (subst (λ v. Good v n (words_of more)) (less_one b) r.3));
      least = omega (arith, length-append ts (marked to mark.Close ∷ []), f.least);
    }

-- a list in braces, and the `else { }` that is left out behind it
pub else_dropped : (brace at brace_at to : ℕ) (ws : List Word) (ts : List Lexeme) → Shut ws ts
    → Fewer (word.Mark mark.BraceOpen ∷ ws) (marked brace mark.BraceOpen ∷ (ts ++ (marked at mark.Else ∷ marked brace_at mark.BraceOpen ∷ marked to mark.BraceClose ∷ [])))
else_dropped brace at brace_at to ws ts f =
    let none : List Lexeme = marked at mark.Else ∷ marked brace_at mark.BraceOpen ∷ marked to mark.BraceClose ∷ [] in
    record {
      good = λ b o c p more end lb lo h k. (
        tt,
        omega (arith, lb, h.1),
        omega arith,
        f.good b 0 c 0 (none ++ more) end lb (omega arith) (subst (λ v. Good (b + 1) 0 (words_of v)) (append_assoc ts none more) h.3)
            (λ r. k 0 0 (omega arith) (subst (λ v. Good v 0 (words_of more)) (less_one b) r.3.3.3)),
      );
      least = omega (arith, length-append ts none, f.least);
    }
