-- What is printed of an expression is read as it, up to places, wherever its tokens stand.
use Rattle.std.proofs.Common.{◌≡◌, ◌∙◌, ℕ, ℤ, List, [], ◌∷◌, ◌++◌, refl, ap, sym, append_assoc}
use Rattle.std.proofs.lemmas.List.{append-nil}
use Rattle.flow_base.specs.Syntax as tree
use Rattle.flow_base.specs.Bare.{bare_expression}
use Rattle.flow_base.specs.declared.token.Word.{Word}
use Rattle.flow_base.specs.declared.token.Word.TheVariants as word
use Rattle.flow_base.specs.declared.token.Mark.TheVariants as mark
use Rattle.flow_base.specs.declared.syntax.Unary.TheVariants as unary
use Rattle.flow_base.specs.declared.syntax.Binary.{Binary}
use Rattle.flow_base.specs.declared.syntax.Binary.TheVariants as binary
use Rattle.flow_model.specs.Lexeme.{Lexeme}
use Rattle.flow_model.specs.Grammar.{TermSign, times, over, percent, SumSign, plus, minus, join, CompareSign, equal, differ, less, at_most, greater, at_least, parens, int, text, name, now, text_of, len_of, inner, negate, prim, TermReading, term, TermTail, no_factor, factor, SumReading, sum, SumTail, no_term, added, compare, no_side, compared, not, plain, ConjReading, conj, ConjTail, no_and, and, ExprReading, expr, ExprTail, no_or, or}
use Rattle.flow_model.specs.Grammar.{marked, term_mark, sum_mark, compare_mark, term_operator, sum_operator, compare_operator, parens_tokens, prim_tokens, unary_tokens, term_tokens, term_tail_tokens, sum_tokens, sum_tail_tokens, compare_tokens, neg_tokens, conj_tokens, conj_tail_tokens, expr_tokens, expr_tail_tokens, parens_of, prim_of, unary_of, term_of, factors_of, sum_of, added_of, compare_of, neg_of, conj_of, and_of, expr_of, or_of}
use Rattle.flow_syntax.specs.Print.{words_of, in_parentheses, fitted, level, expression_words}

---- Tokens of words

abbrev pub token : ℕ → Word → Lexeme
token at w = record { at = at; word = w }

-- the first token
pub first : (w : Word) (ws : List Word) (ts : List Lexeme) → words_of ts ≡ w ∷ ws → (at : ℕ) × (rest : List Lexeme) × (ts ≡ token at w ∷ rest) × (words_of rest ≡ ws)
first w ws [] h = absurd (cc)
first w ws (t ∷ ts) h =
    let here : t.word ≡ w = cc in
    let behind : words_of ts ≡ ws = cc in
    (t.at, ts, ap (λ v. token t.at v ∷ ts) here, behind)

-- the only token
pub only : (w : Word) (ts : List Lexeme) → words_of ts ≡ w ∷ [] → (at : ℕ) × (ts ≡ token at w ∷ [])
only w ts h =
    let t = first w [] ts h in
    (t.0, t.2 ∙ ap (λ v. token t.0 w ∷ v) (none t.1 t.3))
  where
    none : (rest : List Lexeme) → words_of rest ≡ [] → rest ≡ []
    none [] e = refl
    none (u ∷ us) e = absurd (cc)

-- the tokens of some words, and of the words behind them
pub split : (a b : List Word) (ts : List Lexeme) → words_of ts ≡ a ++ b → (x : List Lexeme) × (y : List Lexeme) × (ts ≡ x ++ y) × (words_of x ≡ a) × (words_of y ≡ b)
split [] b ts h = ([], ts, refl, refl, h)
split (w ∷ a) b ts h =
    let t = first w (a ++ b) ts h in
    let s = split a b t.1 t.3 in
    (token t.0 w ∷ s.0, s.1, t.2 ∙ ap (λ v. token t.0 w ∷ v) s.2, ap (λ v. w ∷ v) s.3, s.4)

---- Readings of an expression at each level

-- the tokens have a reading that stands for the expression, up to places
abbrev pub Stands : {R : Type 0} → (R → List Lexeme) → (R → tree.Expression) → List Lexeme → tree.Expression → Type 0
Stands {R} tokens of ts x = (r : R) × (tokens r ≡ ts) × (bare_expression (of r) ≡ bare_expression x)

abbrev pub IsParens : List Lexeme → tree.Expression → Type 0
IsParens = Stands parens_tokens parens_of

abbrev pub IsPrim : List Lexeme → tree.Expression → Type 0
IsPrim = Stands prim_tokens prim_of

abbrev pub IsUnary : List Lexeme → tree.Expression → Type 0
IsUnary = Stands unary_tokens unary_of

abbrev pub IsTerm : List Lexeme → tree.Expression → Type 0
IsTerm = Stands term_tokens term_of

abbrev pub IsSum : List Lexeme → tree.Expression → Type 0
IsSum = Stands sum_tokens sum_of

abbrev pub IsCompare : List Lexeme → tree.Expression → Type 0
IsCompare = Stands compare_tokens compare_of

abbrev pub IsNeg : List Lexeme → tree.Expression → Type 0
IsNeg = Stands neg_tokens neg_of

abbrev pub IsConj : List Lexeme → tree.Expression → Type 0
IsConj = Stands conj_tokens conj_of

abbrev pub IsExpr : List Lexeme → tree.Expression → Type 0
IsExpr = Stands expr_tokens expr_of

-- tokens of these words are read so
abbrev pub Read : (List Lexeme → tree.Expression → Type 0) → List Word → tree.Expression → Type 0
Read Is ws x = (ts : List Lexeme) → words_of ts ≡ ws → Is ts x

module _ (ts : List Lexeme) (x : tree.Expression) where
  in_prim : IsParens ts x → IsPrim ts x
  in_prim h = (inner h.0, h.1, h.2)

  in_unary : IsPrim ts x → IsUnary ts x
  in_unary h = (prim h.0, h.1, h.2)

  in_term : IsUnary ts x → IsTerm ts x
  in_term h = (term h.0 no_factor, append-nil (unary_tokens h.0) ∙ h.1, h.2)

  in_sum : IsTerm ts x → IsSum ts x
  in_sum h = (sum h.0 no_term, append-nil (term_tokens h.0) ∙ h.1, h.2)

  in_compare : IsSum ts x → IsCompare ts x
  in_compare h = (compare h.0 no_side, append-nil (sum_tokens h.0) ∙ h.1, h.2)

  in_neg : IsCompare ts x → IsNeg ts x
  in_neg h = (plain h.0, h.1, h.2)

  in_conj : IsNeg ts x → IsConj ts x
  in_conj h = (conj h.0 no_and, append-nil (neg_tokens h.0) ∙ h.1, h.2)

  in_expr : IsConj ts x → IsExpr ts x
  in_expr h = (expr h.0 no_or, append-nil (conj_tokens h.0) ∙ h.1, h.2)

  expr_of_neg : IsNeg ts x → IsExpr ts x
  expr_of_neg h = in_expr (in_conj h)

  expr_of_sum : IsSum ts x → IsExpr ts x
  expr_of_sum h = expr_of_neg (in_neg (in_compare h))

  term_of_prim : IsPrim ts x → IsTerm ts x
  term_of_prim h = in_term (in_unary h)

  sum_of_prim : IsPrim ts x → IsSum ts x
  sum_of_prim h = in_sum (term_of_prim h)

  neg_of_prim : IsPrim ts x → IsNeg ts x
  neg_of_prim h = in_neg (in_compare (sum_of_prim h))

  conj_of_prim : IsPrim ts x → IsConj ts x
  conj_of_prim h = in_conj (neg_of_prim h)

module _ (ws : List Word) (x : tree.Expression) where
  parens_read : Read IsExpr ws x → Read IsParens (in_parentheses ws) x
  parens_read read ts h =
      let o = first (word.Mark mark.Open) (ws ++ (word.Mark mark.Close ∷ [])) ts h in
      let s = split ws (word.Mark mark.Close ∷ []) o.1 o.3 in
      let c = only (word.Mark mark.Close) s.1 s.4 in
      let e = read s.0 s.3 in (
        parens o.0 e.0 c.0,
        ap (λ v. marked o.0 mark.Open ∷ (v ++ (marked c.0 mark.Close ∷ []))) e.1
            ∙ ap (λ v. marked o.0 mark.Open ∷ (s.0 ++ v)) (sym c.1)
            ∙ ap (λ v. marked o.0 mark.Open ∷ v) (sym s.2)
            ∙ sym o.2,
        e.2,
      )

  enclosed_read : Read IsExpr ws x → Read IsPrim (in_parentheses ws) x
  enclosed_read read ts h = in_prim ts x (parens_read read ts h)

  text_of_read : (at : ℕ) → Read IsExpr ws x → Read IsPrim (word.Mark mark.Text ∷ in_parentheses ws) (tree.Apply at unary.TextOf x)
  text_of_read at read ts h =
      let o = first (word.Mark mark.Text) (in_parentheses ws) ts h in
      let p = parens_read read o.1 o.3 in
      (text_of o.0 p.0, ap (λ v. marked o.0 mark.Text ∷ v) p.1 ∙ sym o.2, ap (λ v. tree.Apply 0 unary.TextOf v) p.2)

  len_of_read : (at : ℕ) → Read IsExpr ws x → Read IsPrim (word.Mark mark.Len ∷ in_parentheses ws) (tree.Apply at unary.Length x)
  len_of_read at read ts h =
      let o = first (word.Mark mark.Len) (in_parentheses ws) ts h in
      let p = parens_read read o.1 o.3 in
      (len_of o.0 p.0, ap (λ v. marked o.0 mark.Len ∷ v) p.1 ∙ sym o.2, ap (λ v. tree.Apply 0 unary.Length v) p.2)

  negate_read : (at : ℕ) → Read IsUnary ws x → Read IsUnary (word.Mark mark.Minus ∷ ws) (tree.Apply at unary.Negate x)
  negate_read at read ts h =
      let o = first (word.Mark mark.Minus) ws ts h in
      let u = read o.1 o.3 in
      (negate o.0 u.0, ap (λ v. marked o.0 mark.Minus ∷ v) u.1 ∙ sym o.2, ap (λ v. tree.Apply 0 unary.Negate v) u.2)

  not_read : (at : ℕ) → Read IsNeg ws x → Read IsNeg (word.Mark mark.Not ∷ ws) (tree.Apply at unary.Not x)
  not_read at read ts h =
      let o = first (word.Mark mark.Not) ws ts h in
      let n = read o.1 o.3 in
      (not o.0 n.0, ap (λ v. marked o.0 mark.Not ∷ v) n.1 ∙ sym o.2, ap (λ v. tree.Apply 0 unary.Not v) n.2)

---- One more operand at the end

abbrev more_factors : TermTail → TermTail → TermTail
more_factors no_factor last = last
more_factors (factor s at u more) last = factor s at u (more_factors more last)

factors_tokens : (more last : TermTail) → term_tail_tokens (more_factors more last) ≡ term_tail_tokens more ++ term_tail_tokens last
factors_tokens no_factor last = refl
factors_tokens (factor s at u more) last = ap (λ v. marked at (term_mark s) ∷ v) (ap (λ v. unary_tokens u ++ v) (factors_tokens more last) ∙ sym (append_assoc (unary_tokens u) (term_tail_tokens more) (term_tail_tokens last)))

factors_last : (left : tree.Expression) (more last : TermTail) → factors_of left (more_factors more last) ≡ factors_of (factors_of left more) last
factors_last left no_factor last = refl
factors_last left (factor s at u more) last = factors_last (tree.Combine (term_operator s) left (unary_of u)) more last

abbrev more_terms : SumTail → SumTail → SumTail
more_terms no_term last = last
more_terms (added s at t more) last = added s at t (more_terms more last)

terms_tokens : (more last : SumTail) → sum_tail_tokens (more_terms more last) ≡ sum_tail_tokens more ++ sum_tail_tokens last
terms_tokens no_term last = refl
terms_tokens (added s at t more) last = ap (λ v. marked at (sum_mark s) ∷ v) (ap (λ v. term_tokens t ++ v) (terms_tokens more last) ∙ sym (append_assoc (term_tokens t) (sum_tail_tokens more) (sum_tail_tokens last)))

terms_last : (left : tree.Expression) (more last : SumTail) → added_of left (more_terms more last) ≡ added_of (added_of left more) last
terms_last left no_term last = refl
terms_last left (added s at t more) last = terms_last (tree.Combine (sum_operator s) left (term_of t)) more last

abbrev more_negs : ConjTail → ConjTail → ConjTail
more_negs no_and last = last
more_negs (and at n more) last = and at n (more_negs more last)

negs_tokens : (more last : ConjTail) → conj_tail_tokens (more_negs more last) ≡ conj_tail_tokens more ++ conj_tail_tokens last
negs_tokens no_and last = refl
negs_tokens (and at n more) last = ap (λ v. marked at mark.And ∷ v) (ap (λ v. neg_tokens n ++ v) (negs_tokens more last) ∙ sym (append_assoc (neg_tokens n) (conj_tail_tokens more) (conj_tail_tokens last)))

negs_last : (left : tree.Expression) (more last : ConjTail) → and_of left (more_negs more last) ≡ and_of (and_of left more) last
negs_last left no_and last = refl
negs_last left (and at n more) last = negs_last (tree.Combine binary.And left (neg_of n)) more last

abbrev more_conjs : ExprTail → ExprTail → ExprTail
more_conjs no_or last = last
more_conjs (or at c more) last = or at c (more_conjs more last)

conjs_tokens : (more last : ExprTail) → expr_tail_tokens (more_conjs more last) ≡ expr_tail_tokens more ++ expr_tail_tokens last
conjs_tokens no_or last = refl
conjs_tokens (or at c more) last = ap (λ v. marked at mark.Or ∷ v) (ap (λ v. conj_tokens c ++ v) (conjs_tokens more last) ∙ sym (append_assoc (conj_tokens c) (expr_tail_tokens more) (expr_tail_tokens last)))

conjs_last : (left : tree.Expression) (more last : ExprTail) → or_of left (more_conjs more last) ≡ or_of (or_of left more) last
conjs_last left no_or last = refl
conjs_last left (or at c more) last = conjs_last (tree.Combine binary.Or left (conj_of c)) more last

-- a reading of the level with one more operand
abbrev Longer : {R T : Type 0} → (R → List Lexeme) → (T → List Lexeme) → (R → tree.Expression) → (tree.Expression → T → tree.Expression) → R → T → Type 0
Longer {R} {T} tokens tail_tokens of with r last = (q : R) × (tokens q ≡ tokens r ++ tail_tokens last) × (of q ≡ with (of r) last)

longer_term : (r : TermReading) (last : TermTail) → Longer term_tokens term_tail_tokens term_of factors_of r last
longer_term (term u more) last =
    (term u (more_factors more last), ap (λ v. unary_tokens u ++ v) (factors_tokens more last) ∙ sym (append_assoc (unary_tokens u) (term_tail_tokens more) (term_tail_tokens last)), factors_last (unary_of u) more last)

longer_sum : (r : SumReading) (last : SumTail) → Longer sum_tokens sum_tail_tokens sum_of added_of r last
longer_sum (sum t more) last =
    (sum t (more_terms more last), ap (λ v. term_tokens t ++ v) (terms_tokens more last) ∙ sym (append_assoc (term_tokens t) (sum_tail_tokens more) (sum_tail_tokens last)), terms_last (term_of t) more last)

longer_conj : (r : ConjReading) (last : ConjTail) → Longer conj_tokens conj_tail_tokens conj_of and_of r last
longer_conj (conj n more) last =
    (conj n (more_negs more last), ap (λ v. neg_tokens n ++ v) (negs_tokens more last) ∙ sym (append_assoc (neg_tokens n) (conj_tail_tokens more) (conj_tail_tokens last)), negs_last (neg_of n) more last)

longer_expr : (r : ExprReading) (last : ExprTail) → Longer expr_tokens expr_tail_tokens expr_of or_of r last
longer_expr (expr c more) last =
    (expr c (more_conjs more last), ap (λ v. conj_tokens c ++ v) (conjs_tokens more last) ∙ sym (append_assoc (conj_tokens c) (expr_tail_tokens more) (expr_tail_tokens last)), conjs_last (conj_of c) more last)

-- tokens of both operands and the operator between them
between : (ts x y rest left right : List Lexeme) (t : Lexeme) → left ≡ x → right ≡ rest → y ≡ t ∷ rest → ts ≡ x ++ y → left ++ (t ∷ right) ≡ ts
between ts x y rest left right t e f g h = ap (λ v. v ++ (t ∷ right)) e ∙ ap (λ v. x ++ (t ∷ v)) f ∙ ap (λ v. x ++ v) (sym g) ∙ sym h

both_bare : (op : Binary) (a b x y : tree.Expression) → bare_expression x ≡ bare_expression a → bare_expression y ≡ bare_expression b → bare_expression (tree.Combine op x y) ≡ bare_expression (tree.Combine op a b)
both_bare op a b x y e f = ap (λ v. tree.Combine op v (bare_expression y)) e ∙ ap (λ v. tree.Combine op (bare_expression a) v) f

module _ (ws vs : List Word) (a b : tree.Expression) where
  term_read : (s : TermSign) → Read IsTerm ws a → Read IsUnary vs b → Read IsTerm (ws ++ (word.Mark (term_mark s) ∷ vs)) (tree.Combine (term_operator s) a b)
  term_read s left right ts h =
      let p = split ws (word.Mark (term_mark s) ∷ vs) ts h in
      let l = left p.0 p.3 in
      let o = first (word.Mark (term_mark s)) vs p.1 p.4 in
      let r = right o.1 o.3 in
      let q = longer_term l.0 (factor s o.0 r.0 no_factor) in (
        q.0,
        q.1 ∙ between ts p.0 p.1 o.1 (term_tokens l.0) (unary_tokens r.0 ++ []) (marked o.0 (term_mark s)) l.1 (append-nil (unary_tokens r.0) ∙ r.1) o.2 p.2,
        ap bare_expression q.2 ∙ both_bare (term_operator s) a b (term_of l.0) (unary_of r.0) l.2 r.2,
      )

  sum_read : (s : SumSign) → Read IsSum ws a → Read IsTerm vs b → Read IsSum (ws ++ (word.Mark (sum_mark s) ∷ vs)) (tree.Combine (sum_operator s) a b)
  sum_read s left right ts h =
      let p = split ws (word.Mark (sum_mark s) ∷ vs) ts h in
      let l = left p.0 p.3 in
      let o = first (word.Mark (sum_mark s)) vs p.1 p.4 in
      let r = right o.1 o.3 in
      let q = longer_sum l.0 (added s o.0 r.0 no_term) in (
        q.0,
        q.1 ∙ between ts p.0 p.1 o.1 (sum_tokens l.0) (term_tokens r.0 ++ []) (marked o.0 (sum_mark s)) l.1 (append-nil (term_tokens r.0) ∙ r.1) o.2 p.2,
        ap bare_expression q.2 ∙ both_bare (sum_operator s) a b (sum_of l.0) (term_of r.0) l.2 r.2,
      )

  compare_read : (s : CompareSign) → Read IsSum ws a → Read IsSum vs b → Read IsCompare (ws ++ (word.Mark (compare_mark s) ∷ vs)) (tree.Combine (compare_operator s) a b)
  compare_read s left right ts h =
      let p = split ws (word.Mark (compare_mark s) ∷ vs) ts h in
      let l = left p.0 p.3 in
      let o = first (word.Mark (compare_mark s)) vs p.1 p.4 in
      let r = right o.1 o.3 in (
        compare l.0 (compared s o.0 r.0),
        between ts p.0 p.1 o.1 (sum_tokens l.0) (sum_tokens r.0) (marked o.0 (compare_mark s)) l.1 r.1 o.2 p.2,
        both_bare (compare_operator s) a b (sum_of l.0) (sum_of r.0) l.2 r.2,
      )

  conj_read : Read IsConj ws a → Read IsNeg vs b → Read IsConj (ws ++ (word.Mark mark.And ∷ vs)) (tree.Combine binary.And a b)
  conj_read left right ts h =
      let p = split ws (word.Mark mark.And ∷ vs) ts h in
      let l = left p.0 p.3 in
      let o = first (word.Mark mark.And) vs p.1 p.4 in
      let r = right o.1 o.3 in
      let q = longer_conj l.0 (and o.0 r.0 no_and) in (
        q.0,
        q.1 ∙ between ts p.0 p.1 o.1 (conj_tokens l.0) (neg_tokens r.0 ++ []) (marked o.0 mark.And) l.1 (append-nil (neg_tokens r.0) ∙ r.1) o.2 p.2,
        ap bare_expression q.2 ∙ both_bare binary.And a b (conj_of l.0) (neg_of r.0) l.2 r.2,
      )

  expr_read : Read IsExpr ws a → Read IsConj vs b → Read IsExpr (ws ++ (word.Mark mark.Or ∷ vs)) (tree.Combine binary.Or a b)
  expr_read left right ts h =
      let p = split ws (word.Mark mark.Or ∷ vs) ts h in
      let l = left p.0 p.3 in
      let o = first (word.Mark mark.Or) vs p.1 p.4 in
      let r = right o.1 o.3 in
      let q = longer_expr l.0 (or o.0 r.0 no_or) in (
        q.0,
        q.1 ∙ between ts p.0 p.1 o.1 (expr_tokens l.0) (conj_tokens r.0 ++ []) (marked o.0 mark.Or) l.1 (append-nil (conj_tokens r.0) ∙ r.1) o.2 p.2,
        ap bare_expression q.2 ∙ both_bare binary.Or a b (expr_of l.0) (conj_of r.0) l.2 r.2,
      )

---- An expression of one level where another is wanted

-- the operand of each level, printed where that level reads it
pub record Operands (x : tree.Expression) (own : ℕ) (ws : List Word) : Type 0 where
  pub on_its_own : Read IsExpr ws x
  pub as_expr : Read IsExpr (fitted own 0 ws) x
  pub as_conj : Read IsConj (fitted own 1 ws) x
  pub as_neg : Read IsNeg (fitted own 2 ws) x
  pub as_sum : Read IsSum (fitted own 4 ws) x
  pub as_term : Read IsTerm (fitted own 5 ws) x
  pub as_unary : Read IsUnary (fitted own 6 ws) x

module _ (ws : List Word) (x : tree.Expression) where
  from_prim : Read IsPrim ws x → Operands x 7 ws
  from_prim h =
      record {
        on_its_own = λ ts e. in_expr ts x (conj_of_prim ts x (h ts e));
        as_expr = λ ts e. in_expr ts x (conj_of_prim ts x (h ts e));
        as_conj = λ ts e. conj_of_prim ts x (h ts e);
        as_neg = λ ts e. neg_of_prim ts x (h ts e);
        as_sum = λ ts e. sum_of_prim ts x (h ts e);
        as_term = λ ts e. term_of_prim ts x (h ts e);
        as_unary = λ ts e. in_unary ts x (h ts e);
      }

  from_unary : Read IsUnary ws x → Operands x 6 ws
  from_unary h =
      record {
        on_its_own = λ ts e. expr_of_sum ts x (in_sum ts x (in_term ts x (h ts e)));
        as_expr = λ ts e. expr_of_sum ts x (in_sum ts x (in_term ts x (h ts e)));
        as_conj = λ ts e. in_conj ts x (in_neg ts x (in_compare ts x (in_sum ts x (in_term ts x (h ts e)))));
        as_neg = λ ts e. in_neg ts x (in_compare ts x (in_sum ts x (in_term ts x (h ts e))));
        as_sum = λ ts e. in_sum ts x (in_term ts x (h ts e));
        as_term = λ ts e. in_term ts x (h ts e);
        as_unary = h;
      }

  from_term : Read IsTerm ws x → Operands x 5 ws
  from_term h =
      let whole : Read IsExpr ws x = λ ts e. expr_of_sum ts x (in_sum ts x (h ts e)) in
      record {
        on_its_own = whole;
        as_expr = whole;
        as_conj = λ ts e. in_conj ts x (in_neg ts x (in_compare ts x (in_sum ts x (h ts e))));
        as_neg = λ ts e. in_neg ts x (in_compare ts x (in_sum ts x (h ts e)));
        as_sum = λ ts e. in_sum ts x (h ts e);
        as_term = h;
        as_unary = λ ts e. in_unary ts x (enclosed_read ws x whole ts e);
      }

  from_sum : Read IsSum ws x → Operands x 4 ws
  from_sum h =
      let whole : Read IsExpr ws x = λ ts e. expr_of_sum ts x (h ts e) in
      record {
        on_its_own = whole;
        as_expr = whole;
        as_conj = λ ts e. in_conj ts x (in_neg ts x (in_compare ts x (h ts e)));
        as_neg = λ ts e. in_neg ts x (in_compare ts x (h ts e));
        as_sum = h;
        as_term = λ ts e. term_of_prim ts x (enclosed_read ws x whole ts e);
        as_unary = λ ts e. in_unary ts x (enclosed_read ws x whole ts e);
      }

  from_compare : Read IsCompare ws x → Operands x 3 ws
  from_compare h =
      let whole : Read IsExpr ws x = λ ts e. expr_of_neg ts x (in_neg ts x (h ts e)) in
      record {
        on_its_own = whole;
        as_expr = whole;
        as_conj = λ ts e. in_conj ts x (in_neg ts x (h ts e));
        as_neg = λ ts e. in_neg ts x (h ts e);
        as_sum = λ ts e. sum_of_prim ts x (enclosed_read ws x whole ts e);
        as_term = λ ts e. term_of_prim ts x (enclosed_read ws x whole ts e);
        as_unary = λ ts e. in_unary ts x (enclosed_read ws x whole ts e);
      }

  from_neg : Read IsNeg ws x → Operands x 2 ws
  from_neg h =
      let whole : Read IsExpr ws x = λ ts e. expr_of_neg ts x (h ts e) in
      record {
        on_its_own = whole;
        as_expr = whole;
        as_conj = λ ts e. in_conj ts x (h ts e);
        as_neg = h;
        as_sum = λ ts e. sum_of_prim ts x (enclosed_read ws x whole ts e);
        as_term = λ ts e. term_of_prim ts x (enclosed_read ws x whole ts e);
        as_unary = λ ts e. in_unary ts x (enclosed_read ws x whole ts e);
      }

  from_conj : Read IsConj ws x → Operands x 1 ws
  from_conj h =
      let whole : Read IsExpr ws x = λ ts e. in_expr ts x (h ts e) in
      record {
        on_its_own = whole;
        as_expr = whole;
        as_conj = h;
        as_neg = λ ts e. neg_of_prim ts x (enclosed_read ws x whole ts e);
        as_sum = λ ts e. sum_of_prim ts x (enclosed_read ws x whole ts e);
        as_term = λ ts e. term_of_prim ts x (enclosed_read ws x whole ts e);
        as_unary = λ ts e. in_unary ts x (enclosed_read ws x whole ts e);
      }

  from_expr : Read IsExpr ws x → Operands x 0 ws
  from_expr whole =
      record {
        on_its_own = whole;
        as_expr = whole;
        as_conj = λ ts e. conj_of_prim ts x (enclosed_read ws x whole ts e);
        as_neg = λ ts e. neg_of_prim ts x (enclosed_read ws x whole ts e);
        as_sum = λ ts e. sum_of_prim ts x (enclosed_read ws x whole ts e);
        as_term = λ ts e. term_of_prim ts x (enclosed_read ws x whole ts e);
        as_unary = λ ts e. in_unary ts x (enclosed_read ws x whole ts e);
      }

int_read : (at : ℕ) (z : ℤ) → Read IsPrim (word.Int z ∷ []) (tree.Number at z)
int_read at z ts h = let t = only (word.Int z) ts h in (int t.0 z, sym t.1, refl)

text_read : (at : ℕ) (t : tree.Bytes) → Read IsPrim (word.Text t ∷ []) (tree.Literal at t)
text_read at s ts h = let t = only (word.Text s) ts h in (text t.0 s, sym t.1, refl)

name_read : (at : ℕ) (x : tree.Bytes) → Read IsPrim (word.Name x ∷ []) (tree.Variable at x)
name_read at x ts h = let t = only (word.Name x) ts h in (name t.0 x, sym t.1, refl)

now_read : (at : ℕ) → Read IsPrim (word.Mark mark.Now ∷ []) (tree.Now at)
now_read at ts h = let t = only (word.Mark mark.Now) ts h in (now t.0, sym t.1, refl)

-- what the operator's left and right operand print as
abbrev put : tree.Expression → ℕ → List Word
put e wanted = fitted (level e) wanted (expression_words e)

pub operands : (e : tree.Expression) → Operands e (level e) (expression_words e)
operands (tree.Number at z) = from_prim (word.Int z ∷ []) (tree.Number at z) (int_read at z)
operands (tree.Literal at t) = from_prim (word.Text t ∷ []) (tree.Literal at t) (text_read at t)
operands (tree.Variable at x) = from_prim (word.Name x ∷ []) (tree.Variable at x) (name_read at x)
operands (tree.Now at) = from_prim (word.Mark mark.Now ∷ []) (tree.Now at) (now_read at)
operands (tree.Apply at unary.Not a) = from_neg (word.Mark mark.Not ∷ put a 2) (tree.Apply at unary.Not a) (not_read (put a 2) a at (operands a).as_neg)
operands (tree.Apply at unary.Negate a) = from_unary (word.Mark mark.Minus ∷ put a 6) (tree.Apply at unary.Negate a) (negate_read (put a 6) a at (operands a).as_unary)
operands (tree.Apply at unary.TextOf a) = from_prim (word.Mark mark.Text ∷ in_parentheses (expression_words a)) (tree.Apply at unary.TextOf a) (text_of_read (expression_words a) a at (operands a).on_its_own)
operands (tree.Apply at unary.Length a) = from_prim (word.Mark mark.Len ∷ in_parentheses (expression_words a)) (tree.Apply at unary.Length a) (len_of_read (expression_words a) a at (operands a).on_its_own)
operands (tree.Combine binary.Or a b) = from_expr (put a 0 ++ (word.Mark mark.Or ∷ put b 1)) (tree.Combine binary.Or a b) (expr_read (put a 0) (put b 1) a b (operands a).as_expr (operands b).as_conj)
operands (tree.Combine binary.And a b) = from_conj (put a 1 ++ (word.Mark mark.And ∷ put b 2)) (tree.Combine binary.And a b) (conj_read (put a 1) (put b 2) a b (operands a).as_conj (operands b).as_neg)
operands (tree.Combine binary.Equal a b) = from_compare (put a 4 ++ (word.Mark mark.Equal ∷ put b 4)) (tree.Combine binary.Equal a b) (compare_read (put a 4) (put b 4) a b equal (operands a).as_sum (operands b).as_sum)
operands (tree.Combine binary.Differ a b) = from_compare (put a 4 ++ (word.Mark mark.Differ ∷ put b 4)) (tree.Combine binary.Differ a b) (compare_read (put a 4) (put b 4) a b differ (operands a).as_sum (operands b).as_sum)
operands (tree.Combine binary.Less a b) = from_compare (put a 4 ++ (word.Mark mark.Less ∷ put b 4)) (tree.Combine binary.Less a b) (compare_read (put a 4) (put b 4) a b less (operands a).as_sum (operands b).as_sum)
operands (tree.Combine binary.AtMost a b) = from_compare (put a 4 ++ (word.Mark mark.AtMost ∷ put b 4)) (tree.Combine binary.AtMost a b) (compare_read (put a 4) (put b 4) a b at_most (operands a).as_sum (operands b).as_sum)
operands (tree.Combine binary.Greater a b) = from_compare (put a 4 ++ (word.Mark mark.Greater ∷ put b 4)) (tree.Combine binary.Greater a b) (compare_read (put a 4) (put b 4) a b greater (operands a).as_sum (operands b).as_sum)
operands (tree.Combine binary.AtLeast a b) = from_compare (put a 4 ++ (word.Mark mark.AtLeast ∷ put b 4)) (tree.Combine binary.AtLeast a b) (compare_read (put a 4) (put b 4) a b at_least (operands a).as_sum (operands b).as_sum)
operands (tree.Combine binary.Add a b) = from_sum (put a 4 ++ (word.Mark mark.Plus ∷ put b 5)) (tree.Combine binary.Add a b) (sum_read (put a 4) (put b 5) a b plus (operands a).as_sum (operands b).as_term)
operands (tree.Combine binary.Subtract a b) = from_sum (put a 4 ++ (word.Mark mark.Minus ∷ put b 5)) (tree.Combine binary.Subtract a b) (sum_read (put a 4) (put b 5) a b minus (operands a).as_sum (operands b).as_term)
operands (tree.Combine binary.Join a b) = from_sum (put a 4 ++ (word.Mark mark.Join ∷ put b 5)) (tree.Combine binary.Join a b) (sum_read (put a 4) (put b 5) a b join (operands a).as_sum (operands b).as_term)
operands (tree.Combine binary.Multiply a b) = from_term (put a 5 ++ (word.Mark mark.Times ∷ put b 6)) (tree.Combine binary.Multiply a b) (term_read (put a 5) (put b 6) a b times (operands a).as_term (operands b).as_unary)
operands (tree.Combine binary.Divide a b) = from_term (put a 5 ++ (word.Mark mark.Over ∷ put b 6)) (tree.Combine binary.Divide a b) (term_read (put a 5) (put b 6) a b over (operands a).as_term (operands b).as_unary)
operands (tree.Combine binary.Remain a b) = from_term (put a 5 ++ (word.Mark mark.Percent ∷ put b 6)) (tree.Combine binary.Remain a b) (term_read (put a 5) (put b 6) a b percent (operands a).as_term (operands b).as_unary)

-- tokens of what is printed of an expression are read as it, up to places
pub expression_read : (e : tree.Expression) → Read IsExpr (expression_words e) e
expression_read e = (operands e).on_its_own
