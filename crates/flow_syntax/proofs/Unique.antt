-- The tokens of a program are those of no other one.
use Rattle.std.proofs.Common.{◌≡◌, ◌∙◌, ℕ, List, [], ◌∷◌, ◌++◌, None, refl, ap, sym, subst, append_assoc, true, IsTrue}
use Rattle.std.proofs.Math.Bool.{Bool-set}
use Rattle.flow_base.specs.Syntax.{Bytes}
use Rattle.flow_base.specs.Syntax as tree
use Rattle.flow_base.specs.declared.token.Word.TheVariants as word
use Rattle.flow_base.specs.declared.token.Mark.TheVariants as mark
use Rattle.flow_base.specs.declared.value.Kind.{Kind}
use Rattle.flow_base.specs.declared.value.Kind.TheVariants as kind
use Rattle.flow_model.specs.Lexeme.{Lexeme}
use Rattle.flow_model.specs.Grammar.{TermSign, times, over, percent, SumSign, plus, minus, join, CompareSign, equal, differ, less, at_most, greater, at_least, ParensReading, parens, PrimReading, int, text, name, now, text_of, len_of, inner, UnaryReading, negate, prim, TermReading, term, TermTail, no_factor, factor, SumReading, sum, SumTail, no_term, added, CompareReading, compare, CompareTail, no_side, compared, NegReading, not, plain, ConjReading, conj, ConjTail, no_and, and, ExprReading, expr, ExprTail, no_or, or, ArgumentsReading, no_argument, argument, ArgumentTail, last_argument, next_argument, TypeReading, typed, TypesReading, no_type, type_, TypeTail, last_type, next_type, ParameterReading, parameter, ParametersReading, no_parameter, parameter_, ParameterTail, last_parameter, next_parameter, DeclarationReading, activity, signal, ElseTail, no_else, else_, CallTail, no_retry, retry, WaitTail, for_ever, for_, SideReading, value, call, wait, BranchesReading, no_branch, branch, StatementReading, let_, assign, sleep, while_, parallel, return_, fail, continue_, deprecate, StatementsReading, no_statement, statement, if_, patch, AfterChoice, otherwise, without, BodyReading, statements, declaration, ProgramReading, workflow}
use Rattle.flow_model.specs.Grammar.{marked, is_patch_id, term_mark, sum_mark, compare_mark, kind_mark, parens_tokens, prim_tokens, unary_tokens, term_tokens, term_tail_tokens, sum_tokens, sum_tail_tokens, compare_tokens, compare_tail_tokens, neg_tokens, conj_tokens, conj_tail_tokens, expr_tokens, expr_tail_tokens, argument_tail_tokens, arguments_tokens, type_tokens, type_tail_tokens, types_tokens, parameter_tokens, parameter_tail_tokens, parameters_tokens, declaration_tokens, else_tail_tokens, call_tail_tokens, wait_tail_tokens, side_tokens, branches_tokens, statement_tokens, statements_tokens, choice_tokens, body_tokens, program_tokens, program_of, Reads}
use Rattle.flow_syntax.specs.Machine.{Symbol, takes}
use Rattle.flow_syntax.specs.Machine as m
use Rattle.flow_syntax.specs.Parsing.{Past}
use Rattle.flow_syntax.proofs.Complete.{EndsTerm, EndsSum, EndsCompare, EndsConj, Ends, term_ends_before, sum_ends_before, compare_ends_before, conj_ends_before, ends_before_argument}

-- from an equation whose both sides are grouped to the left
regrouped : (a b c d e f : List Lexeme) → (a ++ b) ++ c ≡ (d ++ e) ++ f → a ++ (b ++ c) ≡ d ++ (e ++ f)
regrouped a b c d e f h = sym (append_assoc a b c) ∙ h ∙ append_assoc d e f

tail_of : {t u : Lexeme} {x y : List Lexeme} → t ∷ x ≡ u ∷ y → x ≡ y
tail_of h = cc

at_of : {t u : Lexeme} {x y : List Lexeme} → t ∷ x ≡ u ∷ y → t.at ≡ u.at
at_of {t} {u} h = let e : t ≡ u = cc in ap (λ (v : Lexeme). v.at) e

word_of : {t u : Lexeme} {x y : List Lexeme} → t ∷ x ≡ u ∷ y → t.word ≡ u.word
word_of {t} {u} h = let e : t ≡ u = cc in ap (λ (v : Lexeme). v.word) e

-- what is past a symbol is no list that begins with it
clash : (s : Symbol) (x y : List Lexeme) → Past s x → x ≡ y → Past s y
clash s x y h e = subst (Past s) e h

same_term_sign : (s u : TermSign) → word.Mark (term_mark s) ≡ word.Mark (term_mark u) → s ≡ u
same_term_sign times times h = refl
same_term_sign over over h = refl
same_term_sign percent percent h = refl
same_term_sign _ _ h = absurd (cc)

same_sum_sign : (s u : SumSign) → word.Mark (sum_mark s) ≡ word.Mark (sum_mark u) → s ≡ u
same_sum_sign plus plus h = refl
same_sum_sign minus minus h = refl
same_sum_sign join join h = refl
same_sum_sign _ _ h = absurd (cc)

same_compare_sign : (s u : CompareSign) → word.Mark (compare_mark s) ≡ word.Mark (compare_mark u) → s ≡ u
same_compare_sign equal equal h = refl
same_compare_sign differ differ h = refl
same_compare_sign less less h = refl
same_compare_sign at_most at_most h = refl
same_compare_sign greater greater h = refl
same_compare_sign at_least at_least h = refl
same_compare_sign _ _ h = absurd (cc)

same_kind_mark : (k l : Kind) → word.Mark (kind_mark k) ≡ word.Mark (kind_mark l) → k ≡ l
same_kind_mark kind.Int kind.Int h = refl
same_kind_mark kind.Text kind.Text h = refl
same_kind_mark _ _ h = absurd (cc)

-- what begins is not past

factor_starts : (s : TermSign) → takes m.more_term (word.Mark (term_mark s)) ≡ None → ⊥
factor_starts times h = cc
factor_starts over h = cc
factor_starts percent h = cc

added_starts : (s : SumSign) → takes m.more_sum (word.Mark (sum_mark s)) ≡ None → ⊥
added_starts plus h = cc
added_starts minus h = cc
added_starts join h = cc

compared_starts : (s : CompareSign) → takes m.more_compare (word.Mark (compare_mark s)) ≡ None → ⊥
compared_starts equal h = cc
compared_starts differ h = cc
compared_starts less h = cc
compared_starts at_most h = cc
compared_starts greater h = cc
compared_starts at_least h = cc

prim_starts : (p : PrimReading) (x : List Lexeme) → Past m.prim (prim_tokens p ++ x) → ⊥
prim_starts (int at n) x h = cc
prim_starts (text at t) x h = cc
prim_starts (name at n) x h = cc
prim_starts (now at) x h = cc
prim_starts (text_of at p) x h = cc
prim_starts (len_of at p) x h = cc
prim_starts (inner (parens at e to)) x h = cc

compare_starts : (c : CompareReading) (x : List Lexeme) → Past m.compare (compare_tokens c ++ x) → ⊥
compare_starts (compare (sum (term (negate at u) f) g) i) x h = cc
compare_starts (compare (sum (term (prim (int at n)) f) g) i) x h = cc
compare_starts (compare (sum (term (prim (text at t)) f) g) i) x h = cc
compare_starts (compare (sum (term (prim (name at n)) f) g) i) x h = cc
compare_starts (compare (sum (term (prim (now at)) f) g) i) x h = cc
compare_starts (compare (sum (term (prim (text_of at p)) f) g) i) x h = cc
compare_starts (compare (sum (term (prim (len_of at p)) f) g) i) x h = cc
compare_starts (compare (sum (term (prim (inner (parens at e to))) f) g) i) x h = cc

expr_starts : (e : ExprReading) (x : List Lexeme) → Past m.expr (expr_tokens e ++ x) → ⊥
expr_starts (expr (conj (not at n) j) k) x h = cc
expr_starts (expr (conj (plain (compare (sum (term (negate at u) f) g) i)) j) k) x h = cc
expr_starts (expr (conj (plain (compare (sum (term (prim (int at n)) f) g) i)) j) k) x h = cc
expr_starts (expr (conj (plain (compare (sum (term (prim (text at t)) f) g) i)) j) k) x h = cc
expr_starts (expr (conj (plain (compare (sum (term (prim (name at n)) f) g) i)) j) k) x h = cc
expr_starts (expr (conj (plain (compare (sum (term (prim (now at)) f) g) i)) j) k) x h = cc
expr_starts (expr (conj (plain (compare (sum (term (prim (text_of at p)) f) g) i)) j) k) x h = cc
expr_starts (expr (conj (plain (compare (sum (term (prim (len_of at p)) f) g) i)) j) k) x h = cc
expr_starts (expr (conj (plain (compare (sum (term (prim (inner (parens at e to))) f) g) i)) j) k) x h = cc

type_starts : (t : TypeReading) (x : List Lexeme) → Past m.type_ (type_tokens t ++ x) → ⊥
type_starts (typed at kind.Int) x h = cc
type_starts (typed at kind.Text) x h = cc

statement_starts : (s : StatementReading) (x : List Lexeme) → Past m.statement (statement_tokens s ++ x) → ⊥
statement_starts (let_ at name_at n eq e end) x h = cc
statement_starts (assign at n eq s) x h = cc
statement_starts (sleep at e end) x h = cc
statement_starts (while_ at e brace ss) x h = cc
statement_starts (parallel at brace first ss more) x h = cc
statement_starts (return_ at e end) x h = cc
statement_starts (fail at e end) x h = cc
statement_starts (continue_ at as_at new_at paren es end) x h = cc
statement_starts (deprecate at id_at id is end) x h = cc

statements_start : (ss : StatementsReading) (x : List Lexeme) → Past m.statements (statements_tokens ss ++ x) → ⊥
statements_start (no_statement to) x h = cc
statements_start (statement (let_ at name_at n eq e end) more) x h = cc
statements_start (statement (assign at n eq s) more) x h = cc
statements_start (statement (sleep at e end) more) x h = cc
statements_start (statement (while_ at e brace ss) more) x h = cc
statements_start (statement (parallel at brace first ss others) more) x h = cc
statements_start (statement (return_ at e end) more) x h = cc
statements_start (statement (fail at e end) more) x h = cc
statements_start (statement (continue_ at as_at new_at paren es end) more) x h = cc
statements_start (statement (deprecate at id_at id is end) more) x h = cc
statements_start (if_ at e brace ss more) x h = cc
statements_start (patch at id_at id is brace ss more) x h = cc

no_statement_starts : (s : StatementReading) (after x y : List Lexeme) → Past m.statement y → (statement_tokens s ++ after) ++ x ≡ y → ⊥
no_statement_starts s after x y h e = statement_starts s (after ++ x) (clash m.statement y (statement_tokens s ++ (after ++ x)) h (sym e ∙ append_assoc (statement_tokens s) after x))

-- a patch's id is in range in one way
same_patch : (at id_at brace : ℕ) (a b : Bytes) (h : IsTrue (is_patch_id a)) (k : IsTrue (is_patch_id b)) (ss : StatementsReading) (more : AfterChoice) → a ≡ b → patch at id_at a h brace ss more ≡ patch at id_at b k brace ss more
same_patch at id_at brace a b h k ss more e =
    let P : Bytes → Type 0 = λ v. (g : IsTrue (is_patch_id v)) → patch at id_at a h brace ss more ≡ patch at id_at v g brace ss more in
    subst P e (λ g. ap (λ q. patch at id_at a q brace ss more) (Bool-set (is_patch_id a) true h g)) k

same_deprecate : (at id_at end : ℕ) (a b : Bytes) (h : IsTrue (is_patch_id a)) (k : IsTrue (is_patch_id b)) → a ≡ b → deprecate at id_at a h end ≡ deprecate at id_at b k end
same_deprecate at id_at end a b h k e =
    let P : Bytes → Type 0 = λ v. (g : IsTrue (is_patch_id v)) → deprecate at id_at a h end ≡ deprecate at id_at v g end in
    subst P e (λ g. ap (λ q. deprecate at id_at a q end) (Bool-set (is_patch_id a) true h g)) k

mutual
  pub same_parens : (p q : ParensReading) (x y : List Lexeme) → parens_tokens p ++ x ≡ parens_tokens q ++ y → (p ≡ q) × (x ≡ y)
  same_parens (parens a e c) (parens b f d) x y h =
      let i = same_expr e f (marked c mark.Close ∷ x) (marked d mark.Close ∷ y) ((((refl, refl), refl), refl), refl) ((((refl, refl), refl), refl), refl) (regrouped (expr_tokens e) (marked c mark.Close ∷ []) x (expr_tokens f) (marked d mark.Close ∷ []) y (tail_of h)) in
      let ha = at_of h in
      let hb = at_of i.1 in
      (cc, tail_of i.1)

  pub same_prim : (p q : PrimReading) (x y : List Lexeme) → prim_tokens p ++ x ≡ prim_tokens q ++ y → (p ≡ q) × (x ≡ y)
  same_prim (int a n) (int b k) x y h = let ha = at_of h in let hk = word_of h in (cc, tail_of h)
  same_prim (text a n) (text b k) x y h = let ha = at_of h in let hk = word_of h in (cc, tail_of h)
  same_prim (name a n) (name b k) x y h = let ha = at_of h in let hk = word_of h in (cc, tail_of h)
  same_prim (now a) (now b) x y h = let ha = at_of h in (cc, tail_of h)
  same_prim (text_of a p) (text_of b q) x y h = let ha = at_of h in let i = same_parens p q x y (tail_of h) in (cc, i.1)
  same_prim (len_of a p) (len_of b q) x y h = let ha = at_of h in let i = same_parens p q x y (tail_of h) in (cc, i.1)
  same_prim (inner p) (inner q) x y h = let i = same_parens p q x y h in (ap inner i.0, i.1)
  same_prim (inner (parens a e c)) _ x y h = let hk = word_of h in absurd (cc)
  same_prim _ (inner (parens a e c)) x y h = let hk = word_of h in absurd (cc)
  same_prim _ _ x y h = let hk = word_of h in absurd (cc)

  pub same_unary : (p q : UnaryReading) (x y : List Lexeme) → unary_tokens p ++ x ≡ unary_tokens q ++ y → (p ≡ q) × (x ≡ y)
  same_unary (negate a u) (negate b v) x y h = let ha = at_of h in let i = same_unary u v x y (tail_of h) in (cc, i.1)
  same_unary (prim p) (prim q) x y h = let i = same_prim p q x y h in (ap prim i.0, i.1)
  same_unary (negate a u) (prim q) x y h = absurd (prim_starts q y (clash m.prim (marked a mark.Minus ∷ (unary_tokens u ++ x)) (prim_tokens q ++ y) refl h))
  same_unary (prim p) (negate b v) x y h = absurd (prim_starts p x (clash m.prim (marked b mark.Minus ∷ (unary_tokens v ++ y)) (prim_tokens p ++ x) refl (sym h)))

  pub same_term : (p q : TermReading) (x y : List Lexeme) → EndsTerm x → EndsTerm y → term_tokens p ++ x ≡ term_tokens q ++ y → (p ≡ q) × (x ≡ y)
  same_term (term p ms) (term q ns) x y ex ey h =
      let i = same_unary p q (term_tail_tokens ms ++ x) (term_tail_tokens ns ++ y) (regrouped (unary_tokens p) (term_tail_tokens ms) x (unary_tokens q) (term_tail_tokens ns) y h) in
      let j = same_term_tail ms ns x y ex ey i.1 in
      (cc, j.1)

  pub same_term_tail : (p q : TermTail) (x y : List Lexeme) → EndsTerm x → EndsTerm y → term_tail_tokens p ++ x ≡ term_tail_tokens q ++ y → (p ≡ q) × (x ≡ y)
  same_term_tail no_factor no_factor x y ex ey h = (refl, h)
  same_term_tail no_factor (factor s b q ns) x y ex ey h = absurd (factor_starts s (clash m.more_term x _ ex h))
  same_term_tail (factor s a p ms) no_factor x y ex ey h = absurd (factor_starts s (clash m.more_term y _ ey (sym h)))
  same_term_tail (factor s a p ms) (factor u b q ns) x y ex ey h =
      let i = same_unary p q (term_tail_tokens ms ++ x) (term_tail_tokens ns ++ y) (regrouped (unary_tokens p) (term_tail_tokens ms) x (unary_tokens q) (term_tail_tokens ns) y (tail_of h)) in
      let j = same_term_tail ms ns x y ex ey i.1 in
      let hs = same_term_sign s u (word_of h) in
      let ha = at_of h in
      (cc, j.1)

  pub same_sum : (p q : SumReading) (x y : List Lexeme) → EndsSum x → EndsSum y → sum_tokens p ++ x ≡ sum_tokens q ++ y → (p ≡ q) × (x ≡ y)
  same_sum (sum p ms) (sum q ns) x y ex ey h =
      let i = same_term p q (sum_tail_tokens ms ++ x) (sum_tail_tokens ns ++ y) (term_ends_before ms x ex.0) (term_ends_before ns y ey.0) (regrouped (term_tokens p) (sum_tail_tokens ms) x (term_tokens q) (sum_tail_tokens ns) y h) in
      let j = same_sum_tail ms ns x y ex ey i.1 in
      (cc, j.1)

  pub same_sum_tail : (p q : SumTail) (x y : List Lexeme) → EndsSum x → EndsSum y → sum_tail_tokens p ++ x ≡ sum_tail_tokens q ++ y → (p ≡ q) × (x ≡ y)
  same_sum_tail no_term no_term x y ex ey h = (refl, h)
  same_sum_tail no_term (added s b q ns) x y ex ey h = absurd (added_starts s (clash m.more_sum x _ ex.1 h))
  same_sum_tail (added s a p ms) no_term x y ex ey h = absurd (added_starts s (clash m.more_sum y _ ey.1 (sym h)))
  same_sum_tail (added s a p ms) (added u b q ns) x y ex ey h =
      let i = same_term p q (sum_tail_tokens ms ++ x) (sum_tail_tokens ns ++ y) (term_ends_before ms x ex.0) (term_ends_before ns y ey.0) (regrouped (term_tokens p) (sum_tail_tokens ms) x (term_tokens q) (sum_tail_tokens ns) y (tail_of h)) in
      let j = same_sum_tail ms ns x y ex ey i.1 in
      let hs = same_sum_sign s u (word_of h) in
      let ha = at_of h in
      (cc, j.1)

  pub same_compare : (p q : CompareReading) (x y : List Lexeme) → EndsCompare x → EndsCompare y → compare_tokens p ++ x ≡ compare_tokens q ++ y → (p ≡ q) × (x ≡ y)
  same_compare (compare p ms) (compare q ns) x y ex ey h =
      let i = same_sum p q (compare_tail_tokens ms ++ x) (compare_tail_tokens ns ++ y) (sum_ends_before ms x ex.0) (sum_ends_before ns y ey.0) (regrouped (sum_tokens p) (compare_tail_tokens ms) x (sum_tokens q) (compare_tail_tokens ns) y h) in
      let j = same_compare_tail ms ns x y ex ey i.1 in
      (cc, j.1)

  pub same_compare_tail : (p q : CompareTail) (x y : List Lexeme) → EndsCompare x → EndsCompare y → compare_tail_tokens p ++ x ≡ compare_tail_tokens q ++ y → (p ≡ q) × (x ≡ y)
  same_compare_tail no_side no_side x y ex ey h = (refl, h)
  same_compare_tail no_side (compared s b q) x y ex ey h = absurd (compared_starts s (clash m.more_compare x _ ex.1 h))
  same_compare_tail (compared s a p) no_side x y ex ey h = absurd (compared_starts s (clash m.more_compare y _ ey.1 (sym h)))
  same_compare_tail (compared s a p) (compared u b q) x y ex ey h =
      let i = same_sum p q x y ex.0 ey.0 (tail_of h) in
      let hs = same_compare_sign s u (word_of h) in
      let ha = at_of h in
      (cc, i.1)

  pub same_neg : (p q : NegReading) (x y : List Lexeme) → EndsCompare x → EndsCompare y → neg_tokens p ++ x ≡ neg_tokens q ++ y → (p ≡ q) × (x ≡ y)
  same_neg (not a u) (not b v) x y ex ey h = let ha = at_of h in let i = same_neg u v x y ex ey (tail_of h) in (cc, i.1)
  same_neg (plain p) (plain q) x y ex ey h = let i = same_compare p q x y ex ey h in (ap plain i.0, i.1)
  same_neg (not a u) (plain q) x y ex ey h = absurd (compare_starts q y (clash m.compare (marked a mark.Not ∷ (neg_tokens u ++ x)) (compare_tokens q ++ y) refl h))
  same_neg (plain p) (not b v) x y ex ey h = absurd (compare_starts p x (clash m.compare (marked b mark.Not ∷ (neg_tokens v ++ y)) (compare_tokens p ++ x) refl (sym h)))

  pub same_conj : (p q : ConjReading) (x y : List Lexeme) → EndsConj x → EndsConj y → conj_tokens p ++ x ≡ conj_tokens q ++ y → (p ≡ q) × (x ≡ y)
  same_conj (conj p ms) (conj q ns) x y ex ey h =
      let i = same_neg p q (conj_tail_tokens ms ++ x) (conj_tail_tokens ns ++ y) (compare_ends_before ms x ex.0) (compare_ends_before ns y ey.0) (regrouped (neg_tokens p) (conj_tail_tokens ms) x (neg_tokens q) (conj_tail_tokens ns) y h) in
      let j = same_conj_tail ms ns x y ex ey i.1 in
      (cc, j.1)

  pub same_conj_tail : (p q : ConjTail) (x y : List Lexeme) → EndsConj x → EndsConj y → conj_tail_tokens p ++ x ≡ conj_tail_tokens q ++ y → (p ≡ q) × (x ≡ y)
  same_conj_tail no_and no_and x y ex ey h = (refl, h)
  same_conj_tail no_and (and b q ns) x y ex ey h = let c = clash m.more_conj x _ ex.1 h in absurd (cc)
  same_conj_tail (and a p ms) no_and x y ex ey h = let c = clash m.more_conj y _ ey.1 (sym h) in absurd (cc)
  same_conj_tail (and a p ms) (and b q ns) x y ex ey h =
      let i = same_neg p q (conj_tail_tokens ms ++ x) (conj_tail_tokens ns ++ y) (compare_ends_before ms x ex.0) (compare_ends_before ns y ey.0) (regrouped (neg_tokens p) (conj_tail_tokens ms) x (neg_tokens q) (conj_tail_tokens ns) y (tail_of h)) in
      let j = same_conj_tail ms ns x y ex ey i.1 in
      let ha = at_of h in
      (cc, j.1)

  pub same_expr : (p q : ExprReading) (x y : List Lexeme) → Ends x → Ends y → expr_tokens p ++ x ≡ expr_tokens q ++ y → (p ≡ q) × (x ≡ y)
  same_expr (expr p ms) (expr q ns) x y ex ey h =
      let i = same_conj p q (expr_tail_tokens ms ++ x) (expr_tail_tokens ns ++ y) (conj_ends_before ms x ex.0) (conj_ends_before ns y ey.0) (regrouped (conj_tokens p) (expr_tail_tokens ms) x (conj_tokens q) (expr_tail_tokens ns) y h) in
      let j = same_expr_tail ms ns x y ex ey i.1 in
      (cc, j.1)

  pub same_expr_tail : (p q : ExprTail) (x y : List Lexeme) → Ends x → Ends y → expr_tail_tokens p ++ x ≡ expr_tail_tokens q ++ y → (p ≡ q) × (x ≡ y)
  same_expr_tail no_or no_or x y ex ey h = (refl, h)
  same_expr_tail no_or (or b q ns) x y ex ey h = let c = clash m.more_expr x _ ex.1 h in absurd (cc)
  same_expr_tail (or a p ms) no_or x y ex ey h = let c = clash m.more_expr y _ ey.1 (sym h) in absurd (cc)
  same_expr_tail (or a p ms) (or b q ns) x y ex ey h =
      let i = same_conj p q (expr_tail_tokens ms ++ x) (expr_tail_tokens ns ++ y) (conj_ends_before ms x ex.0) (conj_ends_before ns y ey.0) (regrouped (conj_tokens p) (expr_tail_tokens ms) x (conj_tokens q) (expr_tail_tokens ns) y (tail_of h)) in
      let j = same_expr_tail ms ns x y ex ey i.1 in
      let ha = at_of h in
      (cc, j.1)

-- an expression before a semicolon
same_before : (e f : ExprReading) (c d : ℕ) (x y : List Lexeme) → (expr_tokens e ++ (marked c mark.Semicolon ∷ [])) ++ x ≡ (expr_tokens f ++ (marked d mark.Semicolon ∷ [])) ++ y → (e ≡ f) × (c ≡ d) × (x ≡ y)
same_before e f c d x y h =
    let i = same_expr e f (marked c mark.Semicolon ∷ x) (marked d mark.Semicolon ∷ y) ((((refl, refl), refl), refl), refl) ((((refl, refl), refl), refl), refl) (regrouped (expr_tokens e) (marked c mark.Semicolon ∷ []) x (expr_tokens f) (marked d mark.Semicolon ∷ []) y h) in
    (i.0, at_of i.1, tail_of i.1)

same_argument_tail : (p q : ArgumentTail) (x y : List Lexeme) → argument_tail_tokens p ++ x ≡ argument_tail_tokens q ++ y → (p ≡ q) × (x ≡ y)
same_argument_tail (last_argument a) (last_argument b) x y h = let ha = at_of h in (cc, tail_of h)
same_argument_tail (next_argument a p ms) (next_argument b q ns) x y h =
    let i = same_expr p q (argument_tail_tokens ms ++ x) (argument_tail_tokens ns ++ y) (ends_before_argument ms x) (ends_before_argument ns y) (regrouped (expr_tokens p) (argument_tail_tokens ms) x (expr_tokens q) (argument_tail_tokens ns) y (tail_of h)) in
    let j = same_argument_tail ms ns x y i.1 in
    let ha = at_of h in
    (cc, j.1)
same_argument_tail _ _ x y h = let hk = word_of h in absurd (cc)

same_arguments : (p q : ArgumentsReading) (x y : List Lexeme) → arguments_tokens p ++ x ≡ arguments_tokens q ++ y → (p ≡ q) × (x ≡ y)
same_arguments (no_argument a) (no_argument b) x y h = let ha = at_of h in (cc, tail_of h)
same_arguments (argument p ms) (argument q ns) x y h =
    let i = same_expr p q (argument_tail_tokens ms ++ x) (argument_tail_tokens ns ++ y) (ends_before_argument ms x) (ends_before_argument ns y) (regrouped (expr_tokens p) (argument_tail_tokens ms) x (expr_tokens q) (argument_tail_tokens ns) y h) in
    let j = same_argument_tail ms ns x y i.1 in
    (cc, j.1)
same_arguments (no_argument a) (argument q ns) x y h = absurd (expr_starts q (argument_tail_tokens ns ++ y) (clash m.expr (marked a mark.Close ∷ x) (expr_tokens q ++ (argument_tail_tokens ns ++ y)) refl (h ∙ append_assoc (expr_tokens q) (argument_tail_tokens ns) y)))
same_arguments (argument p ms) (no_argument b) x y h = absurd (expr_starts p (argument_tail_tokens ms ++ x) (clash m.expr (marked b mark.Close ∷ y) (expr_tokens p ++ (argument_tail_tokens ms ++ x)) refl (sym h ∙ append_assoc (expr_tokens p) (argument_tail_tokens ms) x)))

same_type : (p q : TypeReading) (x y : List Lexeme) → type_tokens p ++ x ≡ type_tokens q ++ y → (p ≡ q) × (x ≡ y)
same_type (typed a k) (typed b l) x y h = let ha = at_of h in let hk = same_kind_mark k l (word_of h) in (cc, tail_of h)

same_type_tail : (p q : TypeTail) (x y : List Lexeme) → type_tail_tokens p ++ x ≡ type_tail_tokens q ++ y → (p ≡ q) × (x ≡ y)
same_type_tail (last_type a) (last_type b) x y h = let ha = at_of h in (cc, tail_of h)
same_type_tail (next_type a p ms) (next_type b q ns) x y h =
    let i = same_type p q (type_tail_tokens ms ++ x) (type_tail_tokens ns ++ y) (regrouped (type_tokens p) (type_tail_tokens ms) x (type_tokens q) (type_tail_tokens ns) y (tail_of h)) in
    let j = same_type_tail ms ns x y i.1 in
    let ha = at_of h in
    (cc, j.1)
same_type_tail _ _ x y h = let hk = word_of h in absurd (cc)

same_types : (p q : TypesReading) (x y : List Lexeme) → types_tokens p ++ x ≡ types_tokens q ++ y → (p ≡ q) × (x ≡ y)
same_types (no_type a) (no_type b) x y h = let ha = at_of h in (cc, tail_of h)
same_types (type_ p ms) (type_ q ns) x y h =
    let i = same_type p q (type_tail_tokens ms ++ x) (type_tail_tokens ns ++ y) (regrouped (type_tokens p) (type_tail_tokens ms) x (type_tokens q) (type_tail_tokens ns) y h) in
    let j = same_type_tail ms ns x y i.1 in
    (cc, j.1)
same_types (no_type a) (type_ q ns) x y h = absurd (type_starts q (type_tail_tokens ns ++ y) (clash m.type_ (marked a mark.Close ∷ x) (type_tokens q ++ (type_tail_tokens ns ++ y)) refl (h ∙ append_assoc (type_tokens q) (type_tail_tokens ns) y)))
same_types (type_ p ms) (no_type b) x y h = absurd (type_starts p (type_tail_tokens ms ++ x) (clash m.type_ (marked b mark.Close ∷ y) (type_tokens p ++ (type_tail_tokens ms ++ x)) refl (sym h ∙ append_assoc (type_tokens p) (type_tail_tokens ms) x)))

same_parameter : (p q : ParameterReading) (x y : List Lexeme) → parameter_tokens p ++ x ≡ parameter_tokens q ++ y → (p ≡ q) × (x ≡ y)
same_parameter (parameter a n c t) (parameter b k d u) x y h =
    let i = same_type t u x y (tail_of (tail_of h)) in
    let ha = at_of h in
    let hk = word_of h in
    let hc = at_of (tail_of h) in
    (cc, i.1)

same_parameter_tail : (p q : ParameterTail) (x y : List Lexeme) → parameter_tail_tokens p ++ x ≡ parameter_tail_tokens q ++ y → (p ≡ q) × (x ≡ y)
same_parameter_tail (last_parameter a) (last_parameter b) x y h = let ha = at_of h in (cc, tail_of h)
same_parameter_tail (next_parameter a p ms) (next_parameter b q ns) x y h =
    let i = same_parameter p q (parameter_tail_tokens ms ++ x) (parameter_tail_tokens ns ++ y) (regrouped (parameter_tokens p) (parameter_tail_tokens ms) x (parameter_tokens q) (parameter_tail_tokens ns) y (tail_of h)) in
    let j = same_parameter_tail ms ns x y i.1 in
    let ha = at_of h in
    (cc, j.1)
same_parameter_tail _ _ x y h = let hk = word_of h in absurd (cc)

same_parameters : (p q : ParametersReading) (x y : List Lexeme) → parameters_tokens p ++ x ≡ parameters_tokens q ++ y → (p ≡ q) × (x ≡ y)
same_parameters (no_parameter a) (no_parameter b) x y h = let ha = at_of h in (cc, tail_of h)
same_parameters (parameter_ (parameter a n c t) ms) (parameter_ (parameter b k d u) ns) x y h =
    let p = parameter a n c t in
    let q = parameter b k d u in
    let i = same_parameter p q (parameter_tail_tokens ms ++ x) (parameter_tail_tokens ns ++ y) (regrouped (parameter_tokens p) (parameter_tail_tokens ms) x (parameter_tokens q) (parameter_tail_tokens ns) y h) in
    let j = same_parameter_tail ms ns x y i.1 in
    (ap (λ v. parameter_ v ms) i.0 ∙ ap (parameter_ q) j.0, j.1)
same_parameters (no_parameter a) (parameter_ (parameter b k d u) ns) x y h = let hk = word_of h in absurd (cc)
same_parameters (parameter_ (parameter a n c t) ms) (no_parameter b) x y h = let hk = word_of h in absurd (cc)

same_declaration : (p q : DeclarationReading) (x y : List Lexeme) → declaration_tokens p ++ x ≡ declaration_tokens q ++ y → (p ≡ q) × (x ≡ y)
same_declaration (activity a b n c us d t e) (activity a' b' n' c' us' d' t' e') x y h =
    let ha = at_of h in
    let hb = at_of (tail_of h) in
    let hn = word_of (tail_of h) in
    let hc = at_of (tail_of (tail_of h)) in
    let i = same_types us us' ((marked d mark.Arrow ∷ (type_tokens t ++ (marked e mark.Semicolon ∷ []))) ++ x) ((marked d' mark.Arrow ∷ (type_tokens t' ++ (marked e' mark.Semicolon ∷ []))) ++ y) (regrouped (types_tokens us) (marked d mark.Arrow ∷ (type_tokens t ++ (marked e mark.Semicolon ∷ []))) x (types_tokens us') (marked d' mark.Arrow ∷ (type_tokens t' ++ (marked e' mark.Semicolon ∷ []))) y (tail_of (tail_of (tail_of h)))) in
    let hd = at_of i.1 in
    let j = same_type t t' (marked e mark.Semicolon ∷ x) (marked e' mark.Semicolon ∷ y) (regrouped (type_tokens t) (marked e mark.Semicolon ∷ []) x (type_tokens t') (marked e' mark.Semicolon ∷ []) y (tail_of i.1)) in
    let he = at_of j.1 in
    (cc, tail_of j.1)
same_declaration (signal a b n c t e) (signal a' b' n' c' t' e') x y h =
    let ha = at_of h in
    let hb = at_of (tail_of h) in
    let hn = word_of (tail_of h) in
    let hc = at_of (tail_of (tail_of h)) in
    let j = same_type t t' (marked e mark.Semicolon ∷ x) (marked e' mark.Semicolon ∷ y) (regrouped (type_tokens t) (marked e mark.Semicolon ∷ []) x (type_tokens t') (marked e' mark.Semicolon ∷ []) y (tail_of (tail_of (tail_of h)))) in
    let he = at_of j.1 in
    (cc, tail_of j.1)
same_declaration _ _ x y h = let hk = word_of h in absurd (cc)

mutual
  same_else_tail : (p q : ElseTail) (x y : List Lexeme) → else_tail_tokens p ++ x ≡ else_tail_tokens q ++ y → (p ≡ q) × (x ≡ y)
  same_else_tail (no_else a) (no_else b) x y h = let ha = at_of h in (cc, tail_of h)
  same_else_tail (else_ a b ss c) (else_ a' b' ss' c') x y h =
      let ha = at_of h in
      let hb = at_of (tail_of h) in
      let j = same_statements ss ss' (marked c mark.Semicolon ∷ x) (marked c' mark.Semicolon ∷ y) (regrouped (statements_tokens ss) (marked c mark.Semicolon ∷ []) x (statements_tokens ss') (marked c' mark.Semicolon ∷ []) y (tail_of (tail_of h))) in
      let he = at_of j.1 in
      (cc, tail_of j.1)
  same_else_tail _ _ x y h = let hk = word_of h in absurd (cc)

  same_call_tail : (p q : CallTail) (x y : List Lexeme) → call_tail_tokens p ++ x ≡ call_tail_tokens q ++ y → (p ≡ q) × (x ≡ y)
  same_call_tail (no_retry p) (no_retry q) x y h = let i = same_else_tail p q x y h in (ap no_retry i.0, i.1)
  same_call_tail (retry a b n c d k p) (retry a' b' n' c' d' k' q) x y h =
      let ha = at_of h in
      let hb = at_of (tail_of h) in
      let hn = word_of (tail_of h) in
      let hc = at_of (tail_of (tail_of h)) in
      let hd = at_of (tail_of (tail_of (tail_of h))) in
      let hk = word_of (tail_of (tail_of (tail_of h))) in
      let i = same_else_tail p q x y (tail_of (tail_of (tail_of (tail_of h)))) in
      (cc, i.1)
  same_call_tail (no_retry (no_else e)) (retry a b n c d k q) x y h = let hk = word_of h in absurd (cc)
  same_call_tail (no_retry (else_ e f ss g)) (retry a b n c d k q) x y h = let hk = word_of h in absurd (cc)
  same_call_tail (retry a b n c d k p) (no_retry (no_else e)) x y h = let hk = word_of h in absurd (cc)
  same_call_tail (retry a b n c d k p) (no_retry (else_ e f ss g)) x y h = let hk = word_of h in absurd (cc)

  same_wait_tail : (p q : WaitTail) (x y : List Lexeme) → wait_tail_tokens p ++ x ≡ wait_tail_tokens q ++ y → (p ≡ q) × (x ≡ y)
  same_wait_tail (for_ever a) (for_ever b) x y h = let ha = at_of h in (cc, tail_of h)
  same_wait_tail (for_ a e b c ss d) (for_ a' e' b' c' ss' d') x y h =
      let p = marked b mark.Else ∷ marked c mark.BraceOpen ∷ (statements_tokens ss ++ (marked d mark.Semicolon ∷ [])) in
      let q = marked b' mark.Else ∷ marked c' mark.BraceOpen ∷ (statements_tokens ss' ++ (marked d' mark.Semicolon ∷ [])) in
      let i = same_expr e e' (p ++ x) (q ++ y) ((((refl, refl), refl), refl), refl) ((((refl, refl), refl), refl), refl) (regrouped (expr_tokens e) p x (expr_tokens e') q y (tail_of h)) in
      let ha = at_of h in
      let hb = at_of i.1 in
      let hc = at_of (tail_of i.1) in
      let j = same_statements ss ss' (marked d mark.Semicolon ∷ x) (marked d' mark.Semicolon ∷ y) (regrouped (statements_tokens ss) (marked d mark.Semicolon ∷ []) x (statements_tokens ss') (marked d' mark.Semicolon ∷ []) y (tail_of (tail_of i.1))) in
      let he = at_of j.1 in
      (cc, tail_of j.1)
  same_wait_tail _ _ x y h = let hk = word_of h in absurd (cc)

  same_side : (p q : SideReading) (x y : List Lexeme) → side_tokens p ++ x ≡ side_tokens q ++ y → (p ≡ q) × (x ≡ y)
  same_side (value e c) (value f d) x y h = let i = same_before e f c d x y h in (cc, i.2)
  same_side (call a b n c es d) (call a' b' n' c' es' d') x y h =
      let ha = at_of h in
      let hb = at_of (tail_of h) in
      let hn = word_of (tail_of h) in
      let hc = at_of (tail_of (tail_of h)) in
      let i = same_arguments es es' (call_tail_tokens d ++ x) (call_tail_tokens d' ++ y) (regrouped (arguments_tokens es) (call_tail_tokens d) x (arguments_tokens es') (call_tail_tokens d') y (tail_of (tail_of (tail_of h)))) in
      let j = same_call_tail d d' x y i.1 in
      (cc, j.1)
  same_side (wait a b c n d) (wait a' b' c' n' d') x y h =
      let ha = at_of h in
      let hb = at_of (tail_of h) in
      let hc = at_of (tail_of (tail_of h)) in
      let hn = word_of (tail_of (tail_of h)) in
      let i = same_wait_tail d d' x y (tail_of (tail_of (tail_of h))) in
      (cc, i.1)
  same_side (value e c) (call a b n p es d) x y h = absurd (expr_starts e ((marked c mark.Semicolon ∷ []) ++ x) (clash m.expr (side_tokens (call a b n p es d) ++ y) (expr_tokens e ++ ((marked c mark.Semicolon ∷ []) ++ x)) refl (sym h ∙ append_assoc (expr_tokens e) (marked c mark.Semicolon ∷ []) x)))
  same_side (call a b n p es d) (value e c) x y h = absurd (expr_starts e ((marked c mark.Semicolon ∷ []) ++ y) (clash m.expr (side_tokens (call a b n p es d) ++ x) (expr_tokens e ++ ((marked c mark.Semicolon ∷ []) ++ y)) refl (h ∙ append_assoc (expr_tokens e) (marked c mark.Semicolon ∷ []) y)))
  same_side (value e c) (wait a b p n d) x y h = absurd (expr_starts e ((marked c mark.Semicolon ∷ []) ++ x) (clash m.expr (side_tokens (wait a b p n d) ++ y) (expr_tokens e ++ ((marked c mark.Semicolon ∷ []) ++ x)) refl (sym h ∙ append_assoc (expr_tokens e) (marked c mark.Semicolon ∷ []) x)))
  same_side (wait a b p n d) (value e c) x y h = absurd (expr_starts e ((marked c mark.Semicolon ∷ []) ++ y) (clash m.expr (side_tokens (wait a b p n d) ++ x) (expr_tokens e ++ ((marked c mark.Semicolon ∷ []) ++ y)) refl (h ∙ append_assoc (expr_tokens e) (marked c mark.Semicolon ∷ []) y)))
  same_side _ _ x y h = let hk = word_of h in absurd (cc)

  same_branches : (p q : BranchesReading) (x y : List Lexeme) → branches_tokens p ++ x ≡ branches_tokens q ++ y → (p ≡ q) × (x ≡ y)
  same_branches (no_branch a) (no_branch b) x y h = let ha = at_of h in (cc, tail_of h)
  same_branches (branch a ss p) (branch b us q) x y h =
      let i = same_statements ss us (branches_tokens p ++ x) (branches_tokens q ++ y) (regrouped (statements_tokens ss) (branches_tokens p) x (statements_tokens us) (branches_tokens q) y (tail_of h)) in
      let j = same_branches p q x y i.1 in
      let ha = at_of h in
      (cc, j.1)
  same_branches _ _ x y h = let hk = word_of h in absurd (cc)

  same_statement : (p q : StatementReading) (x y : List Lexeme) → statement_tokens p ++ x ≡ statement_tokens q ++ y → (p ≡ q) × (x ≡ y)
  same_statement (let_ a b n c e d) (let_ a' b' n' c' e' d') x y h =
      let i = same_before e e' d d' x y (tail_of (tail_of (tail_of h))) in
      let ha = at_of h in
      let hb = at_of (tail_of h) in
      let hn = word_of (tail_of h) in
      let hc = at_of (tail_of (tail_of h)) in
      (cc, i.2)
  same_statement (assign a n c s) (assign a' n' c' s') x y h =
      let i = same_side s s' x y (tail_of (tail_of h)) in
      let ha = at_of h in
      let hn = word_of h in
      let hc = at_of (tail_of h) in
      (cc, i.1)
  same_statement (sleep a e c) (sleep a' e' c') x y h =
      let i = same_before e e' c c' x y (tail_of h) in
      let ha = at_of h in
      (cc, i.2)
  same_statement (while_ a e c ss) (while_ a' e' c' ss') x y h =
      let i = same_expr e e' ((marked c mark.BraceOpen ∷ statements_tokens ss) ++ x) ((marked c' mark.BraceOpen ∷ statements_tokens ss') ++ y) ((((refl, refl), refl), refl), refl) ((((refl, refl), refl), refl), refl) (regrouped (expr_tokens e) (marked c mark.BraceOpen ∷ statements_tokens ss) x (expr_tokens e') (marked c' mark.BraceOpen ∷ statements_tokens ss') y (tail_of h)) in
      let ha = at_of h in
      let hc = at_of i.1 in
      let j = same_statements ss ss' x y (tail_of i.1) in
      (cc, j.1)
  same_statement (parallel a b c ss p) (parallel a' b' c' ss' q) x y h =
      let ha = at_of h in
      let hb = at_of (tail_of h) in
      let hc = at_of (tail_of (tail_of h)) in
      let i = same_statements ss ss' (branches_tokens p ++ x) (branches_tokens q ++ y) (regrouped (statements_tokens ss) (branches_tokens p) x (statements_tokens ss') (branches_tokens q) y (tail_of (tail_of (tail_of h)))) in
      let j = same_branches p q x y i.1 in
      (cc, j.1)
  same_statement (return_ a e c) (return_ a' e' c') x y h =
      let i = same_before e e' c c' x y (tail_of h) in
      let ha = at_of h in
      (cc, i.2)
  same_statement (fail a e c) (fail a' e' c') x y h =
      let i = same_before e e' c c' x y (tail_of h) in
      let ha = at_of h in
      (cc, i.2)
  same_statement (continue_ a b n p es c) (continue_ a' b' n' p' es' c') x y h =
      let ha = at_of h in
      let hb = at_of (tail_of h) in
      let hn = at_of (tail_of (tail_of h)) in
      let hp = at_of (tail_of (tail_of (tail_of h))) in
      let i = same_arguments es es' (marked c mark.Semicolon ∷ x) (marked c' mark.Semicolon ∷ y) (regrouped (arguments_tokens es) (marked c mark.Semicolon ∷ []) x (arguments_tokens es') (marked c' mark.Semicolon ∷ []) y (tail_of (tail_of (tail_of (tail_of h))))) in
      let hc = at_of i.1 in
      (cc, tail_of i.1)
  same_statement (deprecate a b id is c) (deprecate a' b' id' is' c') x y h =
      let ha = at_of h in
      let hb = at_of (tail_of h) in
      let hn = word_of (tail_of h) in
      let hid : id ≡ id' = cc in
      let hc = at_of (tail_of (tail_of h)) in
      let k = same_deprecate a b c id id' is is' hid in
      (cc, tail_of (tail_of (tail_of h)))
  -- both begin with a name
  same_statement (deprecate a b id is c) (assign a' n' c' s') x y h = let hk = word_of (tail_of h) in absurd (cc)
  same_statement (assign a n c s) (deprecate a' b' id' is' c') x y h = let hk = word_of (tail_of h) in absurd (cc)
  same_statement _ _ x y h = let hk = word_of h in absurd (cc)

  same_statements : (p q : StatementsReading) (x y : List Lexeme) → statements_tokens p ++ x ≡ statements_tokens q ++ y → (p ≡ q) × (x ≡ y)
  same_statements (no_statement a) (no_statement b) x y h = let ha = at_of h in (cc, tail_of h)
  same_statements (statement s ms) (statement u ns) x y h =
      let i = same_statement s u (statements_tokens ms ++ x) (statements_tokens ns ++ y) (regrouped (statement_tokens s) (statements_tokens ms) x (statement_tokens u) (statements_tokens ns) y h) in
      let j = same_statements ms ns x y i.1 in
      (cc, j.1)
  same_statements (if_ a e c ss ms) (if_ a' e' c' ss' ns) x y h =
      let p = marked c mark.BraceOpen ∷ (statements_tokens ss ++ choice_tokens ms) in
      let q = marked c' mark.BraceOpen ∷ (statements_tokens ss' ++ choice_tokens ns) in
      let i = same_expr e e' (p ++ x) (q ++ y) ((((refl, refl), refl), refl), refl) ((((refl, refl), refl), refl), refl) (regrouped (expr_tokens e) p x (expr_tokens e') q y (tail_of h)) in
      let ha = at_of h in
      let hc = at_of i.1 in
      let j = same_statements ss ss' (choice_tokens ms ++ x) (choice_tokens ns ++ y) (regrouped (statements_tokens ss) (choice_tokens ms) x (statements_tokens ss') (choice_tokens ns) y (tail_of i.1)) in
      let l = same_choice ms ns x y j.1 in
      (cc, l.1)
  same_statements (patch a b id is c ss ms) (patch a' b' id' is' c' ss' ns) x y h =
      let ha = at_of h in
      let hb = at_of (tail_of h) in
      let hn = word_of (tail_of h) in
      let hid : id ≡ id' = cc in
      let hc = at_of (tail_of (tail_of h)) in
      let j = same_statements ss ss' (choice_tokens ms ++ x) (choice_tokens ns ++ y) (regrouped (statements_tokens ss) (choice_tokens ms) x (statements_tokens ss') (choice_tokens ns) y (tail_of (tail_of (tail_of h)))) in
      let l = same_choice ms ns x y j.1 in
      let k = same_patch a b c id id' is is' ss ms hid in
      (cc, l.1)
  same_statements (statement s ms) q x y h = absurd (no_statement_starts s (statements_tokens ms) x (statements_tokens q ++ y) refl h)
  same_statements p (statement u ns) x y h = absurd (no_statement_starts u (statements_tokens ns) y (statements_tokens p ++ x) refl (sym h))
  same_statements _ _ x y h = let hk = word_of h in absurd (cc)

  same_choice : (p q : AfterChoice) (x y : List Lexeme) → choice_tokens p ++ x ≡ choice_tokens q ++ y → (p ≡ q) × (x ≡ y)
  same_choice (otherwise a b ss ms) (otherwise a' b' us ns) x y h =
      let i = same_statements ss us (statements_tokens ms ++ x) (statements_tokens ns ++ y) (regrouped (statements_tokens ss) (statements_tokens ms) x (statements_tokens us) (statements_tokens ns) y (tail_of (tail_of h))) in
      let j = same_statements ms ns x y i.1 in
      let ha = at_of h in
      let hb = at_of (tail_of h) in
      (cc, j.1)
  same_choice (without p) (without q) x y h = let i = same_statements p q x y h in (ap without i.0, i.1)
  same_choice (otherwise a b ss ms) (without q) x y h = absurd (statements_start q y (clash m.statements (choice_tokens (otherwise a b ss ms) ++ x) (statements_tokens q ++ y) refl h))
  same_choice (without p) (otherwise a b ss ms) x y h = absurd (statements_start p x (clash m.statements (choice_tokens (otherwise a b ss ms) ++ y) (statements_tokens p ++ x) refl (sym h)))

declaration_ends : (d : DeclarationReading) (x : List Lexeme) → Past m.statements (declaration_tokens d ++ x)
declaration_ends (activity a b n c us d t e) x = refl
declaration_ends (signal a b n c t e) x = refl

same_body : (p q : BodyReading) (x y : List Lexeme) → body_tokens p ++ x ≡ body_tokens q ++ y → (p ≡ q) × (x ≡ y)
same_body (statements p) (statements q) x y h = let i = same_statements p q x y h in (ap statements i.0, i.1)
same_body (declaration d ms) (declaration e ns) x y h =
    let i = same_declaration d e (body_tokens ms ++ x) (body_tokens ns ++ y) (regrouped (declaration_tokens d) (body_tokens ms) x (declaration_tokens e) (body_tokens ns) y h) in
    let j = same_body ms ns x y i.1 in
    (cc, j.1)
same_body (statements p) (declaration e ns) x y h = absurd (statements_start p x (clash m.statements (declaration_tokens e ++ (body_tokens ns ++ y)) (statements_tokens p ++ x) (declaration_ends e (body_tokens ns ++ y)) (sym (h ∙ append_assoc (declaration_tokens e) (body_tokens ns) y))))
same_body (declaration d ms) (statements q) x y h = absurd (statements_start q y (clash m.statements (declaration_tokens d ++ (body_tokens ms ++ x)) (statements_tokens q ++ y) (declaration_ends d (body_tokens ms ++ x)) (sym (append_assoc (declaration_tokens d) (body_tokens ms) x) ∙ h)))

pub same_program : (p q : ProgramReading) → program_tokens p ≡ program_tokens q → p ≡ q
same_program (workflow a b n c ps d body) (workflow a' b' n' c' ps' d' body') h =
    let ha = at_of h in
    let hb = at_of (tail_of h) in
    let hn = word_of (tail_of h) in
    let hc = at_of (tail_of (tail_of h)) in
    let i = same_parameters ps ps' (marked d mark.BraceOpen ∷ body_tokens body) (marked d' mark.BraceOpen ∷ body_tokens body') (tail_of (tail_of (tail_of h))) in
    let hd = at_of i.1 in
    let j = same_body body body' [] [] (ap (λ x. x ++ []) (tail_of i.1)) in
    cc

-- the grammar reads a list of tokens as one program at most
pub one_program : (ts : List Lexeme) (p q : tree.Program) → Reads ts p → Reads ts q → p ≡ q
one_program ts p q r s = let e = same_program r.0 s.0 (r.1 ∙ sym s.1) in sym r.2 ∙ ap program_of e ∙ s.2
