-- The same for expressions.
use Rattle.std.proofs.Common.{◌≡◌, ◌∙◌, ℕ, ℤ, List, [], ◌∷◌, ◌++◌, refl, ap, sym, append_assoc}
use Rattle.std.proofs.lemmas.List.{append-nil}
use Rattle.flow_base.specs.Syntax as tree
use Rattle.flow_base.specs.Syntax.{Bytes}
use Rattle.flow_base.specs.declared.token.Word.{Word}
use Rattle.flow_base.specs.declared.token.Word.TheVariants as word
use Rattle.flow_base.specs.declared.token.Mark.{Mark}
use Rattle.flow_base.specs.declared.token.Mark.TheVariants as mark
use Rattle.flow_base.specs.declared.syntax.Unary.{Unary}
use Rattle.flow_base.specs.declared.syntax.Unary.TheVariants as unary
use Rattle.flow_base.specs.declared.syntax.Binary.{Binary}
use Rattle.flow_base.specs.declared.syntax.Binary.TheVariants as binary
use Rattle.flow_model.specs.Lexeme.{Lexeme}
use Rattle.flow_model.specs.Grammar.{parens, int, text, name, now, text_of, len_of, inner, negate, prim, term, no_factor, factor, sum, no_term, added, compare, no_side, compared, not, plain, conj, no_and, and, expr, no_or, or, no_argument, argument, last_argument, next_argument}
use Rattle.flow_model.specs.Grammar.{marked, term_mark, sum_mark, compare_mark, compare_operator, parens_tokens, prim_tokens, unary_tokens, term_tokens, term_tail_tokens, sum_tokens, sum_tail_tokens, compare_tokens, neg_tokens, conj_tokens, conj_tail_tokens, expr_tokens, expr_tail_tokens, argument_tail_tokens, arguments_tokens, parens_of, prim_of, unary_of, term_of, factors_of, sum_of, added_of, compare_of, neg_of, conj_of, and_of, expr_of, or_of, argument_tail_of, arguments_of}
use Rattle.flow_syntax.specs.Machine.{Symbol, takes, then_more, fault}
use Rattle.flow_syntax.specs.Machine as m
use Rattle.flow_syntax.specs.Parsing.{Parsed, SoFar, Lacks, Past, IsFactor, IsAdded, IsCompared}
use Rattle.flow_syntax.proofs.Steps.{passes, Same, Alike, is_then, is_alike, unary_alike, neg_alike, compare_is, factor_step, added_step, compared_step, past_and, past_or, arguments_same}
use Rattle.flow_syntax.proofs.Parsed.{so_begins, so_more}

-- a mark that was read
abbrev pub Marked : Mark → List Lexeme → ℕ → List Lexeme → Type 0
Marked k ts at rest = Parsed (m.sign k) (λ at. marked at k ∷ []) (λ at. at) ts at rest

abbrev pub IsExpr : List Lexeme → tree.Expression → List Lexeme → Type 0
IsExpr ts x rest = Parsed m.expr expr_tokens expr_of ts x rest

-- a token by its parts
pub first_is : (t : Lexeme) (k : Word) (ts rest : List Lexeme) → ts ≡ t ∷ rest → t.word ≡ k → (let u : Lexeme = record { at = t.at; word = k } in u ∷ rest ≡ ts)
first_is t k ts rest h e = ap (λ j. let u : Lexeme = record { at = t.at; word = j } in u ∷ rest) (sym e) ∙ sym h

pub prim_int : (t : Lexeme) (n : ℤ) (ts rest : List Lexeme) → ts ≡ t ∷ rest → t.word ≡ word.Int n → Parsed m.prim prim_tokens prim_of ts (tree.Number t.at n) rest
prim_int t n ts rest h k = (int t.at n, first_is t (word.Int n) ts rest h k, refl, λ owed. rw (h, k) refl)

pub prim_text : (t : Lexeme) (x : Bytes) (ts rest : List Lexeme) → ts ≡ t ∷ rest → t.word ≡ word.Text x → Parsed m.prim prim_tokens prim_of ts (tree.Literal t.at x) rest
prim_text t x ts rest h k = (text t.at x, first_is t (word.Text x) ts rest h k, refl, λ owed. rw (h, k) refl)

pub prim_name : (t : Lexeme) (x : Bytes) (ts rest : List Lexeme) → ts ≡ t ∷ rest → t.word ≡ word.Name x → Parsed m.prim prim_tokens prim_of ts (tree.Variable t.at x) rest
prim_name t x ts rest h k = (name t.at x, first_is t (word.Name x) ts rest h k, refl, λ owed. rw (h, k) refl)

pub prim_now : (t : Lexeme) (ts rest : List Lexeme) → ts ≡ t ∷ rest → t.word ≡ word.Mark mark.Now → Parsed m.prim prim_tokens prim_of ts (tree.Now t.at) rest
prim_now t ts rest h k = (now t.at, first_is t (word.Mark mark.Now) ts rest h k, refl, λ owed. rw (h, k) refl)

pub open_is : (t : Lexeme) (ts rest : List Lexeme) → ts ≡ t ∷ rest → t.word ≡ word.Mark mark.Open → (owed : List Symbol) → fault (m.prim ∷ owed) ts ≡ fault (m.parens ∷ owed) ts
open_is t ts rest h k owed = rw (h, k) refl

pub prim_parens : (t : Lexeme) (ts rest end : List Lexeme) (x : tree.Expression) → ts ≡ t ∷ rest → t.word ≡ word.Mark mark.Open → Parsed m.parens parens_tokens parens_of ts x end → Parsed m.prim prim_tokens prim_of ts x end
prim_parens t ts rest end x h k p = (inner p.0, p.1, p.2, λ owed. open_is t ts rest h k owed ∙ p.3 owed)

pub text_is : (t : Lexeme) (ts rest : List Lexeme) → ts ≡ t ∷ rest → t.word ≡ word.Mark mark.Text → (owed : List Symbol) → fault (m.prim ∷ owed) ts ≡ fault (m.parens ∷ owed) rest
text_is t ts rest h k owed = rw (h, k) refl

pub len_is : (t : Lexeme) (ts rest : List Lexeme) → ts ≡ t ∷ rest → t.word ≡ word.Mark mark.Len → (owed : List Symbol) → fault (m.prim ∷ owed) ts ≡ fault (m.parens ∷ owed) rest
len_is t ts rest h k owed = rw (h, k) refl

-- an operator before parentheses
abbrev pub IsApplied : ℕ → Unary → List Lexeme → tree.Expression → List Lexeme → Type 0
IsApplied at op ts x rest = Parsed m.parens parens_tokens (λ p. tree.Apply at op (parens_of p)) ts x rest

pub prim_text_of : (t : Lexeme) (ts rest end : List Lexeme) (x : tree.Expression) → ts ≡ t ∷ rest → t.word ≡ word.Mark mark.Text → IsApplied t.at unary.TextOf rest x end → Parsed m.prim prim_tokens prim_of ts x end
prim_text_of t ts rest end x h k p = (text_of t.at p.0, ap (λ y. marked t.at mark.Text ∷ y) p.1 ∙ first_is t (word.Mark mark.Text) ts rest h k, p.2, λ owed. text_is t ts rest h k owed ∙ p.3 owed)

pub prim_len_of : (t : Lexeme) (ts rest end : List Lexeme) (x : tree.Expression) → ts ≡ t ∷ rest → t.word ≡ word.Mark mark.Len → IsApplied t.at unary.Length rest x end → Parsed m.prim prim_tokens prim_of ts x end
prim_len_of t ts rest end x h k p = (len_of t.at p.0, ap (λ y. marked t.at mark.Len ∷ y) p.1 ∙ first_is t (word.Mark mark.Len) ts rest h k, p.2, λ owed. len_is t ts rest h k owed ∙ p.3 owed)

pub applied_parsed : (at : ℕ) (op : Unary) (ts rest : List Lexeme) (x : tree.Expression) → Parsed m.parens parens_tokens parens_of ts x rest → IsApplied at op ts (tree.Apply at op x) rest
applied_parsed at op ts rest x p = (p.0, p.1, ap (tree.Apply at op) p.2, p.3)

open_same : (k : Word) → takes m.parens k ≡ then_more (takes (m.sign mark.Open) k) (m.expr ∷ m.sign mark.Close ∷ [])
open_same (word.Mark mark.Open) = refl
open_same _ = refl

parens_same : (ts : List Lexeme) → Same (m.sign mark.Open) m.parens (m.expr ∷ m.sign mark.Close ∷ []) ts
parens_same [] = tt
parens_same (t ∷ ts) = open_same t.word

pub parens_is : (owed : List Symbol) (ts : List Lexeme) → fault (m.parens ∷ owed) ts ≡ fault (m.sign mark.Open ∷ m.expr ∷ m.sign mark.Close ∷ owed) ts
parens_is owed ts = is_then (m.sign mark.Open) m.parens (m.expr ∷ m.sign mark.Close ∷ []) refl refl owed ts (parens_same ts)

pub parens_parsed : (a b : ℕ) (ts r1 r2 end : List Lexeme) (x : tree.Expression) → Marked mark.Open ts a r1 → IsExpr r1 x r2 → Marked mark.Close r2 b end → Parsed m.parens parens_tokens parens_of ts x end
parens_parsed a b ts r1 r2 end x p q r = (
  parens p.0 q.0 r.0,
  ap (λ y. marked p.0 mark.Open ∷ y) (append_assoc (expr_tokens q.0) (marked r.0 mark.Close ∷ []) end ∙ ap (λ y. expr_tokens q.0 ++ y) r.1 ∙ q.1) ∙ p.1,
  q.2,
  λ owed. parens_is owed ts ∙ p.3 (m.expr ∷ m.sign mark.Close ∷ owed) ∙ q.3 (m.sign mark.Close ∷ owed) ∙ r.3 owed,
)

pub unary_is : (owed : List Symbol) (ts : List Lexeme) → Lacks mark.Minus ts → fault (m.unary ∷ owed) ts ≡ fault (m.prim ∷ owed) ts
unary_is owed ts h = is_alike m.prim m.unary refl refl owed ts (unary_alike ts h)

pub unary_prim : (ts rest : List Lexeme) (x : tree.Expression) → Lacks mark.Minus ts → Parsed m.prim prim_tokens prim_of ts x rest → Parsed m.unary unary_tokens unary_of ts x rest
unary_prim ts rest x h p = (prim p.0, p.1, p.2, λ owed. unary_is owed ts h ∙ p.3 owed)

pub unary_negate : (at : ℕ) (ts after rest : List Lexeme) (x : tree.Expression) → ts ≡ marked at mark.Minus ∷ after → Parsed m.unary unary_tokens unary_of after x rest → Parsed m.unary unary_tokens unary_of ts (tree.Apply at unary.Negate x) rest
unary_negate at ts after rest x h p = (negate at p.0, ap (λ y. marked at mark.Minus ∷ y) p.1 ∙ sym h, ap (tree.Apply at unary.Negate) p.2, λ owed. rw h (p.3 owed))

pub neg_is : (owed : List Symbol) (ts : List Lexeme) → Lacks mark.Not ts → fault (m.neg ∷ owed) ts ≡ fault (m.compare ∷ owed) ts
neg_is owed ts h = is_alike m.compare m.neg refl refl owed ts (neg_alike ts h)

pub neg_plain : (ts rest : List Lexeme) (x : tree.Expression) → Lacks mark.Not ts → Parsed m.compare compare_tokens compare_of ts x rest → Parsed m.neg neg_tokens neg_of ts x rest
neg_plain ts rest x h p = (plain p.0, p.1, p.2, λ owed. neg_is owed ts h ∙ p.3 owed)

pub neg_not : (at : ℕ) (ts after rest : List Lexeme) (x : tree.Expression) → ts ≡ marked at mark.Not ∷ after → Parsed m.neg neg_tokens neg_of after x rest → Parsed m.neg neg_tokens neg_of ts (tree.Apply at unary.Not x) rest
neg_not at ts after rest x h p = (not at p.0, ap (λ y. marked at mark.Not ∷ y) p.1 ∙ sym h, ap (tree.Apply at unary.Not) p.2, λ owed. rw h (p.3 owed))

-- terms

abbrev pub TermSoFar : List Lexeme → tree.Expression → List Lexeme → Type 0
TermSoFar ts x rest = SoFar term_tokens term_tail_tokens term_of (factors_of x) ts rest

pub term_begins : (ts rest : List Lexeme) (x : tree.Expression) → Parsed m.unary unary_tokens unary_of ts x rest → TermSoFar ts x rest
term_begins ts rest x p = so_begins m.unary unary_tokens unary_of term_tokens term_tail_tokens term_of factors_of term (λ p more. refl) (λ p more. refl) ts rest x p

pub term_more : (ts rest after next : List Lexeme) (at : ℕ) (op : Binary) (x y : tree.Expression) → TermSoFar ts x rest → IsFactor rest at op after → Parsed m.unary unary_tokens unary_of after y next → TermSoFar ts (tree.Combine op x y) next
term_more ts rest after next at op x y so h p = so_more m.unary unary_tokens unary_of term_tokens term_tail_tokens term_of factors_of (tree.Combine op) (marked at (term_mark h.0)) (factor h.0 at) (λ q more. refl) x (λ q more. ap (λ o. factors_of (tree.Combine o x (unary_of q)) more) h.2) ts rest after next y so h.1 p

pub term_step : (rest after : List Lexeme) (at : ℕ) (op : Binary) → IsFactor rest at op after → (owed : List Symbol) → fault (m.more_term ∷ owed) rest ≡ fault (m.unary ∷ m.more_term ∷ owed) after
term_step rest after at op h owed = ap (fault (m.more_term ∷ owed)) h.1 ∙ factor_step h.0 at owed after

pub term_ends : (ts rest : List Lexeme) (x : tree.Expression) → TermSoFar ts x rest → Past m.more_term rest → ((owed : List Symbol) → fault (m.term ∷ owed) ts ≡ fault (m.more_term ∷ owed) rest) → Parsed m.term term_tokens term_of ts x rest
term_ends ts rest x so h f = let r = so no_factor rest refl in (r.0, r.1, r.2, λ owed. f owed ∙ passes m.more_term refl owed rest h)

-- sums

abbrev pub SumSoFar : List Lexeme → tree.Expression → List Lexeme → Type 0
SumSoFar ts x rest = SoFar sum_tokens sum_tail_tokens sum_of (added_of x) ts rest

pub sum_begins : (ts rest : List Lexeme) (x : tree.Expression) → Parsed m.term term_tokens term_of ts x rest → SumSoFar ts x rest
sum_begins ts rest x p = so_begins m.term term_tokens term_of sum_tokens sum_tail_tokens sum_of added_of sum (λ p more. refl) (λ p more. refl) ts rest x p

pub sum_more : (ts rest after next : List Lexeme) (at : ℕ) (op : Binary) (x y : tree.Expression) → SumSoFar ts x rest → IsAdded rest at op after → Parsed m.term term_tokens term_of after y next → SumSoFar ts (tree.Combine op x y) next
sum_more ts rest after next at op x y so h p = so_more m.term term_tokens term_of sum_tokens sum_tail_tokens sum_of added_of (tree.Combine op) (marked at (sum_mark h.0)) (added h.0 at) (λ q more. refl) x (λ q more. ap (λ o. added_of (tree.Combine o x (term_of q)) more) h.2) ts rest after next y so h.1 p

pub sum_step : (rest after : List Lexeme) (at : ℕ) (op : Binary) → IsAdded rest at op after → (owed : List Symbol) → fault (m.more_sum ∷ owed) rest ≡ fault (m.term ∷ m.more_sum ∷ owed) after
sum_step rest after at op h owed = ap (fault (m.more_sum ∷ owed)) h.1 ∙ added_step h.0 at owed after

pub sum_ends : (ts rest : List Lexeme) (x : tree.Expression) → SumSoFar ts x rest → Past m.more_sum rest → ((owed : List Symbol) → fault (m.sum ∷ owed) ts ≡ fault (m.more_sum ∷ owed) rest) → Parsed m.sum sum_tokens sum_of ts x rest
sum_ends ts rest x so h f = let r = so no_term rest refl in (r.0, r.1, r.2, λ owed. f owed ∙ passes m.more_sum refl owed rest h)

-- comparisons

pub compare_plain : (ts rest : List Lexeme) (x : tree.Expression) → Parsed m.sum sum_tokens sum_of ts x rest → Past m.more_compare rest → Parsed m.compare compare_tokens compare_of ts x rest
compare_plain ts rest x p h = (compare p.0 no_side, append_assoc (sum_tokens p.0) [] rest ∙ p.1, p.2, λ owed. compare_is owed ts ∙ p.3 (m.more_compare ∷ owed) ∙ passes m.more_compare refl owed rest h)

pub compare_step : (ts rest after : List Lexeme) (at : ℕ) (op : Binary) (x : tree.Expression) → Parsed m.sum sum_tokens sum_of ts x rest → IsCompared rest at op after → (owed : List Symbol) → fault (m.compare ∷ owed) ts ≡ fault (m.sum ∷ owed) after
compare_step ts rest after at op x p h owed = compare_is owed ts ∙ p.3 (m.more_compare ∷ owed) ∙ ap (fault (m.more_compare ∷ owed)) h.1 ∙ compared_step h.0 at owed after

pub compare_parsed : (ts rest after end : List Lexeme) (at : ℕ) (op : Binary) (x y : tree.Expression) → Parsed m.sum sum_tokens sum_of ts x rest → IsCompared rest at op after → Parsed m.sum sum_tokens sum_of after y end → Parsed m.compare compare_tokens compare_of ts (tree.Combine op x y) end
compare_parsed ts rest after end at op x y p h q = (
  compare p.0 (compared h.0 at q.0),
  append_assoc (sum_tokens p.0) (marked at (compare_mark h.0) ∷ sum_tokens q.0) end ∙ ap (λ v. sum_tokens p.0 ++ (marked at (compare_mark h.0) ∷ v)) q.1 ∙ ap (λ v. sum_tokens p.0 ++ v) (sym h.1) ∙ p.1,
  ap (λ z. tree.Combine (compare_operator h.0) z (sum_of q.0)) p.2 ∙ ap (tree.Combine (compare_operator h.0) x) q.2 ∙ ap (λ o. tree.Combine o x y) h.2,
  λ owed. compare_step ts rest after at op x p h owed ∙ q.3 owed,
)

-- conjunctions

abbrev pub ConjSoFar : List Lexeme → tree.Expression → List Lexeme → Type 0
ConjSoFar ts x rest = SoFar conj_tokens conj_tail_tokens conj_of (and_of x) ts rest

pub conj_begins : (ts rest : List Lexeme) (x : tree.Expression) → Parsed m.neg neg_tokens neg_of ts x rest → ConjSoFar ts x rest
conj_begins ts rest x p = so_begins m.neg neg_tokens neg_of conj_tokens conj_tail_tokens conj_of and_of conj (λ p more. refl) (λ p more. refl) ts rest x p

pub conj_more : (ts rest after next : List Lexeme) (at : ℕ) (x y : tree.Expression) → ConjSoFar ts x rest → rest ≡ marked at mark.And ∷ after → Parsed m.neg neg_tokens neg_of after y next → ConjSoFar ts (tree.Combine binary.And x y) next
conj_more ts rest after next at x y so h p = so_more m.neg neg_tokens neg_of conj_tokens conj_tail_tokens conj_of and_of (tree.Combine binary.And) (marked at mark.And) (and at) (λ q more. refl) x (λ q more. refl) ts rest after next y so h p

pub conj_ends : (ts rest : List Lexeme) (x : tree.Expression) → ConjSoFar ts x rest → Lacks mark.And rest → ((owed : List Symbol) → fault (m.conj ∷ owed) ts ≡ fault (m.more_conj ∷ owed) rest) → Parsed m.conj conj_tokens conj_of ts x rest
conj_ends ts rest x so h f = let r = so no_and rest refl in (r.0, r.1, r.2, λ owed. f owed ∙ passes m.more_conj refl owed rest (past_and rest h))

-- whole expressions

abbrev pub ExprSoFar : List Lexeme → tree.Expression → List Lexeme → Type 0
ExprSoFar ts x rest = SoFar expr_tokens expr_tail_tokens expr_of (or_of x) ts rest

pub expr_begins : (ts rest : List Lexeme) (x : tree.Expression) → Parsed m.conj conj_tokens conj_of ts x rest → ExprSoFar ts x rest
expr_begins ts rest x p = so_begins m.conj conj_tokens conj_of expr_tokens expr_tail_tokens expr_of or_of expr (λ p more. refl) (λ p more. refl) ts rest x p

pub expr_more : (ts rest after next : List Lexeme) (at : ℕ) (x y : tree.Expression) → ExprSoFar ts x rest → rest ≡ marked at mark.Or ∷ after → Parsed m.conj conj_tokens conj_of after y next → ExprSoFar ts (tree.Combine binary.Or x y) next
expr_more ts rest after next at x y so h p = so_more m.conj conj_tokens conj_of expr_tokens expr_tail_tokens expr_of or_of (tree.Combine binary.Or) (marked at mark.Or) (or at) (λ q more. refl) x (λ q more. refl) ts rest after next y so h p

pub expr_ends : (ts rest : List Lexeme) (x : tree.Expression) → ExprSoFar ts x rest → Lacks mark.Or rest → ((owed : List Symbol) → fault (m.expr ∷ owed) ts ≡ fault (m.more_expr ∷ owed) rest) → IsExpr ts x rest
expr_ends ts rest x so h f = let r = so no_or rest refl in (r.0, r.1, r.2, λ owed. f owed ∙ passes m.more_expr refl owed rest (past_or rest h))

-- arguments

abbrev pub ArgumentsSoFar : List Lexeme → List tree.Expression → List Lexeme → Type 0
ArgumentsSoFar ts xs rest = SoFar arguments_tokens argument_tail_tokens arguments_of (λ more. xs ++ argument_tail_of more) ts rest

pub arguments_is : (owed : List Symbol) (ts : List Lexeme) → Lacks mark.Close ts → fault (m.arguments ∷ owed) ts ≡ fault (m.expr ∷ m.more_arguments ∷ owed) ts
arguments_is owed ts h = is_then m.expr m.arguments (m.more_arguments ∷ []) refl refl owed ts (arguments_same ts h)

pub arguments_begin : (ts rest : List Lexeme) (x : tree.Expression) → IsExpr ts x rest → ArgumentsSoFar ts (x ∷ []) rest
arguments_begin ts rest x p = so_begins m.expr expr_tokens expr_of arguments_tokens argument_tail_tokens arguments_of (λ y more. y ∷ argument_tail_of more) argument (λ p more. refl) (λ p more. refl) ts rest x p

pub arguments_more : (ts rest after next : List Lexeme) (at : ℕ) (xs : List tree.Expression) (y : tree.Expression) → ArgumentsSoFar ts xs rest → rest ≡ marked at mark.Comma ∷ after → IsExpr after y next → ArgumentsSoFar ts (xs ++ (y ∷ [])) next
arguments_more ts rest after next at xs y so h p = so_more m.expr expr_tokens expr_of arguments_tokens argument_tail_tokens arguments_of (λ zs more. zs ++ argument_tail_of more) (λ zs v. zs ++ (v ∷ [])) (marked at mark.Comma) (next_argument at) (λ q more. refl) xs (λ q more. sym (append_assoc xs (expr_of q ∷ []) (argument_tail_of more))) ts rest after next y so h p

pub no_arguments : (at : ℕ) (ts end : List Lexeme) → ts ≡ marked at mark.Close ∷ end → Parsed m.arguments arguments_tokens arguments_of ts [] end
no_arguments at ts end h = (no_argument at, sym h, refl, λ owed. rw h refl)

pub arguments_end : (at : ℕ) (ts rest end : List Lexeme) (xs : List tree.Expression) → ArgumentsSoFar ts xs rest → ((owed : List Symbol) → fault (m.arguments ∷ owed) ts ≡ fault (m.more_arguments ∷ owed) rest) → rest ≡ marked at mark.Close ∷ end → Parsed m.arguments arguments_tokens arguments_of ts xs end
arguments_end at ts rest end xs so f h = let r = so (last_argument at) end (sym h) in (r.0, r.1, r.2 ∙ append-nil xs, λ owed. f owed ∙ ap (fault (m.more_arguments ∷ owed)) h)

not_comma : (k : Word) → (k ≡ word.Mark mark.Comma → ⊥) → takes m.more_arguments k ≡ takes (m.sign mark.Close) k
not_comma (word.Mark mark.Comma) h = absurd (h refl)
not_comma _ h = refl

more_alike : (ts : List Lexeme) → Lacks mark.Comma ts → Alike (m.sign mark.Close) m.more_arguments ts
more_alike [] h = tt
more_alike (t ∷ ts) h = not_comma t.word h

pub more_arguments_is : (owed : List Symbol) (ts : List Lexeme) → Lacks mark.Comma ts → fault (m.more_arguments ∷ owed) ts ≡ fault (m.sign mark.Close ∷ owed) ts
more_arguments_is owed ts h = is_alike (m.sign mark.Close) m.more_arguments refl refl owed ts (more_alike ts h)

pub arguments_close : (at : ℕ) (ts rest end : List Lexeme) (xs : List tree.Expression) → ArgumentsSoFar ts xs rest → ((owed : List Symbol) → fault (m.arguments ∷ owed) ts ≡ fault (m.more_arguments ∷ owed) rest) → Marked mark.Close rest at end → Parsed m.arguments arguments_tokens arguments_of ts xs end
arguments_close at ts rest end xs so f p = arguments_end p.0 ts rest end xs so f (sym p.1)
