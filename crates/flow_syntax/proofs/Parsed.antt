-- How what the parts of a production gave makes what it gives, over plain variables.
use Rattle.std.proofs.Common.{◌≡◌, ◌∙◌, ℕ, List, [], ◌∷◌, ◌++◌, ap, sym, subst, append_assoc}
use Rattle.flow_base.specs.declared.token.Word.TheVariants as word
use Rattle.flow_base.specs.declared.token.Mark.{Mark}
use Rattle.flow_model.specs.Lexeme.{Lexeme}
use Rattle.flow_model.specs.Grammar.{marked}
use Rattle.flow_syntax.specs.declared.fault.Stop.{Stop}
use Rattle.flow_syntax.specs.declared.fault.Stop.TheVariants.{NoMemory, Unexpected}
use Rattle.flow_syntax.specs.Machine.{Symbol, fault}
use Rattle.flow_syntax.specs.Parsing.{Parsed, SoFar, StopsOwing, StopsAt, IsNoMark, LacksMark, Lacks}

-- A stop in a part is a stop of the whole.
pub stops_in : (s s' : Symbol) (ts ts' : List Lexeme) (owes : List Symbol → List Symbol) → ((owed : List Symbol) → fault (s ∷ owed) ts ≡ fault (s' ∷ owes owed) ts') → (stop : Stop) → StopsAt s' ts' stop → StopsAt s ts stop
stops_in s s' ts ts' owes h (NoMemory _) g = tt
stops_in s s' ts ts' owes h (Unexpected left) g = λ owed. h owed ∙ g (owes owed)

-- The same for a part where more than one symbol is owed first, and for such a whole.
pub stops_from : (s : Symbol) (now : List Symbol) (ts ts' : List Lexeme) (owes : List Symbol → List Symbol) → ((owed : List Symbol) → fault (s ∷ owed) ts ≡ fault (now ++ owes owed) ts') → (stop : Stop) → StopsOwing now ts' stop → StopsAt s ts stop
stops_from s now ts ts' owes h (NoMemory _) g = tt
stops_from s now ts ts' owes h (Unexpected left) g = λ owed. h owed ∙ g (owes owed)

pub so_begins : {R P M X Y : Type 0} (s : Symbol) (part : P → List Lexeme) (part_of : P → Y) (tokens : R → List Lexeme) (more_tokens : M → List Lexeme) (of : R → X) (with : Y → M → X) (build : P → M → R) → ((p : P) (more : M) → tokens (build p more) ≡ part p ++ more_tokens more) → ((p : P) (more : M) → of (build p more) ≡ with (part_of p) more) → (ts rest : List Lexeme) (x : Y) → Parsed s part part_of ts x rest → SoFar tokens more_tokens of (with x) ts rest
so_begins s part part_of tokens more_tokens of with build e f ts rest x p = λ more end h.
    (build p.0 more, ap (λ y. y ++ end) (e p.0 more) ∙ append_assoc (part p.0) (more_tokens more) end ∙ ap (λ y. part p.0 ++ y) h ∙ p.1, f p.0 more ∙ ap (λ y. with y more) p.2)

pub so_more : {R P M X Y Z : Type 0} (s : Symbol) (part : P → List Lexeme) (part_of : P → Y) (tokens : R → List Lexeme) (more_tokens : M → List Lexeme) (of : R → X) (with : Z → M → X) (join : Z → Y → Z) (t : Lexeme) (step : P → M → M) → ((p : P) (more : M) → more_tokens (step p more) ≡ t ∷ (part p ++ more_tokens more)) → (z : Z) → ((p : P) (more : M) → with z (step p more) ≡ with (join z (part_of p)) more) → (ts rest after next : List Lexeme) (y : Y) → SoFar tokens more_tokens of (with z) ts rest → rest ≡ t ∷ after → Parsed s part part_of after y next → SoFar tokens more_tokens of (with (join z y)) ts next
so_more s part part_of tokens more_tokens of with join t step e z f ts rest after next y so h p = λ more end g.
    let r = so (step p.0 more) end (ap (λ v. v ++ end) (e p.0 more) ∙ ap (λ v. t ∷ v) (append_assoc (part p.0) (more_tokens more) end ∙ ap (λ v. part p.0 ++ v) g ∙ p.1) ∙ sym h) in
    (r.0, r.1, r.2 ∙ f p.0 more ∙ ap (λ v. with (join z v) more) p.2)

-- the same with no token between
pub so_next : {R P M X Y Z : Type 0} (s : Symbol) (part : P → List Lexeme) (part_of : P → Y) (tokens : R → List Lexeme) (more_tokens : M → List Lexeme) (of : R → X) (with : Z → M → X) (join : Z → Y → Z) (step : P → M → M) → ((p : P) (more : M) → more_tokens (step p more) ≡ part p ++ more_tokens more) → (z : Z) → ((p : P) (more : M) → with z (step p more) ≡ with (join z (part_of p)) more) → (ts rest next : List Lexeme) (y : Y) → SoFar tokens more_tokens of (with z) ts rest → Parsed s part part_of rest y next → SoFar tokens more_tokens of (with (join z y)) ts next
so_next s part part_of tokens more_tokens of with join step e z f ts rest next y so p = λ more end g.
    let r = so (step p.0 more) end (ap (λ v. v ++ end) (e p.0 more) ∙ append_assoc (part p.0) (more_tokens more) end ∙ ap (λ v. part p.0 ++ v) g ∙ p.1) in
    (r.0, r.1, r.2 ∙ f p.0 more ∙ ap (λ v. with (join z v) more) p.2)

-- Tokens that do not begin with a mark do not begin with this one.
pub lacks_no_mark : (m : Mark) (ts : List Lexeme) → LacksMark ts → Lacks m ts
lacks_no_mark m [] h = tt
lacks_no_mark m (t ∷ ts) h = λ e. subst IsNoMark e h

same_mark : (m n : Mark) → word.Mark m ≡ word.Mark n → m ≡ n
same_mark m n e = cc

-- Nor do those that begin with another mark.
pub lacks_other : (m n : Mark) (at : ℕ) (ts rest : List Lexeme) → ts ≡ marked at n ∷ rest → (n ≡ m → ⊥) → Lacks m ts
lacks_other m n at ts rest e h = subst (Lacks m) (sym e) (λ g. h (same_mark n m g))
