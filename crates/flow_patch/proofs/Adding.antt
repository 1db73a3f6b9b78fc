-- Lists that grow at their end, part after part.
use Rattle.std.proofs.Common.{rules, Vec, ◌≡◌, ◌∙◌, ℕ, suc, ◌+◌, ◌<◌, ◌≤◌, List, [], ◌∷◌, ◌++◌, map, length, drop, get_or, sym, ap, append_assoc, append-nil, add-one, drop-cons}
use Rattle.std.proofs.lemmas.List.{drop_all}
use Rattle.std.specs.declared.alloc.Global.{Global}
use Rattle.flow_base.specs.Syntax as tree
use Rattle.flow_base.specs.Syntax.{Bytes}
use Rattle.flow_base.specs.Shown.{shown_expr, shown_stmt, shown_braced, shown_branch, branches_of}
use Rattle.flow_base.specs.declared.syntax.Expr.{Expr}
use Rattle.flow_base.specs.declared.syntax.Block.{Block}
use Rattle.flow_base.specs.declared.syntax.Branch.{Branch}
use Rattle.flow_base.specs.declared.syntax.Stmt.{If, Parallel, Patch, the_lemmas}

pub none_more : {A : Type 0} (xs : List A) → xs ≡ xs ++ []
none_more xs = sym (append-nil xs)

pub both_added : {A : Type 0} (old mid new a b : List A) → mid ≡ old ++ a → new ≡ mid ++ b → new ≡ old ++ (a ++ b)
both_added old mid new a b h k = k ∙ ap (λ t. t ++ b) h ∙ append_assoc old a b

pub more_added : {A : Type 0} (start old new whole left a b : List A) → old ++ left ≡ start ++ whole → left ≡ a ++ b → new ≡ old ++ a → new ++ b ≡ start ++ whole
more_added start old new whole left a b h e k = ap (λ t. t ++ b) k ∙ append_assoc old a b ∙ ap (λ t. old ++ t) (sym e) ∙ h

pub all_added : {A : Type 0} (start now whole left : List A) → now ++ left ≡ start ++ whole → left ≡ [] → now ≡ start ++ whole
all_added start now whole left h e = sym (append-nil now) ∙ ap (λ t. now ++ t) (sym e) ∙ h

-- the element at i, and what is behind it
pub drop_here : {A : Type 0} (xs : List A) (i : ℕ) (x : A) → i < length xs → x ≡ get_or xs i x → drop i xs ≡ x ∷ drop (i + 1) xs
drop_here xs i x inside is = drop-cons xs i x inside ∙ ap (λ y. y ∷ drop (suc i) xs) (sym is) ∙ ap (λ k. x ∷ drop k xs) (sym (add-one i))

-- a list that has been gone through
pub gone_through : {A B : Type 0} (f : List A → List B) (xs : List A) (i : ℕ) → f [] ≡ [] → length xs ≤ i → f (drop i xs) ≡ []
gone_through f xs i none past = ap f (drop_all i xs past) ∙ none

-- one level of a statement with two lists or more
pub shown_if : (at : ℕ) (e : Expr) (a b : Block) → shown_stmt (If at e a b) ≡ tree.If at (shown_expr e) (shown_braced a).0 (shown_braced a).1 (shown_braced b).0 (shown_braced b).1
shown_if at e a b = search (rules, the_lemmas)

pub shown_patch : (at id_at : ℕ) (id : Bytes) (a b : Block) → shown_stmt (Patch at id_at id a b) ≡ tree.Patch at id_at id (shown_braced a).0 (shown_braced a).1 (shown_braced b).0 (shown_braced b).1
shown_patch at id_at id a b = search (rules, the_lemmas)

pub shown_parallel : (at : ℕ) (b : Branch) (bs : Vec Branch Global) (end : ℕ) → shown_stmt (Parallel at b bs end) ≡ tree.Parallel at (branches_of (shown_branch b ∷ map shown_branch bs.items)) end
shown_parallel at b bs end = search (rules, the_lemmas)

pub shown_body : (b : Branch) → (shown_branch b).1 ≡ shown_braced b.body
shown_body b = search (rules, the_lemmas)
