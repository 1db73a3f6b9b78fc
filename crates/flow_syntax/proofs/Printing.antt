-- What is written of a program's words, token by token.
use Rattle.std.proofs.Common.{rules, Vec, ◌≡◌, ℕ, pos, suc, ◌+◌, ◌<◌, ◌≤◌, ◌==◌, ◌&&◌, Bool, true, false, if◌then◌else◌, List, [], ◌∷◌, ◌++◌, length, map, drop, get_or, add-one, drop-cons, append_assoc, append-nil, sym, ap, ◌∙◌, refl, arith}
use Rattle.std.proofs.lemmas.List.{drop_all, nil_from_length}
use Rattle.std.proofs.lemmas.Bool.{and_parts}
use Rattle.std.proofs.lemmas.Bool.Decides.{nat_tests}
use Rattle.std.proofs.lemmas.Str.{inside_one}
use Rattle.std.specs.Char.{encode_utf8}
use Rattle.flow_base.specs.declared.syntax.Binary.{Binary}
use Rattle.flow_base.specs.declared.syntax.Retry.{Retry}
use Rattle.flow_base.specs.declared.token.Mark as declared
use Rattle.flow_base.specs.declared.token.Mark.TheVariants as mark
use Rattle.flow_base.specs.declared.token.Word.TheVariants as word
use Rattle.std.specs.declared.alloc.Global.{Global}
use Rattle.flow_base.specs.declared.syntax.Stmt as stmt
use Rattle.flow_base.specs.declared.syntax.Block as shown
use Rattle.flow_base.specs.declared.syntax.Branch.{Branch}
use Rattle.flow_base.specs.declared.syntax.Expr.{Expr}
use Rattle.flow_base.specs.Shown.{shown_expr, shown_stmt, shown_braced, shown_branch, branches_of}
use Rattle.flow_base.specs.Syntax as tree
use Rattle.flow_base.specs.Syntax.{Expression, Block, End, Next, Statement, block_of}
use Rattle.flow_base.specs.declared.token.Word.{Word}
use Rattle.flow_syntax.specs.Print.{written, all_written, spelled_word, spaced, level, left_level, right_level, binary_mark, binary_words, fitted, expression_words, between_commas, retry_words, in_braces, is_end, block_words, else_words}

pub spaced_append : (a b : List Word) → spaced (a ++ b) ≡ spaced a ++ spaced b
unfolding spaced
spaced_append [] b = refl
spaced_append (w ∷ a) b = ap (λ t. 32 ∷ t) (ap (λ t. spelled_word w ++ t) (spaced_append a b) ∙ sym (append_assoc (spelled_word w) (spaced a) (spaced b)))

-- words, and words behind them
pub words_then : (old mid new : List ℕ) (a b : List Word) → mid ≡ old ++ spaced a → new ≡ mid ++ spaced b → new ≡ old ++ spaced (a ++ b)
words_then old mid new a b h k = k ∙ ap (λ t. t ++ spaced b) h ∙ append_assoc old (spaced a) (spaced b) ∙ ap (λ t. old ++ t) (sym (spaced_append a b))

-- no word at all
pub no_words : (old : List ℕ) (ws : List Word) → ws ≡ [] → old ≡ old ++ spaced ws
unfolding spaced
no_words old ws e = sym (append-nil old) ∙ ap (λ t. old ++ spaced t) (sym e)

-- what is left to be written, once its front is
pub less_left : (start old new : List ℕ) (whole left a b : List Word) → old ++ spaced left ≡ start ++ spaced whole → left ≡ a ++ b → new ≡ old ++ spaced a → new ++ spaced b ≡ start ++ spaced whole
less_left start old new whole left a b h e k =
    ap (λ t. t ++ spaced b) k ∙ append_assoc old (spaced a) (spaced b) ∙ ap (λ t. old ++ t) (sym (spaced_append a b)) ∙ ap (λ t. old ++ spaced t) (sym e) ∙ h

-- nothing is left
pub none_left : (start now : List ℕ) (whole left : List Word) → now ++ spaced left ≡ start ++ spaced whole → left ≡ [] → now ≡ start ++ spaced whole
unfolding spaced
none_left start now whole left h e = sym (append-nil now) ∙ ap (λ t. now ++ spaced t) (sym e) ∙ h

-- the element at i, and what is behind it
pub drop_here : {A : Type 0} (xs : List A) (i : ℕ) (x : A) → i < length xs → x ≡ get_or xs i x → drop i xs ≡ x ∷ drop (i + 1) xs
drop_here xs i x inside is = drop-cons xs i x inside ∙ ap (λ y. y ∷ drop (suc i) xs) (sym is) ∙ ap (λ k. x ∷ drop k xs) (sym (add-one i))

-- a list that has been gone through
pub gone_through : {A : Type 0} (f : List A → List Word) (xs : List A) (i : ℕ) → f [] ≡ [] → length xs ≤ i → f (drop i xs) ≡ []
gone_through f xs i none past = ap f (drop_all i xs past) ∙ none

pub none_listed : {A : Type 0} (f : A → List Word) (xs : List A) → length xs ≡ 0 → between_commas (map f xs) ≡ []
none_listed f xs e = ap (λ l. between_commas (map f l)) (nil_from_length xs e)

-- an operator between its operands
pub binary_written : (op : Binary) (l r : ℕ) (m : declared.Mark) (a b : Expression) (old mid behind new : List ℕ) → l ≡ left_level op → r ≡ right_level op → m ≡ binary_mark op
    → mid ≡ old ++ spaced (fitted (level a) l (expression_words a)) → behind ≡ mid ++ spaced (word.Mark m ∷ []) → new ≡ behind ++ spaced (fitted (level b) r (expression_words b))
    → new ≡ old ++ spaced (binary_words op (level a) (expression_words a) (level b) (expression_words b))
binary_written op l r m a b old mid behind new e f g h i j =
    words_then old mid new (fitted (level a) (left_level op) (expression_words a)) (word.Mark (binary_mark op) ∷ fitted (level b) (right_level op) (expression_words b))
    (rw e at h)
    (words_then mid behind new (word.Mark (binary_mark op) ∷ []) (fitted (level b) (right_level op) (expression_words b)) (rw g at i) (rw f at j))

-- ---- how often a call is tried

abbrev pub is_once : Retry → Bool
is_once r = (r.tries == 1) && (r.every == 0)

-- the words, by that test
abbrev pub retry_or_none : Bool → Retry → List Word
retry_or_none once r = if once then [] else word.Mark mark.Retry ∷ word.Int (pos r.tries) ∷ word.Mark mark.Every ∷ word.Int (pos r.every) ∷ []

pub once_means : (r : Retry) → is_once r ≡ true → (r.tries ≡ 1) × (r.every ≡ 0)
once_means r h =
    let s = and_parts (r.tries == 1) (r.every == 0) h in
    let tries : (r.tries == 1) ≡ true = s.0 in
    let every : (r.every == 0) ≡ true = s.1 in
    (grind (arith, nat_tests), grind (arith, nat_tests))

pub retry_written : (once : Bool) (r : Retry) → once ≡ is_once r → retry_words r ≡ retry_or_none once r
retry_written once r e = ap (λ b. retry_or_none b r) (sym e)

-- ---- lists of statements

pub none_shown : {A : Type 0} (shown : A → Statement) (xs : List A) → (length xs == 0) ≡ is_end (block_of (map shown xs))
none_shown shown [] = refl
none_shown shown (x ∷ xs) = let some : (length (x ∷ xs) == 0) ≡ false = grind (arith, nat_tests) in some

-- a second list is left out where it is empty
pub no_else : (b : Block) → is_end b ≡ true → else_words b ≡ []
no_else End h = refl
no_else (Next s b) h = absurd (cc)

pub some_else : (b : Block) → is_end b ≡ false → else_words b ≡ word.Mark mark.Else ∷ in_braces (block_words b)
some_else End h = absurd (cc)
some_else (Next s b) h = refl

-- one level of a statement with two lists or more

pub shown_if : (at : ℕ) (e : Expr) (a b : shown.Block) → shown_stmt (stmt.If at e a b) ≡ tree.If at (shown_expr e) (shown_braced a).0 (shown_braced a).1 (shown_braced b).0 (shown_braced b).1
shown_if at e a b = search (rules, stmt.the_lemmas)

pub shown_patch : (at id_at : ℕ) (id : List ℕ) (a b : shown.Block) → shown_stmt (stmt.Patch at id_at id a b) ≡ tree.Patch at id_at id (shown_braced a).0 (shown_braced a).1 (shown_braced b).0 (shown_braced b).1
shown_patch at id_at id a b = search (rules, stmt.the_lemmas)

pub shown_parallel : (at : ℕ) (b : Branch) (bs : Vec Branch Global) (bs_end : ℕ) → shown_stmt (stmt.Parallel at b bs bs_end) ≡ tree.Parallel at (branches_of (shown_branch b ∷ map shown_branch bs.items)) bs_end
shown_parallel at b bs bs_end = search (rules, stmt.the_lemmas)

-- ---- texts

pub written_append : (a b : List ℕ) → all_written (a ++ b) ≡ all_written a ++ all_written b
written_append [] b = refl
written_append (c ∷ a) b = ap (λ t. written c ++ t) (written_append a b) ∙ sym (append_assoc (written c) (all_written a) (all_written b))

stands_for_itself : (b : ℕ) → (b ≡ 34 → ⊥) → (b ≡ 92 → ⊥) → (b ≡ 10 → ⊥) → written b ≡ b ∷ []
stands_for_itself b quote slash feed =
    let p : (b == 34) ≡ false = grind (arith, nat_tests) in
    let q : (b == 92) ≡ false = grind (arith, nat_tests) in
    let r : (b == 10) ≡ false = grind (arith, nat_tests) in
    rw (p, q, r) refl

all_stand : (bs : List ℕ) → ((k : ℕ) → k < length bs → (get_or bs k 0 ≡ 34 → ⊥) × ((get_or bs k 0 ≡ 92 → ⊥) × (get_or bs k 0 ≡ 10 → ⊥))) → all_written bs ≡ bs
all_stand [] h = refl
all_stand (b ∷ bs) h =
    let here = h 0 (omega arith) in
    ap (λ t. t ++ all_written bs) (stands_for_itself b here.0 here.1.0 here.1.1) ∙ ap (λ t. b ∷ t) (all_stand bs (λ k inside. h (suc k) (omega arith)))

-- a character other than ", \ and the line feed: none of its bytes is one of these
pub character_stands : (c : ℕ) → (c ≡ 34 → ⊥) → (c ≡ 92 → ⊥) → (c ≡ 10 → ⊥) → all_written (encode_utf8 c) ≡ encode_utf8 c
character_stands c quote slash feed = all_stand (encode_utf8 c) (λ k inside. (λ e. quote (only k inside 34 e (omega arith)), (λ e. slash (only k inside 92 e (omega arith)), λ e. feed (only k inside 10 e (omega arith)))))
  where
    only : (k : ℕ) → k < length (encode_utf8 c) → (b : ℕ) → get_or (encode_utf8 c) k 0 ≡ b → b < 128 → c ≡ b
    only k inside b e small = inside_one c [] (encode_utf8 c) k (sym (append-nil (encode_utf8 c))) inside (omega (arith, e)) ∙ e

-- one more character
pub character_then : (start old new rest left c text : List ℕ) → old ++ all_written rest ≡ start ++ all_written text → rest ≡ c ++ left → new ≡ old ++ all_written c → new ++ all_written left ≡ start ++ all_written text
character_then start old new rest left c text h e k =
    ap (λ t. t ++ all_written left) k ∙ append_assoc old (all_written c) (all_written left) ∙ ap (λ t. old ++ t) (sym (written_append c left)) ∙ ap (λ t. old ++ all_written t) (sym e) ∙ h

pub text_written : (start now rest text : List ℕ) → now ++ all_written rest ≡ start ++ all_written text → length rest ≡ 0 → now ≡ start ++ all_written text
text_written start now rest text h e = sym (append-nil now) ∙ ap (λ t. now ++ all_written t) (sym (nil_from_length rest e)) ∙ h
