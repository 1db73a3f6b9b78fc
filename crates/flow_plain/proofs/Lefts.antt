-- What is left of a list of statements.
use Rattle.std.proofs.Common.{◌≡◌, ℕ, suc, zero, ◌+◌, ◌<◌, add-one, List, [], ◌∷◌, length, get_or, take, refl, sym, ap, ◌∙◌, arith, false}
use Rattle.flow_base.specs.Syntax.{Statement, Block, End, Next}
use Rattle.flow_base.specs.Shown.{shown_stmt}
use Rattle.flow_base.specs.declared.syntax.Stmt.{Stmt}
use Rattle.flow_model.specs.Rest.{Rest, Then, is_end}
use Rattle.flow_model.specs.Step.{followed_by}
use Rattle.flow_plain.specs.Shown.{left_from}

left_suc : (ss : List Stmt) (i : ℕ) (d : Stmt) → i < length ss → left_from ss i ≡ Next (shown_stmt (get_or ss i d)) (left_from ss (suc i))
left_suc [] i d h = absurd (omega (arith, h))
left_suc (s ∷ ss) zero d h = refl
left_suc (s ∷ ss) (suc i) d h = left_suc ss i d (omega (arith, h))

-- the statement at a place, and what is left after it
pub left_at : (ss : List Stmt) (i : ℕ) (d s : Stmt) → i < length ss → s ≡ get_or ss i d → left_from ss i ≡ Next (shown_stmt s) (left_from ss (i + 1))
left_at ss i d s h e = left_suc ss i d h ∙ ap (λ (q : Stmt). Next (shown_stmt q) (left_from ss (suc i))) (sym e) ∙ ap (λ j. Next (shown_stmt s) (left_from ss j)) (sym (add-one i))

alone_suc : (ss : List Stmt) (to i : ℕ) (st : Statement) (b : Block) → left_from (take to ss) i ≡ Next st b → left_from (take (suc i) ss) i ≡ Next st End
alone_suc [] zero zero st b e = cc
alone_suc [] zero (suc i) st b e = cc
alone_suc [] (suc to) zero st b e = cc
alone_suc [] (suc to) (suc i) st b e = cc
alone_suc (s ∷ ss) zero zero st b e = cc
alone_suc (s ∷ ss) zero (suc i) st b e = cc
alone_suc (s ∷ ss) (suc to) zero st b e = cc
alone_suc (s ∷ ss) (suc to) (suc i) st b e = alone_suc ss to i st b e

-- of a list up to the statement at a place, that statement is left there alone
pub alone_at : (ss : List Stmt) (to i : ℕ) (st : Statement) (b : Block) → left_from (take to ss) i ≡ Next st b → left_from (take (i + 1) ss) i ≡ Next st End
alone_at ss to i st b e = ap (λ j. left_from (take j ss) i) (add-one i) ∙ alone_suc ss to i st b e

followed_is : (b : Block) (r : Rest) → is_end b ≡ false → Then r b ≡ followed_by b r
followed_is End r e = cc
followed_is (Next s b) r e = refl

-- a statement of a list that begins again, alone, before those after it
pub again_before : (ss : List Stmt) (to i : ℕ) (st : Statement) (q r : Rest) → q ≡ Then r (left_from (take (i + 1) ss) i) → is_end (left_from (take to ss) (i + 1)) ≡ false → left_from (take to ss) i ≡ Next st (left_from (take to ss) (i + 1)) → Then q (left_from (take to ss) (i + 1)) ≡ followed_by (left_from (take to ss) (i + 1)) (Then r (Next st End))
again_before ss to i st q r e f h =
    ap (λ (x : Rest). Then x (left_from (take to ss) (i + 1))) (e ∙ ap (λ (b : Block). Then r b) (alone_at ss to i st (left_from (take to ss) (i + 1)) h))
    ∙ followed_is (left_from (take to ss) (i + 1)) (Then r (Next st End)) f
