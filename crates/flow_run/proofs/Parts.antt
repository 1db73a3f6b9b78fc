-- What is left at a place, one statement after the other.
use Rattle.std.proofs.Common.{◌≡◌, ℕ, zero, suc, ◌+◌, ◌-◌, ◌<◌, ◌≤◌, add-one, List, [], ◌∷◌, ◌++◌, length, get_or, take, drop, set, map, refl, sym, ap, ◌∙◌, arith, Option, Some, None, Bool, true, false}
use Rattle.std.specs.Prelude.{slice_get}
use Rattle.std.proofs.lemmas.Bool.{true≢false}
use Rattle.flow_base.specs.Syntax.{Statement, Block, End, Next, block_of}
use Rattle.flow_base.specs.Shown.{shown_stmt}
use Rattle.flow_base.specs.declared.syntax.Stmt.{Stmt}
use Rattle.std.proofs.lemmas.List.{take_all, take_more, set_split, drop_all, get_or_default}
use Rattle.flow_model.specs.Rest.{Rest, Done, Then, is_end, rest_of}
use Rattle.flow_model.specs.Step.{followed_by}
use Rattle.flow_run.specs.Marks.{within}
use Rattle.flow_run.specs.Flat.{AreFullPlaces, IsFull, IsNext, blocks_of, left_at}
use Rattle.flow_nodes.specs.Links.{block_at, stmts_at}
use Rattle.flow_nodes.specs.declared.table.Listing.{Listing}
use Rattle.flow_run.specs.declared.cell.Place.{Place}
use Rattle.flow_run.proofs.Forest.{within_append}

-- the statements from one number up to another, as a block
abbrev pub part : List Stmt → ℕ → ℕ → Block
part ss to at = block_of (map shown_stmt (drop at (take to ss)))

-- a place at which something is left has a statement
pub record First (ss : List Stmt) (to at : ℕ) : Type 0 where
  pub stmt : Stmt
  pub there : slice_get ss at ≡ Some stmt
  pub first : part ss to at ≡ Next (shown_stmt stmt) (part ss to (suc at))
  pub within_list : at < length ss
  pub within_part : at < to

pub first_of : (ss : List Stmt) (to at : ℕ) → is_end (part ss to at) ≡ false → First ss to at
first_of [] zero zero e = absurd (true≢false e)
first_of [] zero (suc at) e = absurd (true≢false e)
first_of [] (suc to) zero e = absurd (true≢false e)
first_of [] (suc to) (suc at) e = absurd (true≢false e)
first_of (s ∷ ss) zero zero e = absurd (true≢false e)
first_of (s ∷ ss) zero (suc at) e = absurd (true≢false e)
first_of (s ∷ ss) (suc to) zero e = record { stmt = s; there = refl; first = refl; within_list = omega arith; within_part = omega arith }
first_of (s ∷ ss) (suc to) (suc at) e =
    let f = first_of ss to at e in
    record { stmt = f.stmt; there = f.there; first = f.first; within_list = omega (arith, f.within_list); within_part = omega (arith, f.within_part) }

-- a statement alone
pub alone : (ss : List Stmt) (at : ℕ) (s : Stmt) → slice_get ss at ≡ Some s → part ss (suc at) at ≡ Next (shown_stmt s) End
alone [] at s e = cc
alone (x ∷ ss) zero s e = ap (λ (y : Stmt). Next (shown_stmt y) End) (some_is x s e)
  where
    some_is : (x y : Stmt) → Some x ≡ Some y → x ≡ y
    some_is x y e = cc
alone (x ∷ ss) (suc at) s e = alone ss at s e

-- whether a place has a statement
pub begun_part : (ss : List Stmt) (to i : ℕ) → i < length ss → i < to → is_end (part ss to i) ≡ false
begun_part [] to i h k = absurd (omega (arith, h))
begun_part (s ∷ ss) zero i h k = absurd (omega (arith, k))
begun_part (s ∷ ss) (suc to) zero h k = refl
begun_part (s ∷ ss) (suc to) (suc i) h k = begun_part ss to i (omega (arith, h)) (omega (arith, k))

pub ended_part : (ss : List Stmt) (to i : ℕ) → to ≤ i → is_end (part ss to i) ≡ true
ended_part ss zero zero h = refl
ended_part ss zero (suc i) h = refl
ended_part ss (suc to) zero h = absurd (omega (arith, h))
ended_part [] (suc to) (suc i) h = refl
ended_part (s ∷ ss) (suc to) (suc i) h = ended_part ss to i (omega (arith, h))

pub ended_list : (ss : List Stmt) (to i : ℕ) → length ss ≤ i → is_end (part ss to i) ≡ true
ended_list [] zero zero h = refl
ended_list [] zero (suc i) h = refl
ended_list [] (suc to) zero h = refl
ended_list [] (suc to) (suc i) h = refl
ended_list (s ∷ ss) to zero h = absurd (omega (arith, h))
ended_list (s ∷ ss) zero (suc i) h = refl
ended_list (s ∷ ss) (suc to) (suc i) h = ended_list ss to i (omega (arith, h))

pub blocks_append : (ls : List Listing) (ps qs : List Place) → blocks_of ls (ps ++ qs) ≡ blocks_of ls ps ++ blocks_of ls qs
blocks_append ls [] qs = refl
blocks_append ls (p ∷ ps) qs = ap (λ (bs : List Block). left_at ls p ∷ bs) (blocks_append ls ps qs)

-- a whole list begins
pub entered : (ls : List Listing) (ps : List Place) (list to : ℕ) → to ≡ length (stmts_at ls list) → within (blocks_of ls (ps ++ (record { list = list; at = 0; to = to } ∷ []))) Done ≡ within (blocks_of ls ps) (rest_of (block_at ls list))
entered ls ps list to e =
    ap (λ (bs : List Block). within bs Done) (blocks_append ls ps (record { list = list; at = 0; to = to } ∷ []))
    ∙ within_append (blocks_of ls ps) (left_at ls (record { list = list; at = 0; to = to }) ∷ []) Done
    ∙ ap (λ (ss : List Stmt). within (blocks_of ls ps) (Then Done (block_of (map shown_stmt ss)))) (take_all to (stmts_at ls list) (omega (arith, e)))

followed_is : (b : Block) (r : Rest) → is_end b ≡ false → Then r b ≡ followed_by b r
followed_is End r e = cc
followed_is (Next s b) r e = refl

-- one statement further
abbrev pub more : Place → Place
more p = record { list = p.list; at = p.at + 1; to = p.to }

pub next_more : (ls : List Listing) (us ps qs : List Place) (p : Place) → ps ≡ us ++ (p ∷ []) → qs ≡ us ++ (more p ∷ []) → IsFull ls p → is_end (left_at ls (more p)) ≡ false → IsNext ls ps qs p
next_more ls us ps qs p e f full h =
    let first = first_of (stmts_at ls p.list) p.to p.at full in
    let rest : part (stmts_at ls p.list) p.to (suc p.at) ≡ left_at ls (more p) = ap (part (stmts_at ls p.list) p.to) (sym (add-one p.at)) in
    record {
      stmt = first.stmt;
      rest = left_at ls (more p);
      under = blocks_of ls us;
      blocks = ap (blocks_of ls) e ∙ blocks_append ls us (p ∷ [])
          ∙ ap (λ (b : Block). blocks_of ls us ++ (b ∷ [])) (first.first ∙ ap (Next (shown_stmt first.stmt)) rest);
      there = first.there;
      left = λ q. ap (λ (xs : List Place). within (blocks_of ls xs) q) f ∙ ap (λ (bs : List Block). within bs q) (blocks_append ls us (more p ∷ []))
          ∙ within_append (blocks_of ls us) (left_at ls (more p) ∷ []) q ∙ ap (within (blocks_of ls us)) (followed_is (left_at ls (more p)) q h);
    }

ended_is : (b : Block) (q : Rest) → is_end b ≡ true → q ≡ followed_by b q
ended_is End q e = refl
ended_is (Next s b) q e = absurd (true≢false (sym e))

pub next_last : (ls : List Listing) (us ps qs : List Place) (p : Place) → ps ≡ us ++ (p ∷ []) → qs ≡ us → IsFull ls p → is_end (left_at ls (more p)) ≡ true → IsNext ls ps qs p
next_last ls us ps qs p e f full h =
    let first = first_of (stmts_at ls p.list) p.to p.at full in
    let rest : part (stmts_at ls p.list) p.to (suc p.at) ≡ left_at ls (more p) = ap (part (stmts_at ls p.list) p.to) (sym (add-one p.at)) in
    record {
      stmt = first.stmt;
      rest = left_at ls (more p);
      under = blocks_of ls us;
      blocks = ap (blocks_of ls) e ∙ blocks_append ls us (p ∷ [])
          ∙ ap (λ (b : Block). blocks_of ls us ++ (b ∷ [])) (first.first ∙ ap (Next (shown_stmt first.stmt)) rest);
      there = first.there;
      left = λ q. ap (λ (xs : List Place). within (blocks_of ls xs) q) f ∙ ap (within (blocks_of ls us)) (ended_is (left_at ls (more p)) q h);
    }

-- the last of a list
pub last_at : (ps : List Place) (n : ℕ) (d : Place) → n + 1 ≡ length ps → ps ≡ take n ps ++ (get_or ps n d ∷ [])
last_at ps n d e = sym (take_all (n + 1) ps (omega (arith, e))) ∙ take_more ps n d (omega (arith, e))

pub full_at : (ls : List Listing) (ps : List Place) (n : ℕ) (d : Place) → n < length ps → AreFullPlaces ls ps → IsFull ls (get_or ps n d)
full_at ls ps n d h f = f n d h

pub set_last : (ps : List Place) (n : ℕ) (x y : Place) → n + 1 ≡ length ps → x ≡ y → set ps n x ≡ take n ps ++ (y ∷ [])
set_last ps n x y e f =
    set_split ps n x (omega (arith, e)) ∙ ap (λ (xs : List Place). take n ps ++ (x ∷ xs)) (drop_all (suc n) ps (omega (arith, e)))
    ∙ ap (λ (z : Place). take n ps ++ (z ∷ [])) f

pub same_at : (ps : List Place) (n : ℕ) (x y : Place) → n < length ps → x ≡ get_or ps n x → y ≡ get_or ps n y → x ≡ y
same_at ps n x y h e f = e ∙ get_or_default ps n x y h ∙ sym f

-- what a statement that begins again leaves
pub again_at : (ls : List Listing) (p : Place) (st : Stmt) → slice_get (stmts_at ls p.list) p.at ≡ Some st → left_at ls (record { list = p.list; at = p.at; to = p.at + 1 }) ≡ Next (shown_stmt st) End
again_at ls p st e = ap (λ n. part (stmts_at ls p.list) n p.at) (add-one p.at) ∙ alone (stmts_at ls p.list) p.at st e

-- a place more
pub pushed_place : (ls : List Listing) (ps : List Place) (p : Place) (r : Rest) → within (blocks_of ls (ps ++ (p ∷ []))) r ≡ within (blocks_of ls ps) (Then r (left_at ls p))
pushed_place ls ps p r = ap (λ (bs : List Block). within bs r) (blocks_append ls ps (p ∷ [])) ∙ within_append (blocks_of ls ps) (left_at ls p ∷ []) r
