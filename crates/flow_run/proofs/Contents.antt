-- Cells of equal content.
use Rattle.std.proofs.Common.{◌≡◌, ℕ, zero, suc, ◌+◌, ◌<◌, List, [], ◌∷◌, length, get_or, map, refl, sym, ap, ◌∙◌, subst, arith}
use Rattle.flow_nodes.specs.declared.table.Listing.{Listing}
use Rattle.flow_run.specs.Marks.{Mark}
use Rattle.flow_run.specs.Flat.{AreFull, AreFullCells, AreFullPlaces, blocks_of, content, contents_of, mark_by, mark_of, marks_of, task_rest, shown_doing}
use Rattle.flow_run.specs.Marks.{within}
use Rattle.flow_model.specs.Rest.{Rest}
use Rattle.flow_run.specs.declared.cell.Place.{Place}
use Rattle.flow_run.specs.declared.cell.Doing.{Doing}
use Rattle.flow_run.specs.declared.cell.Doing.TheVariants as doing
use Rattle.flow_run.specs.declared.cell.Cell.{Cell}

abbrev Content : Type 0
Content = List Place × Doing

abbrev first_content : Content → List Content → Content
first_content x [] = x
first_content x (y ∷ ys) = y

abbrev later_contents : List Content → List Content
later_contents [] = []
later_contents (x ∷ xs) = xs

pub head_same : (x y : Content) (xs ys : List Content) → ◌≡◌ {A = List Content} (x ∷ xs) (y ∷ ys) → x ≡ y
head_same x y xs ys e = ap (first_content x) e

pub tail_same : (x y : Content) (xs ys : List Content) → ◌≡◌ {A = List Content} (x ∷ xs) (y ∷ ys) → xs ≡ ys
tail_same x y xs ys e = ap later_contents e

abbrev mark_from : List Listing → Content → Mark
mark_from ls x = mark_by ls (blocks_of ls x.0) x.1

marks_from : (ls : List Listing) (cs : List Cell) → marks_of ls cs ≡ map (mark_from ls) (contents_of cs)
marks_from ls [] = refl
marks_from ls (c ∷ cs) = ap (λ (ms : List Mark). mark_of ls c ∷ ms) (marks_from ls cs)

-- the same marks
pub same_marks : (ls : List Listing) (cs ds : List Cell) → contents_of cs ≡ contents_of ds → marks_of ls cs ≡ marks_of ls ds
same_marks ls cs ds e = marks_from ls cs ∙ ap (map (mark_from ls)) e ∙ sym (marks_from ls ds)

full_from : (ls : List Listing) (c d : Cell) → content c ≡ content d → AreFull ls c → AreFull ls d
full_from ls c d e f = subst (λ (x : Content). AreFullPlaces ls x.0) e f

full_next : (ls : List Listing) (c d : Cell) (cs ds : List Cell) → content c ≡ content d → AreFullCells ls (c ∷ cs) → AreFullCells ls ds → (i : ℕ) (x : Cell) → i < suc (length ds) → AreFull ls (get_or (d ∷ ds) i x)
full_next ls c d cs ds e f g zero x h = full_from ls c d e (f 0 x (omega arith))
full_next ls c d cs ds e f g (suc i) x h = g i x (omega (arith, h))

-- what is full stays so
pub same_full : (ls : List Listing) (cs ds : List Cell) → contents_of cs ≡ contents_of ds → AreFullCells ls cs → AreFullCells ls ds
same_full ls [] [] e f = f
same_full ls [] (d ∷ ds) e f = cc
same_full ls (c ∷ cs) [] e f = cc
same_full ls (c ∷ cs) (d ∷ ds) e f =
    let rest : AreFullCells ls ds = same_full ls cs ds (tail_same (content c) (content d) (contents_of cs) (contents_of ds) e) (λ i x h. f (suc i) x (omega (arith, h))) in
    λ i x h. full_next ls c d cs ds (head_same (content c) (content d) (contents_of cs) (contents_of ds) e) f rest i x (omega (arith, h))

-- what is left of a task of the same content
pub same_task : (ls : List Listing) (c d : Cell) → content c ≡ content d → task_rest ls c ≡ task_rest ls d
same_task ls c d e = ap (λ (x : Content). within (blocks_of ls x.0) (shown_doing ls x.1)) e

pub same_mark_of : (ls : List Listing) (c d : Cell) → content c ≡ content d → mark_of ls c ≡ mark_of ls d
same_mark_of ls c d e = ap (mark_from ls) e
