-- Texts that aren't damaged are those of a book.
use Rattle.std.proofs.Common.{◌≡◌, ℕ, ◌+◌, ℤ, pos, List, [], ◌∷◌, ◌++◌, map, Bool, true, false, ◌&&◌, refl, ap, ◌∙◌}
use Rattle.std.specs.List.{AllByRecursion}
use Rattle.std.specs.Ordering.{int_eq}
use Rattle.std.proofs.lemmas.Bool.Decides.{Decides-int_eq}
use Rattle.flow_base.specs.Syntax.{Bytes}
use Rattle.flow_rows.specs.declared.rows.TextRow.{TextRow}
use Rattle.flow_base.specs.declared.fault.Table.{Table}
use Rattle.flow_base.specs.declared.fault.Table.TheVariants as table
use Rattle.flow_rows.specs.Rows.{text_rows}
use Rattle.flow_rows.specs.Damages.{unless, text_fits, damages_of_texts}
use Rattle.flow_rows.specs.Told.{body_of}

pub front_none : {A : Type 0} (xs ys : List A) → xs ++ ys ≡ [] → xs ≡ []
front_none [] ys h = refl
front_none (x ∷ xs) ys h = absurd (let same = h in cc)

pub rest_none : {A : Type 0} (xs ys : List A) → xs ++ ys ≡ [] → ys ≡ []
rest_none [] ys h = h
rest_none (x ∷ xs) ys h = absurd (let same = h in cc)

-- a rule with no damage holds
pub holds : (b : Bool) (t : Table) (run place : ℤ) → unless b t run place ≡ [] → b ≡ true
holds true t run place h = refl
holds false t run place h = absurd (let same = h in cc)

pub both_left : (a b : Bool) → (a && b) ≡ true → a ≡ true
both_left true b h = refl
both_left false b h = absurd (let same = h in cc)

pub both_right : (a b : Bool) → (a && b) ≡ true → b ≡ true
both_right true b h = h
both_right false b h = absurd (let same = h in cc)

abbrev text_cells : ℤ → Bytes → TextRow
text_cells num body = record { num = num; body = body }

pub texts_are_rows : (p : Bytes → Bool) (n : ℕ) (rs : List TextRow) → damages_of_texts p n rs ≡ [] → rs ≡ text_rows n (map body_of rs)
texts_are_rows p n [] h = refl
texts_are_rows p n (r ∷ rs) h =
    let fits = holds (text_fits p n r) table.Text (pos 0) (pos n) (front_none _ (damages_of_texts p (n + 1) rs) h) in
    let numbered = (Decides-int_eq r.num (pos n)).0 (both_left (int_eq r.num (pos n)) (p r.body) fits) in
    let more = texts_are_rows p (n + 1) rs (rest_none (unless (text_fits p n r) table.Text (pos 0) (pos n)) _ h) in
    ap (λ z. text_cells z r.body ∷ rs) numbered ∙ ap (λ more. text_cells (pos n) r.body ∷ more) more

pub texts_are_programs : (p : Bytes → Bool) (n : ℕ) (rs : List TextRow) → damages_of_texts p n rs ≡ [] → AllByRecursion (λ t. p t ≡ true) (map body_of rs)
texts_are_programs p n [] h = tt
texts_are_programs p n (r ∷ rs) h =
    let fits = holds (text_fits p n r) table.Text (pos 0) (pos n) (front_none _ (damages_of_texts p (n + 1) rs) h) in
    (both_right (int_eq r.num (pos n)) (p r.body) fits, texts_are_programs p (n + 1) rs (rest_none (unless (text_fits p n r) table.Text (pos 0) (pos n)) _ h))
