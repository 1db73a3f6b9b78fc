use Rattle.std.specs.Prelude.{◌≡◌, ◌∷◌, ◌+◌, ◌++◌, ◌<◌}
use Rattle.std.proofs.Common.{get_or, take}
use Rattle.std.proofs.lemmas.List.{take_more}
use Rattle.flow_tables.proofs.Names.{AllByRecursion, List, ℕ, length, [], subst, ◌∙◌, sym, ap, all-append}
use Rattle.flow_tables.proofs.utf8.all_are_utf8.Goals as goal

-- one row more
all_more : {A : Type 0} (P : A → Type 0) (xs : List A) (i : ℕ) (x : A) → i < length xs → x ≡ get_or xs i x → AllByRecursion P (take i xs) → P x → AllByRecursion P (take (i + 1) xs)
all_more P xs i x lt is all here = subst (AllByRecursion P) (ap (λ y. take i xs ++ y ∷ []) is ∙ sym (take_more xs i x lt)) (all-append P (take i xs) (x ∷ []) all (here, tt))

pub loop-row-preserved : goal.loop-row-preserved
loop-row-preserved g c = all_more g.R.HasTexts.utf8 c.args.rows.now c.loop-row.row-index c.row-item.result c.loop-row-test.true c.row-item.is c.loop-row.invariant c.is_utf8.ensures
