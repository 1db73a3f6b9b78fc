-- The first damage of lists one after another.
use Rattle.std.proofs.Common.{◌≡◌, List, [], ◌∷◌, ◌++◌, Some, None, refl}
use Rattle.flow_base.specs.declared.fault.Damage.{Damage}
use Rattle.flow_rows.specs.Damages.{first_of}

pub none_first : (xs : List Damage) → first_of xs ≡ None → xs ≡ []
none_first [] h = refl
none_first (x ∷ xs) h = absurd (let same = h in cc)

pub first_later : (xs ys : List Damage) → first_of xs ≡ None → first_of (xs ++ ys) ≡ first_of ys
first_later [] ys h = refl
first_later (x ∷ xs) ys h = absurd (let same = h in cc)

pub first_here : (xs ys : List Damage) (d : Damage) → first_of xs ≡ Some d → first_of (xs ++ ys) ≡ Some d
first_here [] ys d h = absurd (let same = h in cc)
first_here (x ∷ xs) ys d h = h
