-- Numbers that no run has.
use Rattle.std.specs.Prelude.{◌⊎◌, ◌∷◌}
use Rattle.flow_tables.specs.Names.{List, Some, ℤ, []}
use Rattle.flow_tables.specs.Owned.{IsBelowOne}

-- one of them is below 1
abbrev pub HasLow : List ℤ → Type 0
HasLow [] = ⊥
HasLow (z ∷ zs) = IsBelowOne (Some z) ⊎ HasLow zs
