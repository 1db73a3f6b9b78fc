-- The positions that were found, of which the code keeps the first.
use Rattle.std.specs.Prelude.{◌≡◌, Bool, true, List, length, take, refl}
use Rattle.std.specs.Coded.{Coded, code_by, coded×, coded_list}
use Rattle.flow_recover.specs.contracts.positions.Position as position_row
use Rattle.flow_recover.specs.declared.positions.Position.{Position}

pub record Finds : Type 0 where
  pub items : List Position
  pub first : List Position

abbrev pub finds_code : Coded Finds
finds_code =
    code_by (List Position × List Position) (coded× (coded_list position_row.the_row.coded) (coded_list position_row.the_row.coded))
    (λ f. (f.items, f.first)) (λ p. record { items = p.0; first = p.1 }) (λ _. refl)

-- these are the first of all, or all of them
abbrev pub AreFirst : List Position → Bool → List Position → Type 0
AreFirst first whole all = (first ≡ take (length first) all) × (whole ≡ true → first ≡ all)
