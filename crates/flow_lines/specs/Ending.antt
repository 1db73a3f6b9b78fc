-- What a program says of a fault on standard error.
use Rattle.std.specs.Prelude.{◌⊎◌, ℕ, List, [], ◌∷◌, ◌++◌, Option}
use Rattle.std.specs.Io.KnownBytes.{Appends}
use Rattle.flow_base.specs.declared.fault.Fault.{Fault}
use Rattle.flow_lines.specs.Driving.{WritesBeginning}
use Rattle.flow_lines.specs.Faults.{fault_text, short_text}

-- A beginning of a fault's line was written; where no memory was left for what stands behind the number, of the number's.
abbrev pub SaysFault : Fault → Option (List ℕ) → Option (List ℕ) → Type 0
SaysFault f old new = WritesBeginning old new (fault_text f ++ 10 ∷ []) ⊎ WritesBeginning old new (short_text f ++ 10 ∷ [])

-- All of the line was written, or of the number's, and what comes behind it is open.
abbrev pub SaysFirst : Fault → Option (List ℕ) → Option (List ℕ) → Type 0
SaysFirst f old new = (behind : List ℕ) × (Appends old new ((fault_text f ++ 10 ∷ []) ++ behind) ⊎ Appends old new ((short_text f ++ 10 ∷ []) ++ behind))

-- All of the line was written, or of the number's.
abbrev pub SaysLine : Fault → Option (List ℕ) → Option (List ℕ) → Type 0
SaysLine f old new = Appends old new (fault_text f ++ 10 ∷ []) ⊎ Appends old new (short_text f ++ 10 ∷ [])
