-- What the program says on standard error where it ends early: the fault, and why.
use Rattle.std.specs.Prelude.{◌⊎◌, ℕ, List, [], ◌∷◌, ◌++◌, Option}
use Rattle.std.specs.Io.KnownBytes.{Appends}
use Rattle.flow_lines.specs.Driving.{WritesBeginning}
use Rattle.flow_lines.specs.Faults.{fault_text, short_text}
use Rattle.flow_cli.specs.Reasons.{reason_text}
use Rattle.flow_cli.specs.declared.reason.Early.{Early}

-- A beginning was written of the fault's line and of the lines of the reason behind it, or of the number's line and of those.
abbrev pub SaysEarly : Early → Option (List ℕ) → Option (List ℕ) → Type 0
SaysEarly e old new =
    WritesBeginning old new ((fault_text e.fault ++ 10 ∷ []) ++ reason_text e.reason) ⊎ WritesBeginning old new ((short_text e.fault ++ 10 ∷ []) ++ reason_text e.reason)

-- All of both was written.
abbrev pub SaysAll : Early → Option (List ℕ) → Option (List ℕ) → Type 0
SaysAll e old new =
    Appends old new ((fault_text e.fault ++ 10 ∷ []) ++ reason_text e.reason) ⊎ Appends old new ((short_text e.fault ++ 10 ∷ []) ++ reason_text e.reason)
